-- The bytes of events that aren't in the journal yet.
use Rattle.std.proofs.Common.{◌≡◌, ◌∙◌, ℕ, ◌+◌, ◌-◌, ◌<◌, List, [], ◌∷◌, ◌++◌, length, get_or, take, refl, sym, ap}
use Rattle.std.proofs.Common.{subst, arith, append-nil, append_assoc, length-append}
use Rattle.std.proofs.lemmas.List.{take_at, take_more}
use Rattle.gd_base.specs.declared.version.Version.TheVariants.{Three}
use Rattle.gd_events.specs.Events.{Event}
use Rattle.gd_grammar.proofs.GatedBytes.{gate_place-all, gated-append, gated-one}
use Rattle.gd_grammar.specs.Chains.{AreChains}
use Rattle.gd_grammar.specs.Drawings.{drawings}
use Rattle.gd_grammar.specs.LogBytes.{gate, gated_bytes, record_bytes}
use Rattle.gd_member.specs.Unwritten.{AreUnwritten, UnwrittenValue, piece_of}

abbrev gated : List Event → List Event → List ℕ
gated written others = gated_bytes drawings Three written others

-- without the closed gate at their end
abbrev pub opened : List ℕ → List ℕ
opened bytes = take (length bytes - 1) bytes

-- of one event and more there is a closed gate
some_piece : (written others : List Event) (e : Event)
    → piece_of written (others ++ e ∷ []) ≡ gated written (others ++ e ∷ []) ++ 0 ∷ []
some_piece written [] e = refl
some_piece written (o ∷ os) e = refl

-- without it there are the events behind their gates
pub opened_piece : (written others : List Event) → opened (piece_of written others) ≡ gated written others
unfolding gated_bytes
opened_piece written [] = refl
opened_piece written (e ∷ es) =
    let all = gated written (e ∷ es) in
    take_at all (0 ∷ []) (length (all ++ 0 ∷ []) - 1) (omega (arith, length-append all (0 ∷ [])))

module _ (written others : List Event) (u : UnwrittenValue) (are : AreUnwritten written others u) where
  opened_are : opened u.bytes ≡ gated written others
  opened_are = ap opened are.bytes_are ∙ opened_piece written others

  -- with one more
  pub one_added : (e : Event) (v : UnwrittenValue) (record_is : List ℕ) → v.place ≡ u.place
      → v.bytes ≡ (opened u.bytes ++ record_is) ++ 0 ∷ []
      → record_is ≡ gate ∷ record_bytes drawings Three (written ++ others) e
      → AreChains drawings v.chains ((written ++ others) ++ e ∷ []) → AreUnwritten written (others ++ e ∷ []) v
  one_added e v record_is at put spelled chained = record {
    place_is = at ∙ are.place_is;
    bytes_are =
        put
        ∙ ap (λ l. l ++ 0 ∷ []) (
        (λ i. opened_are i ++ (spelled ∙ sym (gated-one drawings Three (written ++ others) e)) i)
        ∙ sym (gated-append drawings Three written others (e ∷ [])))
        ∙ sym (some_piece written others e);
    chained = subst (AreChains drawings v.chains) (append_assoc written others (e ∷ [])) chained;
  }

  -- the journal has them all
  pub all_written : (v : UnwrittenValue) → v.place ≡ u.place + length (opened u.bytes) → v.bytes ≡ []
      → v.chains ≡ u.chains → AreUnwritten (written ++ others) [] v
  all_written v at none same = record {
    place_is = omega (arith, at, are.place_is, ap length opened_are, gate_place-all drawings Three written others);
    bytes_are = none;
    chained =
        subst (λ l. AreChains drawings v.chains l) (sym (append-nil (written ++ others)))
        (subst (λ chains. AreChains drawings chains (written ++ others)) (sym same) are.chained);
  }

-- none more
pub none_more : (written others : List Event) (u : UnwrittenValue) → AreUnwritten written others u
    → AreUnwritten written (others ++ []) u
none_more written others u are = subst (λ l. AreUnwritten written l u) (sym (append-nil others)) are

-- the first so many of a list, and the next
pub added_more : (es : List Event) (k : ℕ) (e d : Event) (written others : List Event) (v : UnwrittenValue)
    → k < length es
    → e ≡ get_or es k d → AreUnwritten written ((others ++ take k es) ++ e ∷ []) v
    → AreUnwritten written (others ++ take (k + 1) es) v
added_more es k e d written others v lt is are =
    subst (λ l. AreUnwritten written l v)
    (append_assoc others (take k es) (e ∷ [])
    ∙ ap (λ l. others ++ l) (ap (λ x. take k es ++ x ∷ []) is ∙ sym (take_more es k d lt))) are
