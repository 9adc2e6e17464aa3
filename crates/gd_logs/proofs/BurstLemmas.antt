-- A record whose bytes were changed within a row of at most 32 bits is none of the same site.
use Rattle.std.proofs.Common.{◌≡◌, ◌≢◌, ◌∙◌, ℕ, ◌<◌, ◌^◌, true, List, ◌++◌, Ok, refl, sym, ap}
use Rattle.std.proofs.lemmas.List.{append_cancel_right}
use Rattle.gd_base.specs.Stamps.{Stamp}
use Rattle.gd_check.specs.Checks.{IsBurst, check}
use Rattle.gd_check.proofs.Bursts.{bursts_found}
use Rattle.gd_check.proofs.Checked.{checked_alike_behind}
use Rattle.gd_events.specs.Events.{EventValue}
use Rattle.gd_grammar.specs.Chains.{check_at}
use Rattle.gd_grammar.specs.FieldBytes.{AreBytes, check_bytes}
use Rattle.gd_grammar.specs.HeaderBytes.{Header}
use Rattle.gd_grammar.specs.KindLaws.{KindLaws}
use Rattle.gd_grammar.specs.Kinds.{LogKind, spelling}
use Rattle.gd_grammar.specs.LogBytes.{record_at, record_bytes}
use Rattle.gd_grammar.specs.Versions.{has_checks}
use Rattle.gd_grammar.proofs.ChainLemmas.{check_at-lt}
use Rattle.gd_grammar.proofs.Exact.{front_bytes}
use Rattle.gd_logs.proofs.RecordLemmas.{record-read}

-- bytes with their check behind them, behind what has that check
abbrev checked_after : ℕ → List ℕ → List ℕ
checked_after c bytes = bytes ++ check_bytes (check c bytes)

module _ {O : Type 0} {IsOp : Stamp → O → Type 0} {kind : LogKind O} (laws : KindLaws IsOp kind) where
  pub changed-found : (h : Header) (seen : List (EventValue O)) (e f : EventValue O) (bytes rest : List ℕ)
      → has_checks h.version ≡ true → AreBytes (record_bytes kind h.version seen e) → AreBytes (bytes ++ rest)
      → IsBurst (record_bytes kind h.version seen e) bytes → bytes ≢ record_bytes kind h.version seen e
      → f.stamp.site ≡ e.stamp.site → record_at kind h seen (bytes ++ rest) ≢ Ok (f, rest)
  changed-found h seen e f bytes rest has are all_are burst differs site read =
      let took = record-read laws h seen (bytes ++ rest) (f, rest) all_are read in
      let c = check_at kind e.stamp.site seen in
      let low : c < 2 ^ 32 = check_at-lt kind e.stamp.site seen in
      let of_e : record_bytes kind h.version seen e ≡ checked_after c (spelling kind e) = rw has refl in
      let of_f : record_bytes kind h.version seen f ≡ checked_after c (spelling kind f) =
      rw has (ap (λ (s : ℕ). checked_after (check_at kind s seen) (spelling kind f)) site) in
      let is : bytes ≡ checked_after c (spelling kind f) =
      append_cancel_right bytes (record_bytes kind h.version seen f) rest took.is ∙ of_f in
      let bytes_are = front_bytes bytes rest (bytes ++ rest) all_are refl in
      let e_are =
      front_bytes (spelling kind e) (check_bytes (check c (spelling kind e)))
      (record_bytes kind h.version seen e) are of_e in
      let f_are = front_bytes (spelling kind f) (check_bytes (check c (spelling kind f))) bytes bytes_are is in
      let alike : check c (record_bytes kind h.version seen e) ≡ check c bytes =
      ap (check c) of_e ∙ checked_alike_behind c (spelling kind e) (spelling kind f) low e_are f_are
      ∙ ap (check c) (sym is) in
      differs (sym (bursts_found c (record_bytes kind h.version seen e) bytes low are bytes_are burst alike))
