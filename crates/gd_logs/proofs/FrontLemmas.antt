-- A log that is read up to its first fault.
use Rattle.std.proofs.Common.{◌≡◌, inl, inr, ℕ, ◌+◌, List, [], ◌++◌, length, refl, sym, ap, subst, ◌∙◌}
use Rattle.std.specs.Prelude.{Some, None, Err}
use Rattle.std.proofs.lemmas.List.{append-nil}
use Rattle.gd_base.specs.declared.fault.LogWhy.{LogWhy}
use Rattle.gd_base.specs.Stamps.{Stamp}
use Rattle.gd_events.specs.Events.{EventValue}
use Rattle.gd_grammar.specs.Chains.{no_chains}
use Rattle.gd_grammar.specs.Closing.{gate_place}
use Rattle.gd_grammar.specs.HeaderBytes.{Header, header_bytes}
use Rattle.gd_grammar.specs.KindLaws.{KindLaws}
use Rattle.gd_grammar.specs.Kinds.{LogKind}
use Rattle.gd_grammar.specs.LogBytes.{gated_bytes, in_log, log, step_at}
use Rattle.gd_grammar.proofs.ExactHeader.{exact_header}
use Rattle.gd_logs.specs.Fronts.{Begins, IsFront}
use Rattle.gd_logs.specs.Reader.{Reader, StartIs}
use Rattle.gd_logs.specs.Steps.{NextIs, ReadSoFar}
use Rattle.gd_logs.specs.Turns.{AreZero}
use Rattle.gd_logs.specs.Written.{IsRuled}
use Rattle.gd_logs.specs.declared.log.ReadError.TheVariants.{Log}
use Rattle.gd_logs.specs.declared.stopped.LogFault.TheVariants.{Bad}
use Rattle.gd_logs.proofs.EventLemmas.{log_from, log-refused, log-start, log-stopped}

module _ {O : Type 0} {IsOp : Stamp → O → Type 0} {kind : LogKind O} (laws : KindLaws IsOp kind) where
  -- behind the header of a log without events
  pub front-start : (h : Header) (left : List ℕ) → IsRuled IsOp kind h []
      → log kind (header_bytes kind h ++ left) ≡ log_from kind h [] left
  front-start h left ruled =
      log-start laws (header_bytes kind h ++ left) left h
      (ap in_log ((exact_header kind laws.magic).written h left
      (record { is = ruled.header; session = ruled.session; version = ruled.version })))

module _ {O : Type 0} (IsOp : Stamp → O → Type 0) (kind : LogKind O) where
  -- no event was read so far
  pub front-begun : (h : Header) (at : ℕ) (told : Type 0) (left : List ℕ) → IsRuled IsOp kind h []
      → at ≡ gate_place kind h.version []
      → ReadSoFar IsOp kind h [] at told (header_bytes kind h ++ left) left
  unfolding gated_bytes
  front-begun h at told left ruled there = record {
    ruled = ruled;
    there = there;
    is = λ _. ap (λ (l : List ℕ). l ++ left) (sym (append-nil (header_bytes kind h)));
  }

  -- a step behind the events that were read is a fault
  pub front-stops : (h : Header) (events : List (EventValue O)) (all bytes rest : List ℕ) (at at' there : ℕ)
      (why : LogWhy) (told : Type 0) → ReadSoFar IsOp kind h events at told all bytes → told
      → log kind all ≡ log_from kind h events bytes → at + length bytes ≡ length all
      → NextIs (Err (Log (Bad there why))) (step_at kind h events bytes) at bytes at' rest
      → IsFront IsOp kind events (Some (record { at = there; why = why })) all
  front-stops h events all bytes rest at at' there why told so_far t same sum next = (
    log-stopped kind (Log (Bad there why)) h events all bytes rest at at' same sum next,
    inl (record {
      h = h;
      rest = bytes;
      fault = record { why = why; left = next.1.left };
      ruled = so_far.ruled;
      is = so_far.is t;
      step = next.1.is;
    }),
  )

  -- the header is a fault
  pub front-refused : (at : ℕ) (why : LogWhy) (all left : List ℕ) → StartIs kind (Err (Bad at why)) all left
      → IsFront IsOp kind [] (Some (record { at = at; why = why })) all
  front-refused at why all left start = (
    log-refused kind (Bad at why) all left start,
    inr (record { fault = record { why = why; left = start.left }; header = start.is; none = refl }),
  )

  -- a reader of a log stands behind its header at first
  pub front-begins : (r : Reader) (h : Header) (told : Type 0) (all left : List ℕ) → r.header ≡ h → AreZero r.turns
      → r.chains ≡ no_chains → r.stopped ≡ None → ReadSoFar IsOp kind h [] r.place told all left → Begins IsOp kind r
  front-begins r h told all left same fresh unchained on so_far = record {
    ruled = subst (λ (x : Header). IsRuled IsOp kind x []) (sym same) so_far.ruled;
    there = so_far.there ∙ ap (λ (x : Header). gate_place kind x.version []) (sym same);
    fresh = fresh;
    unchained = unchained;
    on = on;
  }

  -- and then all bytes are that header and what is left
  pub front-whole : (x h : Header) (at : ℕ) (told : Type 0) (all left : List ℕ) → x ≡ h
      → ReadSoFar IsOp kind h [] at told all left → told → all ≡ header_bytes kind x ++ left
  unfolding gated_bytes
  front-whole x h at told all left same so_far t =
      so_far.is t ∙ ap (λ (l : List ℕ). l ++ left) (append-nil (header_bytes kind h))
      ∙ ap (λ (y : Header). header_bytes kind y ++ left) (sym same)
