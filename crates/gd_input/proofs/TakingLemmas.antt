-- Bytes that are taken from a source, one piece after another.
use Rattle.std.proofs.Common.{List, ℕ, ◌++◌, ap, ◌∙◌, append_assoc}
use Rattle.std.proofs.lemmas.Bool.{false≢true}
use Rattle.std.specs.Prelude.{IsErr, Option, Result, Ok, Err}
use Rattle.gd_input.specs.declared.next.Next.{Next}
use Rattle.gd_input.specs.Cutting.{HasNoLf}
use Rattle.gd_input.specs.Reading.{Reads, Takes}
use Rattle.gd_outside.proofs.ToldLemmas.{hands_out_then}

pub takes_then : {p q r : List ℕ} {a b c : Option (List ℕ)} → Takes p a q b → Takes q b r c → Takes p a r c
takes_then {p = p} h k = record {
  taken = h.taken ++ k.taken;
  handed = hands_out_then h.handed k.handed;
  are = k.are ∙ ap (λ z. z ++ k.taken) h.are ∙ append_assoc p h.taken k.taken;
}

-- what a reader has that failed to read
pub reads_failed : {A E : Type 0} {p q : List ℕ} {a b : Option (List ℕ)} (read : List ℕ → A)
    (result : Result (Next A) E)
    → IsErr result → Takes p a q b → HasNoLf q → Reads read p a result q b
reads_failed read (Ok next) is takes no_lf = absurd (false≢true is)
reads_failed read (Err failed) is takes no_lf = (takes, no_lf)
