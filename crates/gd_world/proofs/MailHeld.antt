-- A world in which memory ran out has no mail: so one that has a mail has a world that it stands for.
use Rattle.std.proofs.Common.{◌≡◌, ℕ, ◌-◌, Bool, true, false, List, [], inl, inr, slice_get, ◌∙◌, ap}
use Rattle.std.specs.Prelude.{None, Some, nat_eq, if◌then◌else◌}
use Rattle.gd_grammar.specs.FrameBytes.{Frame}
use Rattle.gd_world.proofs.Deliveries.{IsGot}
use Rattle.gd_world.specs.Standing.{HasWorld, IsKept, WorldValue}

none_got : (zeroth : Bool) (k : ℕ) (f : Frame) → Some f ≡ (if zeroth then None else slice_get [] k) → ⊥
none_got true k f e = cc
none_got false k f e = cc

pub has_mail : (v : WorldValue) (number : ℕ) (f : Frame) → IsGot v.mail number f → IsKept v → HasWorld v
has_mail v number f got (inl has) = has
has_mail v number f got (inr spent) =
    absurd (none_got (nat_eq number 0) (number - 1) f
    (got ∙ ap (λ (mails : List Frame). if nat_eq number 0 then None else slice_get mails (number - 1)) spent.mail))
