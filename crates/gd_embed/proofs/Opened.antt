-- A member that was opened, in a box.
use Rattle.std.proofs.Common.{◌≡◌, ◌∙◌, ℕ, List, ap, subst, sym}
use Rattle.std.specs.declared.alloc.Global.{Global}
use Rattle.std.specs.Prelude.{Box, Result, Ok, Err}
use Rattle.gd_embed.specs.Beginning.{BoxedIs, IsPlace, OpenIs}
use Rattle.gd_embed.specs.Telling.{Buffer}
use Rattle.gd_embed.specs.declared.answers.Fault.{Fault}
use Rattle.gd_embed.specs.declared.answers.Fault.TheVariants as fault
use Rattle.gd_embed.specs.declared.held.Held.{Held}
use Rattle.gd_member.specs.Members.{MemberValue}
use Rattle.gd_member.specs.Opening.{OpenIs as MemberOpens}
use Rattle.gd_member.specs.Standing.{Stands}
use Rattle.gd_reference.specs.Rejoin.{found, node_header}
use Rattle.gd_reference.specs.SlowSite.{resumed}

module _ {me sites : ℕ} (session : ℕ) {journal there : List ℕ} (buffer : Buffer) {m : MemberValue}
    (place : IsPlace me sites) (copied : there ≡ journal) (kept : buffer.new ≡ buffer.old)
    (opened : MemberOpens me sites session (found (node_header me sites session) there) (Ok m)) where
  pub opened_boxed : (r : Result (Box Held Global) Fault) → BoxedIs m r → OpenIs me sites session journal buffer r
  opened_boxed (Ok held) boxed = (
    place,
    (
      (
        opened.0,
        (
          ap (found (node_header me sites session)) (sym copied) ∙ opened.1,
          (
            subst (λ (v : MemberValue). Stands (resumed me sites session opened.0) opened.0 v) (sym boxed.0) opened.2,
            boxed.1,
          ),
        ),
      ),
      kept,
    ),
  )
  opened_boxed (Err fault.NoMemory) boxed = kept
  opened_boxed (Err fault.Empty) boxed = absurd boxed
  opened_boxed (Err fault.Spent) boxed = absurd boxed
  opened_boxed (Err fault.Occupied) boxed = absurd boxed
  opened_boxed (Err fault.Room) boxed = absurd boxed
  opened_boxed (Err fault.Refused) boxed = absurd boxed
  opened_boxed (Err fault.NotHere) boxed = absurd boxed
  opened_boxed (Err fault.Unwritten) boxed = absurd boxed
  opened_boxed (Err fault.NotThese) boxed = absurd boxed
  opened_boxed (Err fault.NoSite) boxed = absurd boxed
  opened_boxed (Err fault.NoNote) boxed = absurd boxed
  opened_boxed (Err fault.NotParted) boxed = absurd boxed
  opened_boxed (Err fault.BadJournal) boxed = absurd boxed
  opened_boxed (Err fault.OtherJournal) boxed = absurd boxed
