-- What is said.
use Rattle.std.proofs.Common.{◌≡◌, ℕ, ◌+◌, Bool, true, false, cond, List, [], ◌∷◌, ◌++◌, map, refl, ap}
use Rattle.std.specs.List.{concat, flat_map}
use Rattle.std.specs.Prelude.{Ok, Err, nat_le}
use Rattle.gd_answers.specs.Noting.{noted_reply}
use Rattle.gd_base.specs.declared.refusal.Refusal.TheVariants.{NoteEnd}
use Rattle.gd_lines.specs.Replies.{reply_text}
use Rattle.gd_lines.specs.declared.reply.Reply.{Reply}
use Rattle.gd_lines.specs.declared.reply.Reply.TheVariants as reply
use Rattle.gd_reference.specs.SiteEffects.{note_reply}
use Rattle.gd_reference.specs.SlowSite.{SlowSite}
use Rattle.gd_reference.specs.World.{most_notes}
use Rattle.gd_site.specs.Answers.{next_note}

-- the reply to the next note is the reference site's
pub next_said : (slow : SlowSite) → noted_reply (next_note (slow.notes slow.me).number) ≡ note_reply slow
next_said slow = by (nat_le most_notes (slow.notes slow.me).number) (slow.notes slow.me).number
  where
    by : (full : Bool) (n : ℕ)
        → noted_reply (cond full (Err record {}) (Ok (n + 1))) ≡ cond full (reply.Refused NoteEnd) (reply.Noted (n + 1))
    by true n = refl
    by false n = refl

-- the text of several replies is that of their lines
pub texts_together : (replies : List Reply) → flat_map reply_text replies ≡ concat (map reply_text replies)
texts_together [] = refl
texts_together (r ∷ rs) = ap (λ (l : List ℕ). reply_text r ++ l) (texts_together rs)
