-- How a churn in memory follows one of reference sites, one line after the other.
use Rattle.std.proofs.Common.{◌≡◌, ℕ, ◌+◌, ◌*◌, ◌≤◌, List, [], ◌++◌, length, map, fold, refl, sym, ◌∙◌, ap, ap₂, subst}
use Rattle.std.proofs.Common.{append_assoc, length-append, arith}
use Rattle.std.proofs.lemmas.List.{append-nil}
use Rattle.std.specs.Prelude.{Option, None, Some, Result, Ok, Err, IsErrAnd, OnOk}
use Rattle.rand_pcg.specs.Lcg.{Lcg}
use Rattle.std.specs.declared.alloc.AllocError.{AllocError}
use Rattle.gd_answers.specs.Paying.{PaysFront}
use Rattle.gd_base.specs.Stamps.{Stamp}
use Rattle.gd_effects.proofs.Doing.{cost-append}
use Rattle.gd_effects.specs.Effects.{Effect, Work, cost}
use Rattle.gd_lines.specs.declared.command.ScriptLine.{ScriptLine}
use Rattle.gd_lines.specs.declared.reply.Reply.{Reply}
use Rattle.gd_reference.specs.World.{World}
use Rattle.gd_worlds.specs.Churn.{Churning, Counts, ids_made, step, stepped, with_drawn, with_idle, with_line}
use Rattle.gd_worlds.specs.Churn.{with_reply}
use Rattle.gd_worlds.specs.Rehearsal.{script_replies, script_work}
use Rattle.gd_world.proofs.ChurnLines.{made_few, near_script, replies_few}
use Rattle.gd_world.proofs.ChurnWork.{Grows}
use Rattle.gd_world.proofs.Counting.{few_more}
use Rattle.gd_world.specs.Calls.{Answers}
use Rattle.gd_world.specs.Counted.{AreFew, HaveRoom}
use Rattle.gd_world.specs.Drawn.{IsPlayed}
use Rattle.gd_world.specs.Playing.{Follows, Gets, IsReady}
use Rattle.gd_world.specs.declared.churning.playing.Churning.{Churning as Played}
use Rattle.gd_world.specs.declared.fault.WorldFault.{WorldFault}
use Rattle.gd_world.specs.declared.fault.WorldFault.TheVariants.{NoSite, NoMail, NoMemory}
use Rattle.gd_world.specs.Standing.{StandsFor, WorldValue}

-- ---- steps that were paid

-- all of them
pub pays_whole : {before after : ℕ} (xs : List Effect) → after ≡ before + cost xs → PaysFront before xs after
pays_whole xs paid = record { front = xs; back = []; split = sym (append-nil xs); paid = paid }

-- a part of what is owed behind these
pub pays_behind : {before between after : ℕ} (xs : List Effect) {ys : List Effect} → between ≡ before + cost xs
    → PaysFront between ys after → PaysFront before (xs ++ ys) after
pays_behind xs paid k = record {
  front = xs ++ k.front;
  back = k.back;
  split = ap (λ zs. xs ++ zs) k.split ∙ sym (append_assoc xs k.front k.back);
  paid = omega (arith, paid, k.paid, cost-append xs k.front);
}

-- a part of a churn's work is a part of more
pub pays_more : {before after : ℕ} {c d : Churning} → Grows c d → PaysFront before c.work after
    → PaysFront before d.work after
pays_more g k = record {
  front = k.front;
  back = k.back ++ map Work g.works;
  split = g.work ∙ ap (λ zs. zs ++ map Work g.works) k.split ∙ append_assoc k.front k.back (map Work g.works);
  paid = k.paid;
}

-- ---- a line

-- there is room for what is said of a line
pub room_left : (v : Played) (steps : ℕ) (line : ScriptLine) (replies : List Reply) → IsReady 1 v steps → IsPlayed line
    → ((w : World) → StandsFor w v.world → replies ≡ script_replies w (Ok line)) → HaveRoom (length replies) v.counts
room_left v steps line replies (lines, c, before, h, room) played is =
    (68 * lines, h.few, omega (arith, ap length (is c.world h.world), replies_few c.world v.world h.world line played))

module _ {lines before steps steps' : ℕ} {c : Churning} {v : Played} (line : ScriptLine) where
  -- the line wasn't answered, for want of memory
  pub stops_line : (fault : WorldFault) (w : WorldValue) → Follows lines c before v steps
      → Answers c.world line (Err fault) steps w steps'
      → PaysFront before (with_line c line).work steps'
  unfolding with_line
  stops_line NoMemory w h a = pays_behind c.work h.paid a
  stops_line NoSite w h a = absurd a
  stops_line NoMail w h a = absurd a

  module _ (v' : Played) (replies : List Reply) (answered : Answers c.world line (Ok replies) steps v'.world steps')
    where
      follows_line : Follows lines c before v steps → IsPlayed line
          → v'.generator ≡ v.generator → v'.made.items ≡ v.made.items ++ ids_made line replies
          → v'.counts ≡ fold with_reply v.counts replies
          → ((most : ℕ) → AreFew most v.counts → AreFew (most + length replies) v'.counts)
          → Follows (lines + 1) (with_line c line) before v' steps'
      unfolding with_line
      follows_line h played generator made counts few =
          let said : length (script_replies c.world (Ok line)) ≤ 68 = replies_few c.world v.world h.world line played in
          let near = near_script c.world line in
          record {
            world = answered.1;
            sites = near.sites ∙ h.sites;
            generator = generator ∙ h.generator;
            made = made ∙ ap₂ (λ ids rs. ids ++ ids_made line rs) h.made answered.0;
            counts = counts ∙ ap₂ (fold with_reply) h.counts answered.0;
            mail = omega (arith, near.mail, h.mail, ap length answered.1.mail, ap length h.world.mail);
            kept = omega (
              arith,
              ap length made,
              length-append v.made.items (ids_made line replies),
              made_few line
                  replies,
              ap length answered.0,
              said,
              h.kept,
            );
            few = few_more (68 * (lines + 1)) (omega (arith, ap length answered.0, said)) (few (68 * lines) h.few);
            paid = omega (arith, h.paid, answered.2, cost-append c.work (script_work c.world (Ok line)));
          }

      -- the line was answered; and then the ids were kept, or memory ran out
      pub gets_line : (r : Result (Unit {0}) AllocError) → Follows lines c before v steps → IsPlayed line
          → v'.generator ≡ v.generator → OnOk r (v'.made.items ≡ v.made.items ++ ids_made line replies)
          → v'.counts ≡ fold with_reply v.counts replies
          → ((most : ℕ) → AreFew most v.counts → AreFew (most + length replies) v'.counts)
          → Gets (lines + 1) (with_line c line) before r v' steps'
      unfolding with_line
      gets_line (Ok x) h played generator made counts few = follows_line h played generator made counts few
      gets_line (Err e) h played generator made counts few =
          pays_whole (c.work ++ script_work c.world (Ok line))
          (omega (arith, h.paid, answered.2, cost-append c.work (script_work c.world (Ok line))))

-- ---- a step

stepped_as : (c : Churning) (drawn : Option ScriptLine × Lcg) → drawn ≡ step c.made (length c.world.mail) c.generator
    → with_drawn (record c { generator = drawn.1 }) drawn.0 ≡ stepped c
stepped_as c drawn e = ap (λ (d : Option ScriptLine × Lcg). with_drawn (record c { generator = d.1 }) d.0) e

pub follows_drawn : {lines before steps : ℕ} {c : Churning} {v : Played} (generator : Lcg)
    → Follows lines c before v steps
    → Follows lines (record c { generator = generator }) before (record v { generator = generator }) steps
follows_drawn generator h = record {
  world = h.world;
  sites = h.sites;
  generator = refl;
  made = h.made;
  counts = h.counts;
  mail = h.mail;
  kept = h.kept;
  few = h.few;
  paid = h.paid;
}

pub ready_drawn : (more steps : ℕ) (v : Played) (generator : Lcg) → IsReady more v steps
    → IsReady more (record v { generator = generator }) steps
ready_drawn more steps v generator (lines, c, before, h, room)
    = (lines, record c { generator = generator }, before, follows_drawn generator h, room)

module _ {lines before steps : ℕ} {c : Churning} {v : Played} (h : Follows lines c before v steps) (ids : List Stamp)
    (mails : ℕ) (generator : Lcg)
    (made : ids ≡ v.made.items) (sent : mails ≡ length v.world.mail) where
  -- what is drawn in memory is drawn of the reference sites
  drawn_for : (drawn : Option ScriptLine × Lcg) → drawn ≡ step ids mails v.generator
      → drawn ≡ step c.made (length c.world.mail) c.generator
  drawn_for drawn e =
      let all : ids ≡ c.made = made ∙ h.made in
      let mail : mails ≡ length c.world.mail = sent ∙ ap length h.world.mail in
      e ∙ (λ i. step (all i) (mail i) (h.generator i))

  -- a line was drawn
  pub gets_drawn : (lines' steps' : ℕ) (line : ScriptLine) (r : Result (Unit {0}) AllocError) (v' : Played)
      → (Some line, generator) ≡ step ids mails v.generator
      → Gets lines' (with_line (record c { generator = generator }) line) before r v' steps'
      → Gets lines' (stepped c) before r v' steps'
  gets_drawn lines' steps' line r v' drawn k =
      subst (λ (d : Churning). Gets lines' d before r v' steps')
      (stepped_as c (Some line, generator) (drawn_for (Some line, generator) drawn)) k

  -- none was drawn
  pub follows_idle : (counts : Counts) → (None, generator) ≡ step ids mails v.generator → counts ≡ with_idle v.counts
      → ((most : ℕ) → AreFew most v.counts → AreFew (most + 1) counts)
      → Follows (lines + 1) (stepped c) before (record v { generator = generator; counts = counts }) steps
  follows_idle counts drawn counted few =
      subst (λ (d : Churning). Follows (lines + 1) d before (record v { generator = generator; counts = counts }) steps)
      (stepped_as c (None, generator) (drawn_for (None, generator) drawn))
      (record {
        world = h.world;
        sites = h.sites;
        generator = refl;
        made = h.made;
        counts = counted ∙ ap with_idle h.counts;
        mail = omega (arith, h.mail);
        kept = omega (arith, h.kept);
        few = few_more (68 * (lines + 1)) (omega arith) (few (68 * lines) h.few);
        paid = h.paid;
      })

-- ---- one call after another

pub ready_less : (more less steps : ℕ) (v : Played) → less ≤ more → IsReady more v steps → IsReady less v steps
ready_less more less steps v fewer (lines, c, before, h, room) = (lines, c, before, h, omega arith)

-- with a larger bound
pub follows_more : {lines before steps : ℕ} {c : Churning} {v : Played} (most : ℕ) → lines ≤ most
    → Follows lines c before v steps → Follows most c before v steps
follows_more most more h = record {
  world = h.world;
  sites = h.sites;
  generator = h.generator;
  made = h.made;
  counts = h.counts;
  mail = omega (arith, more, h.mail);
  kept = omega (arith, more, h.kept);
  few = few_more (68 * most) (omega (arith, more)) h.few;
  paid = h.paid;
}

module _ (lines lines' before steps : ℕ) (c c' : Churning) (v : Played) (same : lines ≡ lines') (is : c ≡ c') where
  -- the same in other words
  pub follows_as : Follows lines c before v steps → Follows lines' c' before v steps
  follows_as h = subst (λ (d : Churning). Follows lines' d before v steps) is
      (subst (λ (n : ℕ). Follows n c before v steps) same h)

  pub gets_as : (r : Result (Unit {0}) AllocError) → Gets lines c before r v steps → Gets lines' c' before r v steps
  gets_as (Ok x) h = follows_as h
  gets_as (Err why) h = subst (λ (d : Churning). PaysFront before d.work steps) is h

-- the early end that `?` hands on
pub gets_exit : {c d : Churning} {before steps : ℕ} (lines : ℕ) (v : Played) (P : AllocError → Type 0)
    (r : Result (Unit {0}) AllocError) → IsErrAnd r P → Grows c d → PaysFront before c.work steps
    → Gets lines d before r v steps
gets_exit lines v P (Ok x) is g h = absurd is
gets_exit lines v P (Err e) is g h = pays_more g h
