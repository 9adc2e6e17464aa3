-- What a line at a site answers, costs and leaves in a world that stands for one that steps lead to.
use Rattle.std.proofs.Common.{◌≡◌, ℕ, ◌+◌, ◌-◌, true, false, cond, List, [], length, set, get_or, None, Some, sym, ap}
use Rattle.std.proofs.Common.{◌∙◌, subst, arith}
use Rattle.std.specs.List.{filter}
use Rattle.std.specs.Prelude.{Result, Ok, Err, OnOk}
use Rattle.std.specs.Result.{is_err}
use Rattle.gd_answers.specs.Paying.{PaysFront}
use Rattle.gd_base.proofs.SiteLemmas.{is_site-bounds}
use Rattle.gd_base.specs.Sites.{is_site}
use Rattle.gd_effects.specs.Effects.{Effect, cost}
use Rattle.gd_lines.specs.InRange.{IsCommand}
use Rattle.gd_lines.specs.declared.command.Command.{Command}
use Rattle.gd_lines.specs.declared.command.Command.TheVariants as command
use Rattle.gd_lines.specs.declared.command.ScriptLine.TheVariants as script
use Rattle.gd_lines.specs.declared.reply.Reply.{Reply}
use Rattle.gd_reference.specs.NodeRun.{of_command}
use Rattle.gd_reference.specs.World.{At, IsLine, World, after_line, happens, with_site}
use Rattle.gd_takeback.specs.Standing.{StandsWith}
use Rattle.gd_world.proofs.Members.{changed, member_of, member_read}
use Rattle.gd_world.specs.Answers.{LineIs}
use Rattle.gd_world.specs.Calls.{Comes}
use Rattle.gd_world.specs.Standing.{HasWorld, StandsFor, WorldValue}
use Rattle.gd_world.specs.Telling.{Tells, work_of}
use Rattle.gd_world.specs.declared.fault.WorldFault.{WorldFault}
use Rattle.gd_world.specs.declared.fault.WorldFault.TheVariants.{NoSite, NoMail, NoMemory}
use Rattle.gd_world.specs.declared.member.Member.{Member}
use Rattle.gd_worlds.specs.Rehearsal.{is_work, script_work, told_by}

line_ranged : (asked : Command) → IsCommand asked → IsLine (told_by asked)
line_ranged (command.Edit edit) h = h
line_ranged (command.Name name) h = h
line_ranged (command.Focus None) h = tt
line_ranged (command.Focus (Some id)) h = h
line_ranged (command.Turn which) h = tt
line_ranged command.Show h = tt
line_ranged command.Status h = tt
line_ranged command.Who h = tt
line_ranged command.Blank h = tt
line_ranged command.Begin h = tt
line_ranged command.End h = tt
line_ranged command.Poll h = tt
line_ranged command.Quit h = tt

module _ (w : World) (v now : WorldValue) (view : v ≡ now) (st : StandsFor w v) (site : ℕ)
    (inside : is_site (length now.members) site ≡ true) (asked : Command) (ranged : IsCommand asked) where
  place_in : is_site (length v.members) site ≡ true
  place_in = subst (λ (x : WorldValue). is_site (length x.members) site ≡ true) (sym view) inside

  within : is_site w.sites site ≡ true
  within = subst (λ (n : ℕ). is_site n site ≡ true) st.members place_in

  goes : happens w (At site (told_by asked)) ≡ with_site w site (after_line (w.at site) (told_by asked))
  unfolding happens
  goes = λ i. cond (within i) (with_site w site (after_line (w.at site) (told_by asked))) w

  works : script_work w (Ok (script.At site asked)) ≡ work_of (w.at site) asked
  works = λ i. filter is_work (cond (within i) (of_command (w.at site) [] (Ok asked)) [])

  module _ (place : ℕ) (same : place ≡ site) (member : Member) (read : member ≡ get_or v.members (place - 1) member)
    where
      pub asked_stands : StandsWith (w.at site) member.site member.backs
      asked_stands = member_of w v st site member within (member_read v.members site place member place_in same read)

      module _ (new : Member) where
        abbrev pub left : WorldValue
        left = record { members = set v.members (place - 1) new; mail = v.mail }

        told_stands : StandsWith (after_line (w.at site) (told_by asked)) new.site new.backs
            → StandsFor (happens w (At site (told_by asked))) left
        told_stands stands =
            let back : site ≡ place - 1 + 1 = omega (arith, same, is_site-bounds w.sites site within) in
            changed w v st (At site (told_by asked)) (line_ranged asked ranged) (place - 1)
            (after_line (w.at site) (told_by asked)) new stands
            (goes ∙ ap (λ (t : ℕ). with_site w t (after_line (w.at site) (told_by asked))) back)

        pub line_comes : (result : Result (List Reply) WorldFault) (before after : ℕ)
            → Tells (w.at site) asked result before new after → (value : WorldValue) → OnOk result (value ≡ left)
            → Comes (happens w (At site (told_by asked))) (script_work w (Ok (script.At site asked))) result now before
            value after
        line_comes (Ok replies) before after told value is = (
          subst (StandsFor (happens w (At site (told_by asked)))) (sym is) (told_stands told.1),
          told.2
              ∙ ap (λ (xs : List Effect). before + cost xs) (sym works),
        )
        line_comes (Err NoMemory) before after told value is
            = subst (λ (xs : List Effect). PaysFront before xs after) (sym works) told
        line_comes (Err NoSite) before after told value is = absurd told
        line_comes (Err NoMail) before after told value is = absurd told

        pub line_is : (result : Result (List Reply) WorldFault) (before after : ℕ)
            → Tells (w.at site) asked result before new after → LineIs w site asked result
        line_is (Ok replies) before after told = (within, told.0)
        line_is (Err NoMemory) before after told = within
        line_is (Err NoSite) before after told = absurd told
        line_is (Err NoMail) before after told = absurd told

        -- a call that went through leaves a world that stands for one
        pub line_kept : (result : Result (List Reply) WorldFault) (before after : ℕ)
            → Tells (w.at site) asked result before new after → is_err result ≡ false → HasWorld left
        line_kept (Ok replies) before after told e
            = record { world = happens w (At site (told_by asked)); stands = told_stands told.1 }
        line_kept (Err fault) before after told e = cc
