use Rattle.std.proofs.Common.{[], ◌∷◌, refl, sym, ap}
use Rattle.gd_effects.proofs.Doing.{does_as}
use Rattle.gd_effects.specs.Effects.{Record}
use Rattle.gd_lines.specs.declared.reply.Reply.TheVariants as reply
use Rattle.gd_node.proofs.Edits.{ahead_ruled, announces_all, announces_cut}
use Rattle.gd_reference.specs.Said.{says}
use Rattle.gd_reference.specs.SlowSite.{log_end}
use Rattle.gd_reference.specs.TakeBack.{with_events}
use Rattle.gd_site.proofs.Counts.{held_few}
use Rattle.gd_node.proofs.announcing.announce.Goals as goal

pub record_and_say-requires : goal.record_and_say-requires
record_and_say-requires g c = let a = c.requires in (a.0, held_few a.0 a.1.well, a.1.log)

pub returns-in_err-record_and_say : goal.returns-in_err-record_and_say
returns-in_err-record_and_say g c steps =
    let e = c.args.event.now in
    let es = e ∷ [] in
    let put = c.in_err-record_and_say.ensures in
    announces_cut es (reply.Done e.stamp ∷ []) refl refl _ c.from_residual.ensures.1 _ steps (record {
      does = λ slow a input link steps.
          does_as (ap (λ id. Record (log_end slow) slow.held es ∷ says (reply.Done id) ∷ []) (sym c.stamp.ensures))
          (put.does slow (ahead_ruled slow es a) a.log input link steps);
      log = tt;
      name = put.name;
    })

pub returns : goal.returns
returns g c steps =
    let e = c.args.event.now in
    let es = e ∷ [] in
    let put = c.in_ok-record_and_say.ensures in
    announces_all es (reply.Done e.stamp ∷ []) refl refl steps (record {
      does = λ slow a input link steps.
          does_as (ap (λ id. Record (log_end slow) slow.held es ∷ says (reply.Done id) ∷ []) (sym c.stamp.ensures))
          (put.does slow (ahead_ruled slow es a) a.log input link steps);
      log = λ slow a. put.log slow (ahead_ruled slow es a) a.log;
      name = put.name;
    }) c.send_newest.ensures.takes (λ slow stands. c.send_newest.ensures.sends (with_events slow es) stands)
