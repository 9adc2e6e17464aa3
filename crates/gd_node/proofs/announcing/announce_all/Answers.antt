use Rattle.std.proofs.Common.{refl}
use Rattle.gd_node.proofs.Edits.{ahead_ruled, announces_all, announces_cut, notes_none}
use Rattle.gd_site.proofs.Counts.{held_few}
use Rattle.gd_node.proofs.announcing.announce_all.Goals as goal

pub returns-in_err-records : goal.returns-in_err-records
returns-in_err-records g c replies said steps =
    announces_cut c.args.events.now replies refl refl _ c.from_residual.ensures.1 _ steps
    (notes_none c.args.events.now replies _ _ _ _)

pub record_all_and_say-requires : goal.record_all_and_say-requires
record_all_and_say-requires g c = let a = c.requires in (a.0, held_few a.0 a.1.well, a.1.log)

pub returns-in_err-record_all_and_say : goal.returns-in_err-record_all_and_say
returns-in_err-record_all_and_say g c replies said steps =
    let es = c.args.events.now in
    let put = c.in_err-record_all_and_say.ensures in
    announces_cut es replies refl refl _ c.from_residual-in_err-record_all_and_say.ensures.1 _ steps (record {
      does = λ slow a input link steps. put.does slow es replies (c.in_ok-records.ensures slow.held a.log.chained) said
          (ahead_ruled slow es a) a.log input link steps;
      log = tt;
      name = put.name;
    })

pub returns : goal.returns
returns g c replies said steps =
    let es = c.args.events.now in
    let put = c.in_ok-record_all_and_say.ensures in
    announces_all es replies refl refl steps (record {
      does = λ slow a input link steps. put.does slow es replies (c.in_ok-records.ensures slow.held a.log.chained) said
          (ahead_ruled slow es a) a.log input link steps;
      log = λ slow a. put.log slow es (c.in_ok-records.ensures slow.held a.log.chained) (ahead_ruled slow es a) a.log;
      name = put.name;
    }) c.send_frames_with.ensures.takes c.send_frames_with.ensures.sends
