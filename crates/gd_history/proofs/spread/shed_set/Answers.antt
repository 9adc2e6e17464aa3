use Rattle.gd_history.proofs.Spreads.{kept-one, spread-one}
use Rattle.gd_history.proofs.spread.shed_set.Goals as goal

pub returns-clause-kept : goal.returns-clause-kept
returns-clause-kept c k s above h =
    kept-one c.args.sets.now.items c.args.at c.shed.new.self c.requires c.index_mut.result.now
    c.index_mut.ensures.value k s (c.shed.ensures.kept k s above) h

pub returns-clause-spread : goal.returns-clause-spread
returns-clause-spread c spread =
    spread-one c.args.sets.now.items c.args.at c.shed.new.self c.requires spread c.index_mut.result.now
    c.index_mut.ensures.value c.shed.ensures.fewer
