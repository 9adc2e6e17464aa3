use Rattle.gd_site.proofs.foreseen.chain.Goals as goal

pub returns : goal.returns
returns c = c.take_event.ensures
