use Rattle.gd_handover.proofs.PieceLemmas.{known_start, known_first, known_more, known_end}
use Rattle.gd_handover.proofs.pieces.put_all_known.Goals as goal

pub sites-init : goal.sites-init
sites-init c = known_start c.args.all.now c.args.out.now c.requires.known

pub sites-preserved : goal.sites-preserved
sites-preserved c =
    known_more c.args.all.now c.sites.left.now c.in-Some.rest.now c.args.out.now c.sites.out c.put_number.new.self
    c.put_clock.new.self c.in-Some.known.now c.in-Some.ensures.cases.0 c.put_number.ensures.bytes
    c.put_clock.ensures.bytes c.sites.invariant

pub returns-clause-bytes : goal.returns-clause-bytes
returns-clause-bytes c
    = known_end c.args.all.now c.sites.left.now c.args.out.now c.sites.out c.in_default.ensures.cases c.sites.invariant

pub put_clock-requires-clause-fits : goal.put_clock-requires-clause-fits
put_clock-requires-clause-fits c
    = (known_first c.args.all.now c.sites.left.now c.in-Some.rest.now c.args.out.now c.sites.out c.in-Some.known.now
    c.in-Some.ensures.cases.0 c.sites.invariant).sure
