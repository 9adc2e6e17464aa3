use Rattle.std.proofs.Common.{length, sym, eqb-true, arith}
use Rattle.std.proofs.lemmas.Bool.{eqb-false}
use Rattle.gd_watch.proofs.ItemLemmas.{no_bytes, nothing_ahead}
use Rattle.gd_watch.proofs.items.settled.Goals as goal

pub returns-then-is_empty : goal.returns-then-is_empty
returns-then-is_empty c
    = nothing_ahead c.args.left c.args.bytes.now
    (no_bytes c.args.bytes.now (eqb-true (length c.args.bytes.now) 0 (sym c.if-is_empty.ensures)))

pub returns : goal.returns
returns c =
    let some = eqb-false (length c.args.bytes.now) 0 (sym c.if-is_empty.ensures) in
    c.front.ensures c.args.left (omega (arith, c.if-left-eq0.false)) (omega (arith, some))
