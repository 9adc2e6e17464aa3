use Rattle.std.proofs.Common.{◌∙◌}
use Rattle.gd_words.proofs.Escapes.{ended_marked, ended_plain, none_more, typed_more, typed_start}
use Rattle.gd_words.proofs.spelling.unescaped.Goals as goal

pub loop-byte-init : goal.loop-byte-init
loop-byte-init c = typed_start c.args.text.now _ c.new-bytes.ensures

pub loop-byte-preserved : goal.loop-byte-preserved
loop-byte-preserved c =
    c.loop-byte.invariant
    ∙ typed_more c.args.text.now c.loop-byte.bytes.items _ c.loop-byte.is_behind _ c.loop-byte.byte-index
    c.loop-byte-test.true c.in_ok-is_next_behind.ensures.pushed

pub returns-in_err-is_next_behind-clause-none : goal.returns-in_err-is_next_behind-clause-none
returns-in_err-is_next_behind-clause-none c =
    rw (c.from_residual.ensures, c.loop-byte.invariant)
    (none_more c.args.text.now c.loop-byte.bytes.items c.loop-byte.is_behind c.loop-byte.byte-index
    c.loop-byte-test.true c.in_err-is_next_behind.ensures.none)

pub returns-then-is_behind-clause-none : goal.returns-then-is_behind-clause-none
returns-then-is_behind-clause-none c =
    ended_marked c.args.text.now c.loop-byte.bytes.items c.loop-byte.is_behind c.loop-byte.byte-index
    c.if-is_behind.true c.loop-byte-test.false c.loop-byte.invariant

pub returns-else-is_behind-clause-fits : goal.returns-else-is_behind-clause-fits
returns-else-is_behind-clause-fits c =
    ended_plain c.args.text.now c.loop-byte.bytes.items c.loop-byte.is_behind c.loop-byte.byte-index
    c.if-is_behind.false c.loop-byte-test.false c.loop-byte.invariant
