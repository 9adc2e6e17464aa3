use Rattle.std.proofs.Common.{refl, arith}
use Rattle.std.proofs.lemmas.Result.{err_from_is_err_and}
use Rattle.gd_handover.proofs.ReaderLemmas.{on-failed, on-more, on-end, grown-not}
use Rattle.gd_handover.proofs.reader.Reader.read_on.Goals as goal

pub returns-in_err-read-in-Short : goal.returns-in_err-read-in-Short
returns-in_err-read-in-Short g c =
    let p = err_from_is_err_and c.from_residual.result c.from_residual.ensures.1 in
    rw (p.1, p.2) (on-failed c.args.fault c.args.least c.args.self.now c.read.new.self c.in-Short.is refl
    c.in_err-read-in-Short.ensures.grown c.in_err-read-in-Short.ensures.err)

pub returns-in-0 : goal.returns-in-0
returns-in-0 g c =
    let read = rw c.in-0.is at c.in_ok-read-in-Short.ensures in
    rw c.misread.ensures (on-end c.args.fault c.args.least _ _ c.args.self.now c.read.new.self read.grown
    (omega (arith, read.came)) refl refl (λ short known. read.end refl known))

pub returns-in_default-2 : goal.returns-in_default-2
returns-in_default-2 g c =
    let read = c.in_ok-read-in-Short.ensures in
    let x = c.in_default-2 in
    on-more c.args.fault c.args.least c.args.self.now c.read.new.self c.in-Short.is read.grown
    (omega (arith, read.came)) (omega (arith, read.few, c.max.ensures, c.len-one_more.ensures.value))

pub returns-in_default : goal.returns-in_default
returns-in_default g c =
    rw c.misread-in_default.ensures
    (on-end c.args.fault c.args.least _ _ c.args.self.now c.args.self.now.ahead (grown-not c.args.self.now.ahead _)
    refl refl refl (λ short. absurd (c.in_default.not-Short short)))
