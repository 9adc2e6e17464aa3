use Rattle.std.proofs.Common.{ℕ, List, refl, sym, ap, subst, arith}
use Rattle.std.specs.Prelude.{Ok}
use Rattle.gd_watch.proofs.ItemLemmas.{at_its_end, cut_off, grown_as, grown_nothing, grown_then, settled_next}
use Rattle.gd_watch.proofs.ItemLemmas.{still_cut}
use Rattle.gd_watch.specs.Items.{ComesNext, IsCut}
use Rattle.gd_watch.proofs.items.next_item.Goals as goal

pub more-init : goal.more-init
more-init g c = grown_nothing _ _

pub returns-in-Some-clause-grown : goal.returns-in-Some-clause-grown
returns-in-Some-clause-grown g c = grown_as (λ failed. absurd cc) c.more.invariant

pub returns-in-Some-clause-next : goal.returns-in-Some-clause-next
returns-in-Some-clause-next g c =
    let left = (g.S.Source.seen c.more.input).left in
    subst (λ (bytes : List ℕ). ComesNext c.args.left c.in-Some.next bytes left) c.as_slice.ensures
    (settled_next c.args.left c.in-Some.next c.as_slice.result.now left c.in-Some.ensures)

pub returns-in_err-read-clause-grown : goal.returns-in_err-read-clause-grown
returns-in_err-read-clause-grown g c
    = grown_as (λ failed. refl) (grown_then c.more.invariant c.in_err-read.ensures.grown)

pub returns-in_err-read-clause-next : goal.returns-in_err-read-clause-next
returns-in_err-read-clause-next g c =
    let cut = rw c.as_slice.ensures at c.in_default.ensures in
    cut_off _ c.args.left c.from_residual.result c.read.new.self _ c.from_residual.ensures.1
    (subst (IsCut c.args.left) (sym c.in_err-read.ensures.err) cut)

pub more-preserved : goal.more-preserved
more-preserved g c = grown_as (λ failed. absurd failed) (grown_then c.more.invariant c.in_ok-read.ensures.grown)

pub at_end-requires : goal.at_end-requires
at_end-requires g c =
    let grown = c.in_ok-read.ensures.grown in
    let cut = rw c.as_slice.ensures at c.in_default.ensures in
    rw c.as_slice-then-branch-eq0.ensures
    (still_cut c.args.left c.more.ahead c.read.new.self grown.called.taken grown.is
    (omega (arith, c.in_ok-read.ensures.came, c.if-branch-eq0.true)) cut)

pub returns-then-branch-eq0-clause-grown : goal.returns-then-branch-eq0-clause-grown
returns-then-branch-eq0-clause-grown g c = grown_then c.more.invariant c.in_ok-read.ensures.grown

pub returns-then-branch-eq0-clause-next : goal.returns-then-branch-eq0-clause-next
returns-then-branch-eq0-clause-next g c =
    at_its_end c.args.left c.at_end.result c.read.new.self _ (c.in_ok-read.ensures.end (ap Ok c.if-branch-eq0.true))
    (rw c.as_slice-then-branch-eq0.ensures at c.at_end.ensures)
