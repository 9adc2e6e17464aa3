use Rattle.std.proofs.Common.{◌+◌, ◌-◌, refl, sym, subst, arith}
use Rattle.gd_viewing.specs.Viewing.{after_item}
use Rattle.gd_watch.proofs.SoFar.{nothing_so_far, one_more, runs_broken, runs_cut, runs_over, runs_shown, runs_stopped}
use Rattle.gd_watch.specs.Items.{ComesNext, IsWhole}
use Rattle.gd_watch.specs.declared.items.Next.{Next}
use Rattle.gd_watch.proofs.showing.show_items.Goals as goal

pub items-init : goal.items-init
items-init g c = record {
  met = c.requires.met;
  near = omega (arith, c.requires.near);
  so_far = λ slow stands front long journal link. nothing_so_far front slow _ _ _ _ _ refl (sym long)
      c.new-ahead.ensures stands;
}

pub returns-in_default-clause-runs : goal.returns-in_default-clause-runs
returns-in_default-clause-runs g c slow stands front long journal link =
    runs_cut (c.items.invariant.so_far slow stands front long journal link) c.in_default.ensures.grown refl
    c.in_default.ensures.next

pub returns-in-End-clause-runs : goal.returns-in-End-clause-runs
returns-in-End-clause-runs g c slow stands front long journal link =
    let left = (g.S.Source.seen c.next_item.new.input).left in
    let next = subst (λ (n : Next). ComesNext c.items.left n c.next_item.new.ahead left) c.in-End.is
    c.in-Ok.ensures.next in
    runs_shown (c.items.invariant.so_far slow stands front long journal link) c.in-Ok.ensures.grown _ next
    c.show.ensures.does c.show.ensures.end

pub returns-in-TooMany-clause-runs : goal.returns-in-TooMany-clause-runs
returns-in-TooMany-clause-runs g c slow stands front long journal link =
    let left = (g.S.Source.seen c.next_item.new.input).left in
    let next = subst (λ (n : Next). ComesNext c.items.left n c.next_item.new.ahead left) c.in-TooMany.is
    c.in-Ok.ensures.next in
    runs_over (c.items.invariant.so_far slow stands front long journal link) c.in-Ok.ensures.grown _ next
    c.end_with.ensures.does c.end_with.ensures.end

pub overflow_add-at : goal.overflow_add-at
overflow_add-at g c =
    let left = (g.S.Source.seen c.next_item.new.input).left in
    let next = subst (λ (n : Next). ComesNext c.items.left n c.next_item.new.ahead left) c.in-Broken.is
    c.in-Ok.ensures.next in
    omega (arith, c.items.invariant.near, next.0)

pub returns-in-Broken-clause-runs : goal.returns-in-Broken-clause-runs
returns-in-Broken-clause-runs g c slow stands front long journal link =
    let left = (g.S.Source.seen c.next_item.new.input).left in
    let next = subst (λ (n : Next). ComesNext c.items.left n c.next_item.new.ahead left) c.in-Broken.is
    c.in-Ok.ensures.next in
    runs_broken (c.items.invariant.so_far slow stands front long journal link) c.in-Ok.ensures.grown _ c.in-Broken.at
    (c.items.place + c.in-Broken.at) c.in-Broken.why
    next refl c.end_with-in-Broken.ensures.does c.end_with-in-Broken.ensures.end

pub frame_of-requires : goal.frame_of-requires
frame_of-requires g c =
    let left = (g.S.Source.seen c.next_item.new.input).left in
    let item : IsWhole c.items.left c.next_item.new.ahead c.in-Item.count
    = subst (λ (n : Next). ComesNext c.items.left n c.next_item.new.ahead left) c.in-Item.is c.in-Ok.ensures.next in
    item.fits

pub returns-in_err-take_item-clause-runs : goal.returns-in_err-take_item-clause-runs
returns-in_err-take_item-clause-runs g c slow stands front long journal link =
    let left = (g.S.Source.seen c.next_item.new.input).left in
    let item : IsWhole c.items.left c.next_item.new.ahead c.in-Item.count
    = subst (λ (n : Next). ComesNext c.items.left n c.next_item.new.ahead left) c.in-Item.is c.in-Ok.ensures.next in
    runs_stopped (c.items.invariant.so_far slow stands front long journal link) c.in-Ok.ensures.grown item
    (c.items.left - 1) (omega (arith, item.room)) _ c.from_residual.ensures.1
    (λ s met. rw c.frame_of.ensures at c.in_err-take_item.ensures.does s met)

pub skip-requires : goal.skip-requires
skip-requires g c =
    let left = (g.S.Source.seen c.next_item.new.input).left in
    let item : IsWhole c.items.left c.next_item.new.ahead c.in-Item.count
    = subst (λ (n : Next). ComesNext c.items.left n c.next_item.new.ahead left) c.in-Item.is c.in-Ok.ensures.next in
    item.fits

pub items-preserved : goal.items-preserved
items-preserved g c =
    let left = (g.S.Source.seen c.next_item.new.input).left in
    let item : IsWhole c.items.left c.next_item.new.ahead c.in-Item.count
    = subst (λ (n : Next). ComesNext c.items.left n c.next_item.new.ahead left) c.in-Item.is c.in-Ok.ensures.next in
    let m = c.items.invariant.met in
    record {
      met = (after_item m.0 c.frame_of.result.now, c.in_ok-take_item.ensures.stands m.0 m.1);
      near = omega (arith, c.items.invariant.near, item.few, item.room);
      so_far = λ slow stands front long journal link.
          one_more (c.items.invariant.so_far slow stands front long journal link) c.in-Ok.ensures.grown item
          (c.items.left - 1) (omega (arith, item.room)) refl c.skip.ensures
          (λ s met. rw c.frame_of.ensures at c.in_ok-take_item.ensures.does s met)
          (λ s met. rw c.frame_of.ensures at c.in_ok-take_item.ensures.stands s met);
    }
