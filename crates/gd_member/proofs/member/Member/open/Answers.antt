use Rattle.std.proofs.Common.{ℕ, List, [], refl, subst, sym, ap, ◌∙◌}
use Rattle.std.proofs.lemmas.Result.{err_from_is_err_and}
use Rattle.gd_grammar.specs.Chains.{AreChains}
use Rattle.gd_grammar.specs.Closing.{gate_place}
use Rattle.gd_grammar.specs.Drawings.{drawings}
use Rattle.gd_grammar.specs.HeaderBytes.{Header}
use Rattle.gd_member.proofs.Found.{events_here, fault_here, no_memory, paid_all, paid_first, unpaid}
use Rattle.gd_member.proofs.Standing.{begun_anew}
use Rattle.gd_reference.specs.SlowSite.{resumed}
use Rattle.gd_site.specs.Sites.{StandsFor}
use Rattle.gd_member.proofs.member.Member.open.Goals as goal

pub returns-in_err-log-clause-opened : goal.returns-in_err-log-clause-opened
returns-in_err-log-clause-opened g c =
    let p = err_from_is_err_and c.from_residual.result c.from_residual.ensures.1 in
    rw (p.1, p.2) (fault_here _ _ c.header_of-header.ensures c.args.journal.items _ c.in_err-log.ensures.fault)

pub returns-in_err-log-clause-steps : goal.returns-in_err-log-clause-steps
returns-in_err-log-clause-steps g c =
    let p = err_from_is_err_and c.from_residual.result c.from_residual.ensures.1 in
    rw p.1 (unpaid _ _ _)

pub site_of-requires-clause-newest : goal.site_of-requires-clause-newest
site_of-requires-clause-newest g c = ap (λ (h : Header). h.version) c.header_of-header.ensures

pub site_of-requires-clause-ruled : goal.site_of-requires-clause-ruled
site_of-requires-clause-ruled g c = (c.in_ok-log.ensures.log []).ruled

pub site_of-requires-clause-gate : goal.site_of-requires-clause-gate
site_of-requires-clause-gate g c = (c.in_ok-log.ensures.log []).gate

pub site_of-requires-clause-near : goal.site_of-requires-clause-near
site_of-requires-clause-near g c = (c.in_ok-log.ensures.log []).near

pub site_of-requires-clause-chained : goal.site_of-requires-clause-chained
site_of-requires-clause-chained g c = (c.in_ok-log.ensures.log []).chained

pub returns-in_err-site-clause-opened : goal.returns-in_err-site-clause-opened
returns-in_err-site-clause-opened g c =
    let p = err_from_is_err_and c.from_residual-in_err-site.result c.from_residual-in_err-site.ensures.1 in
    rw p.1 (no_memory _ _ (p.2 ∙ c.in_err-site.ensures.memory))

pub returns-in_err-site-clause-steps : goal.returns-in_err-site-clause-steps
returns-in_err-site-clause-steps g c =
    let p = err_from_is_err_and c.from_residual-in_err-site.result c.from_residual-in_err-site.ensures.1 in
    rw p.1
    (paid_first _ c.in_ok-log.log.events _ _ _
    (events_here _ _ c.header_of-header.ensures c.args.journal.items _ _ _ c.in_ok-log.ensures.log)
    c.in_err-site.ensures.err_steps)

pub invariant_of-result : goal.invariant_of-result
invariant_of-result g c live =
    let events = c.in_ok-log.log.events in
    let header = c.header_of-header.ensures in
    let goes = c.in_ok-site.ensures.goes_on in (
      resumed c.args.me c.args.sites c.args.session events,
      events,
      begun_anew c.args.me c.args.sites c.args.session events live
          (subst (λ (h : Header). StandsFor (resumed h.site h.n h.session events) c.in_ok-site.site) header goes.stands)
          c.new-backs.ensures
          (c.behind-unwritten.ensures events
          (c.place.ensures ∙ goes.gate ∙ ap (λ (h : Header). gate_place drawings h.version events) header)
          (subst (λ (chains : List ℕ). AreChains drawings chains events) (sym (c.copy.ensures ∙ c.chains.ensures))
          goes.chained)),
    )

pub returns-clause-opened : goal.returns-clause-opened
returns-clause-opened g c =
    let events = c.in_ok-log.log.events in
    let header = c.header_of-header.ensures in
    let goes = c.in_ok-site.ensures.goes_on in (
      events,
      events_here _ _ header c.args.journal.items _ _ _ c.in_ok-log.ensures.log,
      begun_anew c.args.me c.args.sites c.args.session events refl
          (subst (λ (h : Header). StandsFor (resumed h.site h.n h.session events) c.in_ok-site.site) header goes.stands)
          c.new-backs.ensures
          (c.behind-unwritten.ensures events
          (c.place.ensures ∙ goes.gate ∙ ap (λ (h : Header). gate_place drawings h.version events) header)
          (subst (λ (chains : List ℕ). AreChains drawings chains events) (sym (c.copy.ensures ∙ c.chains.ensures))
          goes.chained)),
    )

pub returns-clause-steps : goal.returns-clause-steps
returns-clause-steps g c =
    paid_all _ c.in_ok-log.log.events _ _ _
    (events_here _ _ c.header_of-header.ensures c.args.journal.items _ _ _ c.in_ok-log.ensures.log)
    c.in_ok-site.ensures.goes_on.paid
