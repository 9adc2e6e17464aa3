use Rattle.std.proofs.Common.{arith, ap, sym, ◌∙◌, ◌++◌, ◌∷◌, []}
use Rattle.gd_base.specs.declared.version.Version.TheVariants.{Three}
use Rattle.gd_grammar.specs.Drawings.{drawings}
use Rattle.gd_grammar.specs.HeaderBytes.{Header, header_bytes}
use Rattle.gd_member.proofs.Found.{logged_none}
use Rattle.gd_reference.specs.SlowSite.{journal_header}
use Rattle.gd_member.proofs.member.Member.journal_head.Goals as goal

pub header_of-requires-clause-from : goal.header_of-requires-clause-from
header_of-requires-clause-from c = omega (arith, c.me.ensures.me, c.stands.ensures.peers.me_from)

pub header_of-requires-clause-to : goal.header_of-requires-clause-to
header_of-requires-clause-to c = omega (arith, c.me.ensures.me, c.sites.ensures.sites, c.stands.ensures.peers.me_to)

pub header_of-requires-clause-few : goal.header_of-requires-clause-few
header_of-requires-clause-few c = omega (arith, c.sites.ensures.sites, c.stands.ensures.peers.sites_to)

pub returns : goal.returns
returns c slow written st =
    let s = rw (← c.self.view_is) at st in
    let site = s.stands.site in
    let me = c.me.ensures.slow slow site in
    let sites = c.sites.ensures.slow slow site in
    let session = c.session.ensures.slow slow site in
    c.head_of.ensures
    ∙ ap (λ (h : Header). header_bytes drawings h ++ 0 ∷ [])
    (c.header_of.ensures ∙ (λ i. record { version = Three; session = session i; site = me i; n = sites i }))
    ∙ sym (logged_none (journal_header slow))
