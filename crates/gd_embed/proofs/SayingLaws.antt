-- Calls that have a member say something: what is said, and how many bytes that has.
use lib.Signed.{mag}
use Rattle.std.proofs.Common.{rules, sym, ap, subst, ◌≡◌, ◌∙◌, ◌<◌, ℕ, ℤ, pos, Bool, true, List, [], ◌++◌, length}
use Rattle.std.proofs.Common.{FitsSigned, w64, to_z, of_z, Result, Err}
use Rattle.std.proofs.lemmas.Int.{to_z-of_z}
use Rattle.gd_base.specs.Sites.{is_site}
use Rattle.gd_base.specs.declared.fault.LogWhy.{LogWhy}
use Rattle.gd_embed.specs.Saying.{BlamesFor, EventsOf, counts}
use Rattle.gd_embed.specs.declared.answers.Fault.{Fault}
use Rattle.gd_embed.specs.declared.answers.Fault.TheVariants as fault
use Rattle.gd_embed.specs.declared.held.Held.{Held}
use Rattle.gd_events.specs.Events.{Event}
use Rattle.gd_grammar.specs.HeaderBytes.{Header}
use Rattle.gd_member.specs.Members.{MemberValue}
use Rattle.gd_member.specs.Standing.{Stands}
use Rattle.gd_reference.specs.Rejoin as rejoin
use Rattle.gd_reference.specs.Rejoin.{Found, found, node_header}
use Rattle.gd_reference.specs.SlowSite.{SlowSite}
use Rattle.gd_rejoin.specs.Faults.{IsFound}
use Rattle.gd_rejoin.specs.declared.fault.ResumeFault.{ResumeFault}
use Rattle.gd_rejoin.specs.declared.fault.ResumeFault.TheVariants.{Bad, Other}

-- as many bytes are counted as are said
pub counted : {text said bytes : List ℕ} {count : ℤ} → said ≡ text → bytes ≡ said → count ≡ pos (length bytes)
    → mag count < 9223372036854775808 → counts text (to_z w64 (of_z w64 count))
counted {text} {said} {bytes} {count} is same counts_bytes small =
    let fits : FitsSigned w64 count = search rules in
    to_z-of_z w64 count fits ∙ counts_bytes ∙ ap (λ (bs : List ℕ). pos (length bs)) (same ∙ is)

-- what is said behind nothing
pub said_alone : {now told text said : List ℕ} → said ≡ now → now ≡ told ++ text → told ≡ [] → said ≡ text
said_alone {now} {told} {text} is behind nothing = is ∙ behind ∙ ap (λ (t : List ℕ). t ++ text) nothing

-- ---- a site's note

-- the session has the site
pub has_site : {slow : SlowSite} {written : List Event} {m : MemberValue} (site : ℕ) {has : Bool}
    → Stands slow written m → has ≡ is_site m.site.peers.sites site → has ≡ true → is_site slow.sites site ≡ true
has_site {slow} {written} {m} site {has} st is there =
    subst (λ (sites : ℕ). is_site sites site ≡ true) st.stands.site.sites (sym is ∙ there)

-- ---- a journal

-- what is found is the same by the header of the reference site
pub found_of : {me sites session own_me own_sites own_session : ℕ} {bytes journal : List ℕ} {there : Found}
    → me ≡ own_me → sites ≡ own_sites → session ≡ own_session → bytes ≡ journal
    → found (node_header me sites session) bytes ≡ there
    → found (node_header own_me own_sites own_session) journal ≡ there
found_of {me} {sites} {session} {own_me} {own_sites} {own_session} {bytes} {journal} {there} m s n b is =
    subst (λ (x : ℕ). found (node_header x own_sites own_session) journal ≡ there) m
    (subst (λ (x : ℕ). found (node_header me x own_session) journal ≡ there) s
    (subst (λ (x : ℕ). found (node_header me sites x) journal ≡ there) n
    (subst (λ (bs : List ℕ). found (node_header me sites session) bs ≡ there) b is)))

-- what is found is the fault that is told
pub is_faulty : {told : ResumeFault} {at : ℕ} {why : LogWhy} {there : Found} → told ≡ Bad at why
    → IsFound told there → there ≡ rejoin.Faulty at why
is_faulty {told} {at} {why} {there} is h = subst (λ (f : ResumeFault). IsFound f there) is h

pub is_other : {told : ResumeFault} {other : Header} {there : Found} → told ≡ Other other
    → IsFound told there → there ≡ rejoin.Other other
is_other {told} {other} {there} is h = subst (λ (f : ResumeFault). IsFound f there) is h

-- the line of a fault that is found is said
pub blamed : (at : ℕ) (why : LogWhy) (slow : SlowSite) (written : List Event)
    (old : Held) (r : Result ℤ Fault) (new : Held) → Stands slow written old.member
    → BlamesFor at why old r new → EventsOf (rejoin.Faulty at why) slow written old r new
blamed at why slow written old (Err fault.BadJournal) new st h =
    (subst (λ (m : MemberValue). Stands slow written m) (sym h.0) st, h.1)
blamed at why slow written old (Err fault.NoMemory) new st h = h
blamed at why slow written old other new st h = h
