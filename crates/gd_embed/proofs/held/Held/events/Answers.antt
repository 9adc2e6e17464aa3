use Rattle.std.proofs.Common.{◌∙◌, ℤ, w64, to_z, of_z, Err, Ok, Result, refl, subst, sym}
use Rattle.gd_embed.proofs.SayingLaws.{blamed, counted, found_of, is_faulty, is_other}
use Rattle.gd_embed.specs.Saying.{EventsOf}
use Rattle.gd_embed.specs.declared.answers.Fault.{Fault}
use Rattle.gd_embed.specs.declared.held.Held.{Held}
use Rattle.gd_embed.specs.declared.answers.Fault.TheVariants as fault
use Rattle.gd_reference.specs.Rejoin.{Found}
use Rattle.gd_embed.proofs.held.Held.events.Goals as goal

pub returns-in-Ok-events_json : goal.returns-in-Ok-events_json
returns-in-Ok-events_json c slow written st =
    let me = c.me-me.ensures.slow slow written st in
    let sites = c.sites-sites.ensures.slow slow written st in
    let session = c.session.ensures slow written st in
    let read = c.in-Ok-events_json.ensures.line in
    let there = found_of me sites session c.in-Ok.ensures read.1 in
    let said = c.json.ensures ∙ read.2 in
    let answer : Result ℤ Fault = Ok (to_z w64 (of_z w64 c.count_of.result)) in
    let new : Held = record { member = c.args.self.now.member; said = c.json.result } in
    subst (λ (f : Found). EventsOf f slow written c.args.self.now answer new) (sym there)
    ((st, said), counted said c.as_bytes.ensures c.count_of.ensures c.count_of.type_inv)

pub returns-in-Err-Bad : goal.returns-in-Err-Bad
returns-in-Err-Bad c slow written st =
    let me = c.me-me.ensures.slow slow written st in
    let sites = c.sites-sites.ensures.slow slow written st in
    let session = c.session.ensures slow written st in
    let faulty = is_faulty c.in-Err-Bad.field-0-is c.in-Err-Bad.ensures.fault in
    let there = found_of me sites session c.in-Ok.ensures faulty in
    subst (λ (f : Found). EventsOf f slow written c.args.self.now c.blame.result c.blame.new.self) (sym there)
    (blamed c.in-Err-Bad.at c.in-Err-Bad.why slow written _ c.blame.result c.blame.new.self st c.blame.ensures)

pub returns-in-Err-Other : goal.returns-in-Err-Other
returns-in-Err-Other c slow written st =
    let me = c.me-me.ensures.slow slow written st in
    let sites = c.sites-sites.ensures.slow slow written st in
    let session = c.session.ensures slow written st in
    let other = is_other c.in-Err-Other.field-0-is c.in-Err-Other.ensures.fault in
    let there = found_of me sites session c.in-Ok.ensures other in
    let old : Held = c.args.self.now in
    subst (λ (f : Found). EventsOf f slow written old (Err fault.OtherJournal) old) (sym there) refl
