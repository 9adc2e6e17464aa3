use Rattle.std.proofs.Common.{◌≡◌, ◌≢◌, ◌∙◌, ap, refl, rules, subst, true}
use Rattle.gd_base.specs.declared.note.Note.{Note}
use Rattle.gd_embed.proofs.SayingLaws.{counted, has_site}
use Rattle.gd_embed.specs.Naming.{name_of}
use Rattle.gd_embed.specs.Records.{NoteIs}
use Rattle.gd_embed.proofs.held.Held.note.Goals as goal

pub returns-then-note-eq0 : goal.returns-then-note-eq0
returns-then-note-eq0 c slow written st =
    let note = c.note-note.ensures slow written st in
    (subst (λ (n : Note). n.number ≡ 0) note c.if-note-eq0.true, (refl, refl))

pub returns-in-Ok : goal.returns-in-Ok
returns-in-Ok c slow written st =
    let note = c.note-note.ensures slow written st in
    let has : c.has_site.result ≡ true = search rules in
    let numbered : c.note-note.result.number ≢ 0 = search rules in
    let said = c.bytes.ensures ∙ c.in-Ok.ensures ∙ ap (λ (n : Note). name_of n.name) note in
    let count = counted said c.as_bytes.ensures c.count_of.ensures c.count_of.type_inv in
    let noted = subst (λ (n : Note). NoteIs n c.of.result) note c.of.ensures in (
      has_site c.args.site st c.has_site.ensures has,
      (subst (λ (n : Note). n.number ≢ 0) note numbered, ((st, said), (count, noted))),
    )
