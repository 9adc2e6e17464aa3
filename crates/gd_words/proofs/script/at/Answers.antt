use Rattle.std.proofs.Common.{◌≡◌, ◌∙◌, List, ℕ, Ok, ap, subst}
use Rattle.std.proofs.lemmas.Result.{err_from_is_err_and}
use Rattle.gd_lines.specs.LineWords.{word, behind}
use Rattle.gd_words.proofs.Joins.{at_unasked, at_no_site, at_fault, at_done}
use Rattle.gd_words.proofs.script.at.Goals as goal

pub returns-in_err-command : goal.returns-in_err-command
returns-in_err-command c =
    let p = err_from_is_err_and c.from_residual.result c.from_residual.ensures.1 in
    rw (p.1, p.2) (
    at_unasked c.args.count c.args.words.now c.word-name.result.now c.word-name.new.self c.asked_of_site.new.words _
    (c.word-name.ensures.word ∙ ap word c.site-site.ensures.rest) c.in_err-command.ensures
    )

pub returns-in_err-site : goal.returns-in_err-site
returns-in_err-site c =
    let p = err_from_is_err_and c.from_residual-in_err-site.result c.from_residual-in_err-site.ensures.1 in
    rw (p.1, p.2) (
    at_no_site c.args.count c.args.words.now c.word-name.result.now c.word-name.new.self c.asked_of_site.new.words
    c.in_ok-command.command _
    (c.word-name.ensures.word ∙ ap word c.site-site.ensures.rest) c.in_ok-command.ensures c.in_err-site.ensures.read
    )

pub returns-in_err-command-2 : goal.returns-in_err-command-2
returns-in_err-command-2 c =
    let p = err_from_is_err_and c.from_residual-in_err-command-2.result c.from_residual-in_err-command-2.ensures.1 in
    rw (p.1, p.2) (
    at_fault c.args.count c.args.words.now c.word-name.result.now c.word-name.new.self c.asked_of_site.new.words
    c.in_ok-command.command c.in_ok-site.field-0 _
    (c.word-name.ensures.word ∙ ap word c.site-site.ensures.rest)
    (c.word-name.ensures.rest ∙ ap behind c.site-site.ensures.rest)
    c.in_ok-command.ensures
    (c.in_ok-site.ensures.read ∙ ap (λ (l : List ℕ). Ok (c.in_ok-site.field-0, l)) c.site-site.ensures.rest)
    c.in_err-command-2.was
    )

pub returns : goal.returns
returns c =
    at_done c.args.count c.args.words.now c.word-name.result.now c.word-name.new.self c.asked_of_site.new.words
    c.in_ok-command.command c.in_ok-site.field-0 c.in_ok-command-2.field-0
    (c.word-name.ensures.word ∙ ap word c.site-site.ensures.rest)
    (c.word-name.ensures.rest ∙ ap behind c.site-site.ensures.rest)
    c.in_ok-command.ensures
    (c.in_ok-site.ensures.read ∙ ap (λ (l : List ℕ). Ok (c.in_ok-site.field-0, l)) c.site-site.ensures.rest)
    c.in_ok-command-2.was
