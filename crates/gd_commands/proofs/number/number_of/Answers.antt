use Rattle.std.proofs.Common.{◌≡◌, ◌∙◌, ◌<◌, ◌^◌, Ok, Some, None, ap, arith, cond, lit<, rules, sym, true}
use Rattle.std.specs.List.{list_all}
use Rattle.std.specs.Result.{result_ok}
use Rattle.std.specs.Str.Parse.{digits_value}
use Rattle.std.proofs.lemmas.Bool.{leb-true, ltb-true}
use Rattle.std.proofs.lemmas.Str.Parse.{IsNumeralModel, digits_value_short, numerals_by_value, parse_gives}
use Rattle.clap.proofs.WalkLemmas.{both}
use Rattle.gd_commands.specs.Numbers.{is_digit, is_number}
use Rattle.gd_commands.proofs.number.number_of.Goals as goal

own : IsNumeralModel (λ ds. list_all is_digit ds ≡ true) (digits_value 10)
own = numerals_by_value _ (search rules)

pub returns-then-is_number : goal.returns-then-is_number
returns-then-is_number c =
    let text = c.args.text.now in
    let number : is_number text ≡ true = sym (c.if-is_number.ensures) in
    let some = both _ _ number in
    let few = both _ _ some.1 in
    let short : digits_value 10 text < 10 ^ 20 = digits_value_short own text 20 few.1 (leb-true _ _ few.0) in
    let fits : 10 ^ 20 < 2 ^ 128 = lit< tt in
    let read : c.parse.result ≡ Ok (digits_value 10 text) =
    parse_gives own 128 text c.parse.result c.parse.ensures.value.0 few.1 (ltb-true _ _ some.0) (omega arith) in
    c.ok.ensures.value ∙ ap result_ok read ∙ sym (ap (λ b. cond b (Some (digits_value 10 text)) None) number)
