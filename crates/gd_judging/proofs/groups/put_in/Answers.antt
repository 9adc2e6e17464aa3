use Rattle.std.proofs.Common.{◌∙◌, ap, ℕ, List}
use Rattle.std.specs.List.{insert, position_or_len}
use Rattle.gd_base.specs.Stamps.{is_before}
use Rattle.gd_base.specs.declared.member.Member.{Member}
use Rattle.gd_judging.proofs.Rising.{insert_first}
use Rattle.gd_judging.proofs.groups.put_in.Goals as goal

pub returns-clause-items : goal.returns-clause-items
returns-clause-items c =
    c.insert.ensures.items
    ∙ ap (λ (k : ℕ). insert c.args.members.now.items k c.args.member)
    (c.place_of-place.ensures.place
    ∙ ap (λ (l : List Member). position_or_len (λ m. is_before c.args.member.id m.id) l) c.as_slice.ensures.value)
    ∙ insert_first c.args.member c.args.members.now.items
