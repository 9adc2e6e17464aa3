use Rattle.std.proofs.Common.{List, sym, ap, ◌∙◌}
use Rattle.std.specs.Prelude.{option_map, slice_get}
use Rattle.gd_base.specs.declared.member.Member.{Member}
use Rattle.gd_canvas.specs.Groupings.{GroupingValue}
use Rattle.gd_canvas.specs.Touches.{id_at}
use Rattle.gd_canvas.proofs.GroupingLemmas.{linked_id}
use Rattle.gd_canvas.proofs.grouping.Grouping.linked_at.Goals as goal

pub returns-then-links_all : goal.returns-then-links_all
returns-then-links_all c =
    let items = c.as_slice.ensures.items ∙ ap (λ (v : GroupingValue). v.members) c.self.view_is in
    c.member_at.ensures
    ∙ ap (λ (ms : List Member). option_map (λ m. m.id) (slice_get ms c.args.place)) items
    ∙ sym (linked_id c.args.stamp c.args.self.now.members c.args.place)
    ∙ ap (λ ts. id_at ts c.args.place) (sym (c.links_all.ensures c.if-links_all.true))
