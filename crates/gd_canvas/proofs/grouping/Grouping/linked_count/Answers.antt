use Rattle.std.proofs.Common.{ap, ◌∙◌, length, arith}
use Rattle.std.proofs.lemmas.List.{length-map}
use Rattle.gd_model.specs.Forms.{tie_of}
use Rattle.gd_canvas.specs.Groupings.{GroupingValue}
use Rattle.gd_canvas.proofs.grouping.Grouping.linked_count.Goals as goal

pub returns-then-links_all-clause-count : goal.returns-then-links_all-clause-count
returns-then-links_all-clause-count c =
    let items = c.as_slice.ensures.items ∙ ap (λ (v : GroupingValue). v.members) c.self.view_is in
    omega (
      arith,
      ap length items,
      length-map c.args.self.now.members (tie_of c.args.stamp),
      ap length
          (c.links_all.ensures c.if-links_all.true),
    )
