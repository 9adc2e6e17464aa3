use Rattle.std.proofs.Common.{◌∙◌}
use Rattle.gd_export.proofs.Begin.{put_if}
use Rattle.gd_export.proofs.array.ArrayText.put.Goals as goal

pub returns : goal.returns
returns c = λ texts begun.
    put_if c.push_str.result c.args.self.now
    (record { text = c.push_str.new.self; is_empty = c.separate.new.self.is_empty }) texts c.args.value.now _ _
    begun
    c.push_str.ensures.bytes c.in_ok-separate.ensures.text (c.as_str.ensures.value ∙ c.in_ok-text.ensures)
    c.in_ok-separate.ensures.next
