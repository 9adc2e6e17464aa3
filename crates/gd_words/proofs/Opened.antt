-- The readers that proofs about functions that read see through.
use Rattle.std.specs.Prelude.{⊤}
use Rattle.gd_lines.specs.Edits.{create_words, delete_words, group_words, set_words, two_words}
use Rattle.gd_lines.specs.Edits.{look_words, named_at, style_words, connect_words, ends_words, text_words}
use Rattle.gd_lines.specs.Lines.{focus_words, name_words}
use Rattle.gd_lines.specs.Reading.{then_at}
use Rattle.gd_lines.specs.ScriptLines.{mail_at, send_words, deliver_words}

unfoldable pub reading : ⊤
unfolding then_at create_words delete_words group_words set_words two_words look_words named_at style_words
    connect_words ends_words text_words focus_words name_words mail_at send_words deliver_words
reading = tt
