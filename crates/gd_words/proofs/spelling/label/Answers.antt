use Rattle.std.proofs.Common.{◌∙◌, ap, sym}
use Rattle.gd_words.specs.Told.{label_of}
use Rattle.gd_words.proofs.Escapes.{no_label, the_label}
use Rattle.gd_words.proofs.spelling.label.Goals as goal

pub returns-in_err-bytes : goal.returns-in_err-bytes
returns-in_err-bytes c = rw c.from_residual.ensures (sym (no_label c.args.text.now c.in_err-bytes.ensures.none))

pub returns : goal.returns
returns c = c.label_of.ensures ∙ ap label_of c.as_slice.ensures.value
    ∙ sym (the_label c.args.text.now _ c.in_ok-bytes.ensures.fits)
