-- What a content replaces in an object that has its part.
use Rattle.std.specs.Prelude.{Option, None, Some, if◌then◌else◌}
use Rattle.gd_base.specs.Whole.{Object}
use Rattle.gd_model.specs.Contents.{Content}
use Rattle.gd_model.specs.Objects.{fits, old}

abbrev pub replaced_by : Content → Object → Option Content
replaced_by c o = if fits c o.kind then Some (old c o) else None
