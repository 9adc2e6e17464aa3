-- What the devices tell: how many of their calls failed, and nothing of their content.
use Rattle.std.specs.Prelude.{ℕ, None}
use Rattle.gd_outside.specs.Disk.{untold}
use Rattle.gd_outside.specs.Seen.{SeenSource, SeenSink, SeenJournal, SeenLink}

abbrev pub seen_input : ℕ → SeenSource
seen_input faults = record { left = None; faults = faults }

abbrev pub seen_output : ℕ → SeenSink
seen_output faults = record { bytes = None; faults = faults }

abbrev pub seen_file : ℕ → SeenJournal
seen_file faults = record { contents = None; name = None; disk = untold; faults = faults }

abbrev pub seen_socket : ℕ → SeenLink
seen_socket faults = record { entries = None; tried = None; addresses = None; me = None; faults = faults }
