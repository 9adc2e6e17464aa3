-- The steps that a site of a log and its snapshot take.
use Rattle.std.specs.Prelude.{ℕ, List, ◌++◌, length, replicate}
use Rattle.gd_model.specs.Arrivals.{costs}
use Rattle.gd_reference.specs.SlowSite.{SlowSite, kept}

-- what the arrivals cost, and one for each kept event
abbrev pub steps_of : SlowSite → List ℕ
steps_of slow = costs slow.held ++ replicate (length (kept slow)) 1
