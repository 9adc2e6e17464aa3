-- Sites that part.
use Rattle.std.specs.Prelude.{◌≡◌}
use Rattle.gd_reference.specs.SlowSite.{SlowSite}

-- a site is as it was, but for the sites from which it has parted
abbrev pub KeepsAllElse : SlowSite → SlowSite → Type 0
KeepsAllElse old new = new ≡ record old { parted = new.parted }
