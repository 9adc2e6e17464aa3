-- The versions of bytes. Each has what the ones before it have.
use Rattle.std.specs.Prelude.{ℕ, Bool, nat_le}
use Rattle.gd_base.specs.declared.version.Version.{Version}
use Rattle.gd_base.specs.declared.version.Version.TheVariants.{One, Two, Three}

-- The byte of a version. That of the third is two bits from the others, so that no flipped bit makes one version
-- another.
abbrev pub version_byte : Version → ℕ
version_byte One = 1
version_byte Two = 2
version_byte Three = 7

-- whether a version has what came with the other one
abbrev pub has_version : Version → Version → Bool
has_version version first = nat_le (version_byte first) (version_byte version)

-- whether a log of that version has a check behind each event, and gates of two values alone
abbrev pub has_checks : Version → Bool
has_checks version = has_version version Three
