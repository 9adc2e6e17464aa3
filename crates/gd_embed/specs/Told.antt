-- What a member said last, as bytes.
use Rattle.std.specs.Prelude.{ℕ, List}
use Rattle.gd_embed.specs.declared.told.Kind.{Kind}
use Rattle.gd_embed.specs.declared.told.Kind.TheVariants.{Replies, Json, Bytes}

abbrev pub told_bytes : Kind → List ℕ
told_bytes (Replies said) = said
told_bytes (Json line) = line
told_bytes (Bytes bytes) = bytes.items
