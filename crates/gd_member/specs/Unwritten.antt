-- The events that aren't in the caller's journal yet, as the bytes of its log.
use Rattle.std.specs.Prelude.{◌≡◌, ℕ, List, [], ◌∷◌, ◌++◌}
use Rattle.gd_base.specs.declared.version.Version.TheVariants.{Three}
use Rattle.gd_events.specs.Events.{Event}
use Rattle.gd_grammar.specs.Chains.{AreChains}
use Rattle.gd_grammar.specs.Closing.{gate_place}
use Rattle.gd_grammar.specs.Drawings.{drawings}
use Rattle.gd_grammar.specs.LogBytes.{gated_bytes}

-- the place of the journal's closing gate, the bytes that follow there, for each site the check of its events, those of
-- these bytes too, and for how many bytes more there is room
pub record UnwrittenValue : Type 0 where
  pub place : ℕ
  pub bytes : List ℕ
  pub chains : List ℕ
  pub spare : ℕ

-- the bytes of events behind those that the journal has, to be put over its closing gate: each behind an open gate, and
-- a closed one; nothing where there are none
abbrev pub piece_of : List Event → List Event → List ℕ
piece_of written [] = []
piece_of written (e ∷ es) = gated_bytes drawings Three written (e ∷ es) ++ 0 ∷ []

-- the journal has these events, and those others follow
pub record AreUnwritten (written others : List Event) (u : UnwrittenValue) : Type 0 where
  pub place_is : u.place ≡ gate_place drawings Three written
  pub bytes_are : u.bytes ≡ piece_of written others
  pub chained : AreChains drawings u.chains (written ++ others)
