-- The links that those had which an event tied, with the room for them; and ties with the links that were there.
use Rattle.std.specs.Prelude.{ℕ, List}
use Rattle.gd_base.specs.declared.ties.Tie.{Tie}

pub record OldTiesValue : Type 0 where
  pub links : List Tie
  pub room : ℕ

pub record TiedValue : Type 0 where
  pub ties : List Tie
  pub olds : List Tie
