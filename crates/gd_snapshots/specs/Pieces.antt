-- Pieces of a snapshot, as they are read off the front of bytes behind which more may come.
use Rattle.std.specs.Prelude.{◌≡◌, ◌≤◌, ℕ, List, ◌++◌, length, Ok, Err}
use Rattle.gd_base.specs.declared.fault.FieldFault.{FieldFault}
use Rattle.gd_base.specs.declared.fault.FieldWhy.TheVariants.{Short}
use Rattle.gd_grammar.specs.FieldBytes.{AreBytes}
use Rattle.gd_grammar.specs.Reading.{Reads}
use Rattle.gd_grammar.specs.Steady.{Steady}
use Rattle.gd_grammar.specs.declared.sizes.TheConstants.{EVENT_BYTES}

-- A piece was read off the front of bytes. The text that it took is at least so long, and the piece is read from it
-- whatever follows.
pub record Stands {A : Type 0} (read : List ℕ → Reads A) (least : ℕ)
    (bytes : List ℕ) (x : A × List ℕ) : Type 0 where
  pub text : List ℕ
  pub is : bytes ≡ text ++ x.1
  pub alone : (more : List ℕ) → read (text ++ more) ≡ Ok (x.0, more)
  pub long : least ≤ length text

-- what reading a piece off a stream rests on
pub record PieceLaws {A : Type 0} (read : List ℕ → Reads A) (least : ℕ) : Type 0 where
  pub stands : (bytes : List ℕ) (x : A × List ℕ) → AreBytes bytes → read bytes ≡ Ok x
      → Stands read least bytes x
  -- it is read alike whatever follows, and is no longer than an event
  pub steady : Steady EVENT_BYTES read
  -- where its bytes aren't all there, the fault is at their end
  pub ends : (bytes : List ℕ) (f : FieldFault) → read bytes ≡ Err f → f.why ≡ Short → f.left ≡ 0
