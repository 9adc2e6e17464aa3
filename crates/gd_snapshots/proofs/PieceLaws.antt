-- The pieces of which a snapshot is read: its head, what is known of a site, a number, an id, an object and an event.
use Rattle.std.proofs.Common.{ℕ, ◌≤◌, List, None, length, arith}
use Rattle.gd_grammar.specs.Drawings.{event_at}
use Rattle.gd_grammar.specs.Exact.{Exact}
use Rattle.gd_grammar.specs.Fields.{stamp_at, word_at}
use Rattle.gd_grammar.specs.ObjectBytes.{object_at}
use Rattle.gd_grammar.specs.Reading.{Reads}
use Rattle.gd_grammar.specs.Steady.{Steady}
use Rattle.gd_grammar.specs.declared.sizes.TheConstants.{EVENT_BYTES, OBJECT_BYTES}
use Rattle.gd_grammar.proofs.DrawingEvents.{Steady-event, exact_event, spelling-least}
use Rattle.gd_grammar.proofs.ExactFields.{exact_stamp, exact_word}
use Rattle.gd_grammar.proofs.Lengths.{object-least, text-least}
use Rattle.gd_grammar.proofs.Steady.{Steady-weaken}
use Rattle.gd_grammar.proofs.SteadyFields.{Steady-stamp, Steady-word}
use Rattle.gd_grammar.proofs.SteadyObject.{Steady-object}
use Rattle.gd_snapshots.specs.Pieces.{PieceLaws}
use Rattle.gd_snapshots.specs.SnapshotBytes.{head_at, known_at}
use Rattle.gd_snapshots.proofs.Ends.{AtEnd, end-stamp, end-word, end-event, end-object, end-head, end-known}
use Rattle.gd_snapshots.proofs.ExactObject.{exact_object}
use Rattle.gd_snapshots.proofs.ExactParts.{exact_head, exact_known}
use Rattle.gd_snapshots.proofs.SteadyParts.{Steady-head, Steady-known}

piece : {A : Type 0} {read : List ℕ → Reads A} {Sound : A → Type 0} {spell : A → List ℕ} (most least : ℕ)
    → Exact read Sound spell → Steady most read → most ≤ EVENT_BYTES → ((x : A) → Sound x → least ≤ length (spell x))
    → ((bytes : List ℕ) → AtEnd (read bytes)) → PieceLaws read least
piece {read = read} {spell = spell} most least exact steady few long ends = record {
  stands = λ bytes x are e.
      let took = exact.taken bytes x are e in
      record {
        text = spell x.0;
        is = took.text.is;
        alone = λ more. exact.written x.0 more took.sound;
        long
            = long x.0 took.sound;
      };
  steady = Steady-weaken most EVENT_BYTES read few steady;
  ends = λ bytes. (ends bytes).at;
}

pub head_piece : PieceLaws head_at 11
head_piece = piece 11 11 exact_head Steady-head (omega arith) (λ h s. omega arith) end-head

pub known_piece : PieceLaws known_at 8
known_piece = piece 8 8 exact_known Steady-known (omega arith) (λ k s. omega arith) end-known

pub number_piece : PieceLaws word_at 4
number_piece = piece 4 4 exact_word Steady-word (omega arith) (λ n s. omega arith) end-word

pub id_piece : PieceLaws stamp_at 7
id_piece = piece 7 7 exact_stamp Steady-stamp (omega arith) (λ id s. omega arith) end-stamp

pub object_piece : PieceLaws (object_at None) 48
object_piece = piece OBJECT_BYTES 48 exact_object (Steady-object None) (omega arith)
    (λ o s. omega (arith, object-least o, text-least o.label)) (end-object None)

pub event_piece : PieceLaws event_at 17
event_piece = piece EVENT_BYTES 17 exact_event Steady-event (omega arith) spelling-least end-event
