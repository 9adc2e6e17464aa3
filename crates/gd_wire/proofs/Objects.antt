-- The bytes of an object, put one part behind the other, and how many bytes of it and of what restores it there are at
-- most.
use Rattle.std.proofs.Common.{◌≡◌, ℕ, ◌+◌, ◌*◌, ◌≤◌, true, List, [], ◌∷◌, ◌++◌, length, append_assoc, subst, arith}
use Rattle.std.specs.Prelude.{nat_le}
use Rattle.std.proofs.lemmas.Bool.{and_parts, leb-true}
use Rattle.std.proofs.lemmas.List.{length-append}
use Rattle.gd_base.specs.Kinds.{most_ties}
use Rattle.gd_base.specs.Labels.{most_label}
use Rattle.gd_base.specs.Stamps.{Stamp}
use Rattle.gd_base.specs.declared.look.Look.{Look}
use Rattle.gd_base.specs.declared.look.Looks.{Looks}
use Rattle.gd_base.specs.declared.object.Kind.{Kind}
use Rattle.gd_base.specs.declared.object.Kind.TheVariants.{Shape, Group, Connector}
use Rattle.gd_base.specs.Whole.{Object}
use Rattle.gd_base.specs.declared.op.Op.TheVariants.{Restore}
use Rattle.gd_base.specs.declared.ties.Tie.{Tie}
use Rattle.gd_base.specs.declared.version.Version.TheVariants.{Three}
use Rattle.gd_base.specs.declared.ranges.TheConstants.{MOST_MEMBERS}
use Rattle.gd_events.specs.Ops.{Op}
use Rattle.gd_events.specs.Sound.{IsOp}
use Rattle.gd_grammar.specs.FieldBytes.{word_bytes, signed_bytes, text_bytes}
use Rattle.gd_grammar.specs.LookBytes.{fill_bytes, dash_byte, heads_byte, round_bytes, letters_bytes, align_byte}
use Rattle.gd_grammar.specs.LookBytes.{look_bytes, set_bytes, single, looks_bytes}
use Rattle.gd_grammar.specs.Spelling.{kind_byte, flag_byte, ends_bytes, link_bytes, rank_bytes, object_bytes}
use Rattle.gd_grammar.specs.declared.sizes.TheConstants.{EVENT_BYTES}
use Rattle.gd_grammar.proofs.DrawingKind.{newest-spelled}
use Rattle.gd_grammar.proofs.Lengths.{text-most, title-length, object-most}
use Rattle.gd_grammar.proofs.SoundFields.{is_count, most-few, sound-fields}
use Rattle.gd_grammar.proofs.SoundObjects.{IsOwnLabel}

-- its parts were put behind the bytes that were there
pub object_put : (o : Object) (out : List ℕ)
    → out ++ kind_byte o.kind ∷ signed_bytes o.x ++ signed_bytes o.y ++ signed_bytes o.w ++ signed_bytes o.h
    ++ look_bytes o.look ++ text_bytes o.label
    ++ ends_bytes o.ends ++ link_bytes o.link ++ flag_byte o.dissolved ∷ [] ++ rank_bytes o.rank
    ≡ out ++ object_bytes o
unfolding object_bytes
object_put o out = simp append_assoc

-- the parts of a look were
pub look_put : (l : Look) (out : List ℕ)
    → out ++ word_bytes l.stroke ++ fill_bytes l.fill ++ l.width ∷ [] ++ dash_byte l.dash ∷ []
    ++ heads_byte l.heads ∷ [] ++ round_bytes l.round
    ++ l.opacity ∷ [] ++ letters_bytes l.letters ++ align_byte l.align ∷ []
    ≡ out ++ look_bytes l
unfolding look_bytes
look_put l out = simp append_assoc

-- and what is set of looks
pub looks_put : (l : Looks) (out : List ℕ)
    → out ++ set_bytes word_bytes l.stroke ++ set_bytes fill_bytes l.fill ++ set_bytes (single (λ n. n)) l.width
    ++ set_bytes (single dash_byte) l.dash
    ++ set_bytes (single heads_byte) l.heads ++ set_bytes round_bytes l.round ++ set_bytes (single (λ n. n)) l.opacity
    ++ set_bytes letters_bytes l.letters ++ set_bytes (single align_byte) l.align
    ≡ out ++ looks_bytes l
unfolding looks_bytes
looks_put l out = simp append_assoc

-- ---- how long they are

-- an object is put in at most 578 bytes
pub object_most : (o : Object) (out : List ℕ) → length o.label ≤ most_label
    → length (out ++ object_bytes o) ≤ length out + 578
object_most o out few = omega (arith, few, object-most o, text-most o.label, length-append out (object_bytes o))

-- a label and ties of an object of that kind: what isn't a group has no ties
by-kind : (kind : Kind) (label : List ℕ) (count : ℕ) → IsOwnLabel kind label → is_count 0 (most_ties kind) count ≡ true
    → length (text_bytes label) + 23 * count ≤ 937
by-kind (Shape shape) label count own few =
    let none = leb-true count 0 (and_parts (nat_le 0 count) (nat_le count 0) few).1 in
    omega (arith, none, own.fits, text-most label)
by-kind Group label count own few =
    let most = leb-true count 32 (and_parts (nat_le 0 count) (nat_le count 32) few).1 in
    omega (arith, most, own.fits, title-length label own.fits)
by-kind Connector label count own few =
    let none = leb-true count 0 (and_parts (nat_le 0 count) (nat_le count 0) few).1 in
    omega (arith, none, own.fits, text-most label)

-- there is room for the ties of what is restored
pub restore_room : (op : Op) (id : Stamp) (o : Object) (ties : List Tie) → (stamp : Stamp) × IsOp stamp op
    → op ≡ Restore id o ties
    → 17 + length (object_bytes o) + 1 + 23 * length ties ≤ EVENT_BYTES
restore_room op id o ties s is =
    let restore = Restore id o ties in
    let sound = subst (λ (x : Op). IsOp s.0 x) is s.1 in
    let fields = (sound-fields Three s.0 restore (record { is_op = sound; spelled = newest-spelled restore })).0 in
    omega (arith, object-most o, by-kind o.kind o.label (length ties) fields.object.label fields.ties.count)

-- how many ties an object of that kind is restored with at most
pub ties_few : (kind : Kind) (most : ℕ) → most ≡ most_ties kind → most ≤ MOST_MEMBERS
ties_few kind most is = rw is (most-few kind)
