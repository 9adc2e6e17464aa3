-- An object is read where its bytes stand, and nowhere else.
use Rattle.std.proofs.Common.{◌≡◌, ℕ, Bool, true, false, List, [], ◌∷◌, ◌++◌, Option, Some, None, Ok, refl, sym, ap}
use Rattle.std.proofs.Common.{append_assoc, arith}
use Rattle.std.specs.Prelude.{option_map}
use Rattle.gd_base.specs.Kinds.{are_ends_of}
use Rattle.gd_base.specs.declared.shape.Shape.TheVariants.{Rect, Ellipse, Line, Text}
use Rattle.gd_base.specs.Labels.{most_title}
use Rattle.gd_base.specs.Stamps.{Stamp}
use Rattle.gd_grammar.specs.Exact.{Exact, Took}
use Rattle.gd_grammar.specs.FieldBytes.{AreBytes, stamp_bytes, signed_bytes, text_bytes}
use Rattle.gd_grammar.specs.Fields.{byte_at}
use Rattle.gd_grammar.specs.Reading.{then_at}
use Rattle.gd_grammar.specs.Readers.{steps}
use Rattle.gd_grammar.specs.LookBytes.{look_bytes}
use Rattle.gd_grammar.specs.Spelling.{kind_byte, flag_byte, link_bytes, both_bytes, ends_bytes, rank_bytes}
use Rattle.gd_grammar.specs.Spelling.{object_bytes}
use Rattle.gd_grammar.proofs.Exact.{joined, spelt, taking, done}
use Rattle.gd_grammar.proofs.ExactFields.{exact_stamp, exact_id, exact_parent_id, exact_place, exact_size, exact_title}
use Rattle.gd_grammar.proofs.ExactFields.{exact_long_label}
use Rattle.gd_grammar.proofs.ExactLooks.{exact_look}
use Rattle.gd_grammar.proofs.Readers.{◌&◌, TookAs, AllTook, took-pure, took-into, took-tags, then-read, pure-read}
use Rattle.gd_base.specs.declared.object.Kind.{Kind}
use Rattle.gd_base.specs.declared.object.Kind.TheVariants.{Shape, Group, Connector}
use Rattle.gd_base.specs.declared.object.Ends.{Ends}
use Rattle.gd_base.specs.declared.object.Link.{Link}
use Rattle.gd_base.specs.Whole.{Object}
use Rattle.gd_base.specs.declared.rank.Rank.{Rank}
use Rattle.gd_base.specs.declared.rank.Rank.TheVariants.{Low, High}
use Rattle.gd_grammar.specs.ObjectBytes.{kind_rows, kind_at, flag_rows, flag_at, parent_at, some_link_at, link_rows}
use Rattle.gd_grammar.specs.ObjectBytes.{link_at, given_at, some_ends_at, ends_rows, ends_or_none_at, joined_rows}
use Rattle.gd_grammar.specs.ObjectBytes.{joined_at, own_ends_at, rank_rows, rank_at, own_label_at, of_kind_at}
use Rattle.gd_grammar.specs.ObjectBytes.{object_at}
use Rattle.gd_grammar.specs.declared.naming.Naming.{Naming}
use Rattle.gd_grammar.proofs.SoundObjects.{IsParent, IsGiven, IsRank, IsLinkOf, AreEndsOf, AreOwnEnds, IsOwnLabel}
use Rattle.gd_grammar.proofs.SoundObjects.{IsDrawnBy}

-- ---- the kind and a flag

kind-written : (kind : Kind) (rest : List ℕ) → kind_at (kind_byte kind ∷ rest) ≡ Ok (kind, rest)
unfolding kind_at byte_at steps
kind-written (Shape Rect) rest = refl
kind-written (Shape Ellipse) rest = refl
kind-written (Shape Line) rest = refl
kind-written (Shape Text) rest = refl
kind-written Group rest = refl
kind-written Connector rest = refl

kinds : AllTook (λ _. Unit {0}) (λ k. kind_byte k ∷ []) kind_rows
kinds =
    took-pure (Shape Rect) 1 tt refl
    & took-pure (Shape Ellipse) 2 tt refl
    & took-pure (Shape Line) 3 tt refl
    & took-pure (Shape Text) 4 tt refl
    & took-pure Group 5 tt refl
    & took-pure Connector 6 tt refl
    & tt

pub exact_kind : Exact kind_at (λ _. Unit {0}) (λ k. kind_byte k ∷ [])
unfolding kind_at
exact_kind = record {
  written = λ kind rest s. kind-written kind rest;
  taken
      = λ bytes z are e. took-tags kind_rows kinds bytes z are e;
}

flag-written : (flag : Bool) (rest : List ℕ) → flag_at (flag_byte flag ∷ rest) ≡ Ok (flag, rest)
unfolding flag_at byte_at steps
flag-written false rest = refl
flag-written true rest = refl

flags : AllTook (λ _. Unit {0}) (λ b. flag_byte b ∷ []) flag_rows
flags = took-pure false 0 tt refl & took-pure true 1 tt refl & tt

exact_flag : Exact flag_at (λ _. Unit {0}) (λ b. flag_byte b ∷ [])
unfolding flag_at
exact_flag = record {
  written = λ flag rest s. flag-written flag rest;
  taken
      = λ bytes z are e. took-tags flag_rows flags bytes z are e;
}

-- ---- the link

exact_parent : (naming : Option Naming) → Exact (parent_at naming) (IsParent naming) stamp_bytes
unfolding parent_at
exact_parent None = exact_stamp
exact_parent (Some naming) = exact_parent_id naming.stamp naming.id

link-written : (naming : Option Naming) (link : Option Link) (rest : List ℕ) → IsLinkOf naming link
    → link_at naming (link_bytes link ++ rest) ≡ Ok (link, rest)
unfolding link_at byte_at some_link_at steps
link-written naming None rest s = refl
link-written naming (Some link) rest s =
    rw (
      (exact_parent naming).written link.parent (signed_bytes link.dx ++ signed_bytes link.dy ++ rest) s.0,
      exact_place.written link.dx (signed_bytes link.dy ++ rest) s.1,
      exact_place.written link.dy rest s.2,
    ) refl

link-took : (naming : Option Naming) → TookAs (IsLinkOf naming) link_bytes (1, some_link_at naming)
unfolding some_link_at steps
link-took naming whole bytes z are flag e =
    taking (exact_parent naming) bytes are _ z e (λ parent.
    taking exact_place parent.rest parent.left _ z parent.on (λ dx.
    taking exact_place dx.rest dx.left _ z dx.on (λ dy.
    done _ z dy.on (record {
      sound = (parent.sound, dx.sound, dy.sound);
      text
          = joined (joined (joined flag parent.text) dx.text) dy.text;
    }))))

links : (naming : Option Naming) → AllTook (IsLinkOf naming) link_bytes (link_rows naming)
links naming = took-pure None 0 tt refl & link-took naming & tt

pub exact_link : (naming : Option Naming) → Exact (link_at naming) (IsLinkOf naming) link_bytes
unfolding link_at
exact_link naming = record {
  written = link-written naming;
  taken
      = λ bytes z are e. took-tags (link_rows naming) (links naming) bytes z are e;
}

-- ---- the rank

exact_given : (stamp : Option Stamp) → Exact (given_at stamp) (IsGiven stamp) stamp_bytes
unfolding given_at
exact_given None = exact_stamp
exact_given (Some stamp) = exact_id stamp

rank-written : (stamp : Option Stamp) (rank : Rank) (rest : List ℕ) → IsRank stamp rank
    → rank_at stamp (rank_bytes rank ++ rest) ≡ Ok (rank, rest)
unfolding rank_at byte_at steps
rank-written stamp (Low given) rest s = rw ((exact_given stamp).written given rest s) refl
rank-written stamp (High given) rest s = rw ((exact_given stamp).written given rest s) refl

ranks : (stamp : Option Stamp) → AllTook (IsRank stamp) rank_bytes (rank_rows stamp)
ranks stamp = took-into Low 0 (exact_given stamp) (λ given s. s) (λ given. refl) & took-into High 1 (exact_given stamp)
    (λ given s. s) (λ given. refl) & tt

pub exact_rank : (stamp : Option Stamp) → Exact (rank_at stamp) (IsRank stamp) rank_bytes
unfolding rank_at
exact_rank stamp = record
    { written = rank-written stamp; taken = λ bytes z are e. took-tags (rank_rows stamp) (ranks stamp) bytes z are e }

-- ---- the ends

some-written : (stamp : Option Stamp) (ends : Ends) (rest : List ℕ) → AreEndsOf stamp (Some ends)
    → some_ends_at stamp (both_bytes ends ++ rest) ≡ Ok (Some ends, rest)
unfolding some_ends_at
some-written stamp ends rest s =
    then-read _ _ ((exact_given stamp).written ends.from (stamp_bytes ends.to ++ rest) s.0)
    (then-read _ _ ((exact_given stamp).written ends.to rest s.1) (pure-read _ _))

own-ends-written : (kind : Kind) (stamp : Option Stamp) (ends : Option Ends) (rest : List ℕ)
    → AreOwnEnds kind stamp ends
    → own_ends_at kind stamp (ends_bytes ends ++ rest) ≡ Ok (ends, rest)
unfolding own_ends_at ends_or_none_at joined_at byte_at steps
own-ends-written (Shape shape) stamp None rest s = refl
own-ends-written (Shape shape) stamp (Some ends) rest s = some-written stamp ends rest s.given
own-ends-written Group stamp None rest s = refl
own-ends-written Group stamp (Some ends) rest s = some-written stamp ends rest s.given
own-ends-written Connector stamp None rest s = let no = s.joined in absurd cc
own-ends-written Connector stamp (Some ends) rest s = some-written stamp ends rest s.given

-- any object may have some
some-own : (kind : Kind) (ends : Ends) → are_ends_of kind (Some ends) ≡ true
some-own (Shape shape) ends = refl
some-own Group ends = refl
some-own Connector ends = refl

some-took : (kind : Kind) (stamp : Option Stamp) → TookAs (AreOwnEnds kind stamp) ends_bytes (1, some_ends_at stamp)
unfolding some_ends_at steps
some-took kind stamp whole bytes z are flag e =
    taking (exact_given stamp) bytes are _ z e (λ from.
    taking (exact_given stamp) from.rest from.left _ z from.on (λ to.
    done _ z to.on (record {
      sound = record { given = (from.sound, to.sound); joined = some-own kind _ };
      text = joined (joined flag from.text) to.text;
    })))

own-ends-taken : (kind : Kind) (stamp : Option Stamp) (bytes : List ℕ) (z : Option Ends × List ℕ) → AreBytes bytes
    → own_ends_at kind stamp bytes ≡ Ok z → Took (AreOwnEnds kind stamp) ends_bytes bytes z
unfolding own_ends_at ends_or_none_at joined_at
own-ends-taken (Shape shape) stamp bytes z are e =
    took-tags (ends_rows stamp)
    (took-pure None 0 (record { given = tt; joined = refl }) refl & some-took (Shape shape) stamp & tt) bytes z are
    e
own-ends-taken Group stamp bytes z are e =
    took-tags (ends_rows stamp)
    (took-pure None 0 (record { given = tt; joined = refl }) refl & some-took Group stamp & tt) bytes z are e
own-ends-taken Connector stamp bytes z are e
    = took-tags (joined_rows stamp) (some-took Connector stamp & tt) bytes z are e

exact_own_ends : (kind : Kind) (stamp : Option Stamp)
    → Exact (own_ends_at kind stamp) (AreOwnEnds kind stamp) ends_bytes
exact_own_ends kind stamp = record { written = own-ends-written kind stamp; taken = own-ends-taken kind stamp }

-- ---- the label

exact_own_label : (kind : Kind) → Exact (own_label_at kind) (IsOwnLabel kind) text_bytes
unfolding own_label_at
exact_own_label (Shape shape) = exact_long_label
exact_own_label Group = exact_title most_title (omega arith)
exact_own_label Connector = exact_long_label

-- ---- the object

-- what stands behind its kind
abbrev pub behind_bytes : Object → List ℕ
behind_bytes o =
    signed_bytes o.x ++ signed_bytes o.y ++ signed_bytes o.w ++ signed_bytes o.h ++ look_bytes o.look
    ++ text_bytes o.label
    ++ ends_bytes o.ends ++ link_bytes o.link ++ flag_byte o.dissolved ∷ rank_bytes o.rank

-- its parts, one behind the other
in-turn : (place look label ends link rank rest : List ℕ) (dissolved : ℕ)
    → (place ++ look ++ label ++ ends ++ link ++ dissolved ∷ rank) ++ rest
    ≡ place ++ (look ++ (label ++ (ends ++ (link ++ (dissolved ∷ (rank ++ rest))))))
in-turn place look label ends link rank rest dissolved = simp append_assoc

pub behind-written : (naming : Option Naming) (o : Object) (rest : List ℕ) → IsDrawnBy naming o
    → of_kind_at o.kind naming (behind_bytes o ++ rest) ≡ Ok (o, rest)
unfolding of_kind_at
behind-written naming o rest s =
    rw (in-turn (signed_bytes o.x ++ signed_bytes o.y ++ signed_bytes o.w ++ signed_bytes o.h) (look_bytes o.look)
    (text_bytes o.label)
    (ends_bytes o.ends) (link_bytes o.link) (rank_bytes o.rank) rest (flag_byte o.dissolved))
    (then-read _ _ (exact_place.written o.x _ s.left) (then-read _ _ (exact_place.written o.y _ s.top)
    (then-read _ _ (exact_size.written o.w _ s.width) (then-read _ _ (exact_size.written o.h _ s.height)
    (then-read _ _ (exact_look.written o.look _ s.look)
    (then-read _ _ ((exact_own_label o.kind).written o.label _ s.label)
    (then-read _ _ ((exact_own_ends o.kind (option_map (λ n. n.stamp) naming)).written o.ends _ s.ends)
    (then-read _ _ ((exact_link naming).written o.link _ s.link) (then-read _ _ (exact_flag.written o.dissolved _ tt)
    (then-read _ _ ((exact_rank (option_map (λ n. n.stamp) naming)).written o.rank _ s.rank) (pure-read _ _)))))))))))

-- an object of that kind
pub record IsDrawnOf (kind : Kind) (naming : Option Naming) (o : Object) : Type 0 where
  pub drawn : IsDrawnBy naming o
  pub is : o.kind ≡ kind

pub exact_of_kind : (kind : Kind) (naming : Option Naming)
    → Exact (of_kind_at kind naming) (IsDrawnOf kind naming) behind_bytes
unfolding of_kind_at steps
exact_of_kind kind naming = record {
  written = λ o rest s. rw (← s.is) (behind-written naming o rest s.drawn);
  taken = λ bytes z are e.
      taking exact_place bytes are _ z e (λ x.
      taking exact_place x.rest x.left _ z x.on (λ y.
      taking exact_size y.rest y.left _ z y.on (λ w.
      taking exact_size w.rest w.left _ z w.on (λ h.
      taking exact_look h.rest h.left _ z h.on (λ look.
      taking (exact_own_label kind) look.rest look.left _ z look.on (λ label.
      taking (exact_own_ends kind (option_map (λ n. n.stamp) naming)) label.rest label.left _ z label.on (λ ends.
      taking (exact_link naming) ends.rest ends.left _ z ends.on (λ link.
      taking exact_flag link.rest link.left _ z link.on (λ dissolved.
      taking (exact_rank (option_map (λ n. n.stamp) naming)) dissolved.rest dissolved.left _ z dissolved.on (λ rank.
      let place = joined (joined (joined x.text y.text) w.text) h.text in
      let named = joined (joined (joined place look.text) label.text) ends.text in
      done _ z rank.on (record {
        sound = record {
          drawn = record {
            left = x.sound;
            top = y.sound;
            width = w.sound;
            height = h.sound;
            look = look.sound;
            label = label.sound;
            ends = ends.sound;
            link = link.sound;
            rank = rank.sound;
          };
          is = refl;
        };
        text = joined (joined named link.text) (joined dissolved.text rank.text);
      })))))))))));
}

-- the kind of an object stands in front of the rest
pub object-kind : (o : Object) (rest : List ℕ) → kind_at (object_bytes o ++ rest) ≡ Ok (o.kind, behind_bytes o ++ rest)
unfolding object_bytes
object-kind o rest = exact_kind.written o.kind (behind_bytes o ++ rest) tt

pub kind-object : {kind : Kind} (o : Object) → o.kind ≡ kind → kind_byte kind ∷ behind_bytes o ≡ object_bytes o
unfolding object_bytes
kind-object o is = ap (λ (k : Kind). kind_byte k ∷ behind_bytes o) (sym is)

object-written : (naming : Option Naming) (o : Object) (rest : List ℕ) → IsDrawnBy naming o
    → object_at naming (object_bytes o ++ rest) ≡ Ok (o, rest)
unfolding object_at
object-written naming o rest s = then-read _ _ (object-kind o rest) (behind-written naming o rest s)

pub exact_object : (naming : Option Naming) → Exact (object_at naming) (IsDrawnBy naming) object_bytes
unfolding object_at then_at
exact_object naming = record {
  written = object-written naming;
  taken = λ bytes z are e.
      taking exact_kind bytes are _ z e (λ kind.
      let o = (exact_of_kind kind.value naming).taken kind.rest z kind.left kind.on in
      record { sound = o.sound.drawn; text = spelt (joined kind.text o.text) (kind-object z.0 o.sound.is) });
}
