-- Each part of an object is read alike whatever follows it. An object takes at most 578 bytes, and a group at most 277.
use Rattle.std.proofs.Common.{ℕ, ◌+◌, ◌≤◌, cond, None, Some, Ok, Err, arith}
use Rattle.std.specs.Prelude.{Option, option_map}
use Rattle.gd_base.specs.declared.fault.FieldWhy.TheVariants.{FutureId}
use Rattle.gd_base.specs.Labels.{most_title}
use Rattle.gd_base.specs.Ranges.{place_limit, size_limit}
use Rattle.gd_base.specs.Stamps.{Stamp, is_before}
use Rattle.gd_base.specs.declared.object.Kind.{Kind}
use Rattle.gd_base.specs.declared.object.Kind.TheVariants.{Shape, Group, Connector}
use Rattle.gd_base.specs.declared.rank.Rank.TheVariants.{Low, High}
use Rattle.gd_grammar.specs.EventBytes.{parent_id_at}
use Rattle.gd_grammar.specs.Fields.{id_at}
use Rattle.gd_grammar.specs.ObjectBytes.{kind_rows, kind_at, flag_rows, flag_at, parent_at, some_link_at, link_rows}
use Rattle.gd_grammar.specs.ObjectBytes.{link_at, given_at, some_ends_at, ends_rows, ends_or_none_at, joined_rows}
use Rattle.gd_grammar.specs.ObjectBytes.{joined_at, own_ends_at, rank_rows, rank_at, own_label_at, of_kind_at}
use Rattle.gd_grammar.specs.ObjectBytes.{object_at}
use Rattle.gd_grammar.specs.Reading.{fault_at}
use Rattle.gd_grammar.specs.Steady.{Steady}
use Rattle.gd_grammar.specs.declared.naming.Naming.{Naming}
use Rattle.gd_grammar.specs.declared.sizes.TheConstants.{OBJECT_BYTES}
use Rattle.gd_grammar.proofs.Readers.{◌&◌, Steady-pure, Steady-next, Steady-into, Steady-tags}
use Rattle.gd_grammar.proofs.Steady.{Steady-then, Steady-weaken, done, fault_there, either}
use Rattle.gd_grammar.proofs.SteadyFields.{Steady-id, Steady-stamp, Steady-signed, Steady-label-within}
use Rattle.gd_grammar.proofs.SteadyFields.{Steady-long-label}
use Rattle.gd_grammar.proofs.SteadyLooks.{Steady-look}

pub Steady-kind : Steady 1 kind_at
unfolding kind_at
Steady-kind = Steady-tags 0 kind_rows
    (Steady-pure _ & Steady-pure _ & Steady-pure _ & Steady-pure _ & Steady-pure _ & Steady-pure _ & tt)

Steady-flag : Steady 1 flag_at
unfolding flag_at
Steady-flag = Steady-tags 0 flag_rows (Steady-pure _ & Steady-pure _ & tt)

Steady-parent-id : (stamp id : Stamp) → Steady 7 (parent_id_at stamp id)
unfolding parent_id_at
Steady-parent-id stamp id
    = Steady-then 7 0 (id_at stamp)
    (λ parent bytes rest. cond (is_before id parent) (Ok (parent, rest)) (Err (fault_at FutureId bytes)))
    (Steady-id stamp)
    (λ parent. either _ (λ _. done 0 parent) (λ _. fault_there 0 FutureId (λ e. cc)))

Steady-parent : (naming : Option Naming) → Steady 7 (parent_at naming)
unfolding parent_at
Steady-parent None = Steady-stamp
Steady-parent (Some naming) = Steady-parent-id naming.stamp naming.id

Steady-some-link : (naming : Option Naming) → Steady 15 (some_link_at naming)
unfolding some_link_at
Steady-some-link naming
    = Steady-next 7 (Steady-parent naming)
    (λ parent. Steady-next 4 (Steady-signed place_limit)
    (λ dx. Steady-next 4 (Steady-signed place_limit) (λ dy. Steady-pure _)))

pub Steady-link : (naming : Option Naming) → Steady 16 (link_at naming)
unfolding link_at
Steady-link naming = Steady-tags 15 (link_rows naming)
    (Steady-weaken 0 15 _ (omega arith) (Steady-pure _) & Steady-some-link naming & tt)

Steady-given : (stamp : Option Stamp) → Steady 7 (given_at stamp)
unfolding given_at
Steady-given None = Steady-stamp
Steady-given (Some stamp) = Steady-id stamp

pub Steady-rank : (stamp : Option Stamp) → Steady 8 (rank_at stamp)
unfolding rank_at
Steady-rank stamp = Steady-tags 7 (rank_rows stamp)
    (Steady-into 7 Low (Steady-given stamp) & Steady-into 7 High (Steady-given stamp) & tt)

Steady-some-ends : (stamp : Option Stamp) → Steady 14 (some_ends_at stamp)
unfolding some_ends_at
Steady-some-ends stamp
    = Steady-next 7 (Steady-given stamp) (λ from. Steady-next 7 (Steady-given stamp) (λ to. Steady-pure _))

Steady-own-ends : (kind : Kind) (stamp : Option Stamp) → Steady 15 (own_ends_at kind stamp)
unfolding own_ends_at ends_or_none_at joined_at
Steady-own-ends (Shape kind) stamp
    = Steady-tags 14 (ends_rows stamp)
    (Steady-weaken 0 14 _ (omega arith) (Steady-pure _) & Steady-some-ends stamp & tt)
Steady-own-ends Group stamp
    = Steady-tags 14 (ends_rows stamp)
    (Steady-weaken 0 14 _ (omega arith) (Steady-pure _) & Steady-some-ends stamp & tt)
Steady-own-ends Connector stamp = Steady-tags 14 (joined_rows stamp) (Steady-some-ends stamp & tt)

-- how many bytes the label of an object of that kind takes at most
abbrev pub most_own : Kind → ℕ
most_own (Shape kind) = 502
most_own Group = 201
most_own Connector = 502

Steady-own-label : (kind : Kind) → Steady (most_own kind) (own_label_at kind)
unfolding own_label_at
Steady-own-label (Shape kind) = Steady-long-label
Steady-own-label Group = Steady-label-within most_title
Steady-own-label Connector = Steady-long-label

own-few : (kind : Kind) → most_own kind ≤ 502
own-few (Shape kind) = omega arith
own-few Group = omega arith
own-few Connector = omega arith

pub Steady-of-kind : (kind : Kind) (naming : Option Naming) → Steady (75 + most_own kind) (of_kind_at kind naming)
unfolding of_kind_at
Steady-of-kind kind naming
    = Steady-weaken (4 + (4 + (4 + (4 + (19 + (most_own kind + (15 + (16 + (1 + (8 + 0)))))))))) (75 + most_own kind) _
    (omega arith)
    (Steady-next 4 (Steady-signed place_limit) (λ x. Steady-next 4 (Steady-signed place_limit) (λ y.
    Steady-next 4 (Steady-signed size_limit)
    (λ w. Steady-next 4 (Steady-signed size_limit) (λ h. Steady-next 19 Steady-look (λ look.
    Steady-next (most_own kind) (Steady-own-label kind)
    (λ label. Steady-next 15 (Steady-own-ends kind (option_map (λ n. n.stamp) naming)) (λ ends.
    Steady-next 16 (Steady-link naming) (λ link. Steady-next 1 Steady-flag (λ dissolved.
    Steady-next 8 (Steady-rank (option_map (λ n. n.stamp) naming)) (λ rank. Steady-pure _)))))))))))

pub Steady-object : (naming : Option Naming) → Steady OBJECT_BYTES (object_at naming)
unfolding object_at
Steady-object naming =
    Steady-next 1 Steady-kind
    (λ kind. Steady-weaken (75 + most_own kind) 577 _ (omega (arith, own-few kind)) (Steady-of-kind kind naming))
