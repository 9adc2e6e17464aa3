-- What an operation sets, and what it found there, in the memory of both.
use Rattle.std.specs.Prelude.{ℕ, Bool, true, false, if◌then◌else◌, List, [], Option, None, Some, slice_index}
use Rattle.std.specs.Prelude.{unwrap_or}
use Rattle.gd_base.specs.Contents.{content_map}
use Rattle.gd_base.specs.Looks.{laid, no_looks, only_fill, only_stroke, only_width}
use Rattle.gd_base.specs.Stamps.{Stamp}
use Rattle.gd_base.specs.declared.content.Content as over
use Rattle.gd_base.specs.declared.content.Content.TheVariants as content
use Rattle.gd_base.specs.declared.look.Looks.{Looks}
use Rattle.gd_base.specs.declared.rank.Rank.TheVariants.{Low}
use Rattle.gd_events.specs.Ops.{Done}
use Rattle.gd_model.specs.Contents.{Content}
use Rattle.gd_model.specs.Forms.{rank_at}
use Rattle.gd_model.specs.Objects.{is_same_part, parts_of}
use Rattle.gd_canvas.specs.declared.looks_swap.LooksSwap.{LooksSwap}
use Rattle.gd_canvas.specs.declared.looks_swap.LooksSwap.TheVariants as looks
use Rattle.gd_canvas.specs.declared.pair.Pair.{Pair}
use Rattle.gd_canvas.specs.declared.swap.Swap.{Swap}
use Rattle.gd_canvas.specs.declared.swap.Swap.TheVariants as swap

abbrev pub new_looks : LooksSwap → Looks
new_looks (looks.Width new old) = only_width new
new_looks (looks.Stroke new old) = only_stroke new
new_looks (looks.Fill new old) = only_fill new
new_looks (looks.Many pair) = pair.value.new

-- what was found of the parts that are set
abbrev pub old_looks : LooksSwap → Looks
old_looks (looks.Width new old) = only_width old
old_looks (looks.Stroke new old) = only_stroke old
old_looks (looks.Fill new old) = only_fill old
old_looks (looks.Many pair) = laid pair.value.old pair.value.new

-- the old looks once these are kept: of each part that is set theirs, where they set it
abbrev pub put_looks : LooksSwap → Looks → Looks
put_looks (looks.Width new old) l = only_width (unwrap_or l.width old)
put_looks (looks.Stroke new old) l = only_stroke (unwrap_or l.stroke old)
put_looks (looks.Fill new old) l = only_fill (unwrap_or l.fill old)
put_looks (looks.Many pair) l = laid l pair.value.new

-- ---- a pair of contents

abbrev pub first_part : List ℕ → ℕ
first_part ps = slice_index ps 0

-- the part that a content is for, whatever it holds; of looks, which are for several, the whole
abbrev pub part : {L K R : Type 0} → over.Content L K R → ℕ
part c = first_part (parts_of (content_map (λ label. []) (λ looks. no_looks) (λ rank. rank) c))

-- what the operation says
abbrev pub pair_new : Pair → Done
pair_new pair = content_map (λ label. label) (λ looks. elim looks [ ]) (λ height. height) pair.new

-- some content of the same part
abbrev pub blank : Pair → Content
blank pair = content_map (λ label. []) (λ looks. elim looks [ ]) (λ height. Low record { clock = 1; site = 1 }) pair.new

-- what was found, where it is of the same part
abbrev pub pair_old : Pair → Content
pair_old pair = if is_same_part (part pair.old) (part pair.new) then pair.old else blank pair

-- what is kept of what was found
abbrev pub pair_stored : Pair → Content → Option Content
pair_stored pair c = if is_same_part (part c) (part pair.new) then Some c else None

-- ---- a swap

-- what the operation says
abbrev pub of_swap : Swap → Done
of_swap (swap.ToPlace new old) = content.ToPlace new.x new.y
of_swap (swap.ToSize new old) = content.ToSize new.x new.y
of_swap (swap.ToLooks looks) = content.ToLooks (new_looks looks)
of_swap (swap.ToText texts) = content.ToText texts.value.new
of_swap (swap.ToFlag new old) = content.ToFlag new
of_swap (swap.ToRank new old) = content.ToRank new
of_swap (swap.Other pair) = pair_new pair.value

-- what it sets at that stamp
abbrev pub sets : Stamp → Swap → Content
sets stamp s = content_map (λ label. label) (λ looks. looks) (rank_at stamp) (of_swap s)

-- what it found
abbrev pub old_of : Swap → Content
old_of (swap.ToPlace new old) = content.ToPlace old.x old.y
old_of (swap.ToSize new old) = content.ToSize old.x old.y
old_of (swap.ToLooks looks) = content.ToLooks (old_looks looks)
old_of (swap.ToText texts) = content.ToText texts.value.old
old_of (swap.ToFlag new old) = content.ToFlag old
old_of (swap.ToRank new old) = content.ToRank old
old_of (swap.Other pair) = pair_old pair.value

-- what it found, where it found something
abbrev pub found_in : Bool → Swap → Option Content
found_in false s = None
found_in true s = Some (old_of s)

-- the label that is set, where one is
abbrev pub text_in : Done → List ℕ
text_in (content.ToText label) = label
text_in c = []

-- what is kept of what was found: nothing of another part
abbrev pub stored_one : Swap → Content → Option Content
stored_one (swap.ToPlace new old) (content.ToPlace a b) = Some (content.ToPlace a b)
stored_one (swap.ToSize new old) (content.ToSize a b) = Some (content.ToSize a b)
stored_one (swap.ToLooks looks) (content.ToLooks l) = Some (content.ToLooks (put_looks looks l))
stored_one (swap.ToText texts) (content.ToText label) = Some (content.ToText label)
stored_one (swap.ToFlag new old) (content.ToFlag flag) = Some (content.ToFlag flag)
stored_one (swap.ToRank new old) (content.ToRank rank) = Some (content.ToRank rank)
stored_one (swap.Other pair) c = pair_stored pair.value c
stored_one s c = None

abbrev pub stored : Swap → Option Content → Option Content
stored s None = None
stored s (Some c) = stored_one s c
