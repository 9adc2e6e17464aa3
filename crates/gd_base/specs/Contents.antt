-- Contents and operations over what labels, looks, ranks and members are.
use Rattle.std.specs.Prelude.{◌≡◌, ℕ, Bool, true, ◌&&◌, List, is_some}
use Rattle.gd_base.specs.Labels.{IsLabel}
use Rattle.gd_base.specs.Looks.{are_looks}
use Rattle.gd_base.specs.Ranges.{place_limit, size_limit, is_within}
use Rattle.gd_base.specs.Typed.{AreEnds}
use Rattle.gd_base.specs.declared.content.Content.{Content}
use Rattle.gd_base.specs.declared.content.Content.TheVariants as content
use Rattle.gd_base.specs.declared.content.Side.{Side}
use Rattle.gd_base.specs.declared.op.Op.{Op}
use Rattle.gd_base.specs.declared.op.Op.TheVariants.{Create, Delete, Set, Group, Connect, Restore, Disband}
use Rattle.gd_base.specs.declared.look.Looks.{Looks}

-- the content with another label, other looks and another rank
abbrev pub content_map : {L K R M J T : Type 0} → (L → M) → (K → J) → (R → T) → Content L K R → Content M J T
content_map f k g (content.ToPlace x y) = content.ToPlace x y
content_map f k g (content.ToSize w h) = content.ToSize w h
content_map f k g (content.ToLooks looks) = content.ToLooks (k looks)
content_map f k g (content.ToText label) = content.ToText (f label)
content_map f k g (content.ToFlag flag) = content.ToFlag flag
content_map f k g (content.ToEnds ends) = content.ToEnds ends
content_map f k g (content.ToRank rank) = content.ToRank (g rank)

-- the operation with other labels, members, objects and ties
abbrev pub op_map : {L K M R O T J N P U : Type 0} → (L → J) → (M → N) → (O → P) → (T → U) → Op L K M R O T
    → Op J K N R P U
op_map f g h j (Create kind x y w h' label) = Create kind x y w h' (f label)
op_map f g h j (Delete id) = Delete id
op_map f g h j (Set id content) = Set id (content_map f (λ looks. looks) (λ rank. rank) content)
op_map f g h j (Group members) = Group (g members)
op_map f g h j (Connect ends label) = Connect ends (f label)
op_map f g h j (Restore id object ties) = Restore id (h object) (j ties)
op_map f g h j (Disband id ties) = Disband id (j ties)

-- the numbers are in their ranges, and of looks one is set
abbrev pub is_content : {L R : Type 0} → Content L Looks R → Bool
is_content (content.ToPlace x y) = is_within place_limit x && is_within place_limit y
is_content (content.ToSize w h) = is_within size_limit w && is_within size_limit h
is_content (content.ToLooks looks) = are_looks looks
is_content (content.ToText label) = true
is_content (content.ToFlag flag) = true
is_content (content.ToEnds ends) = is_some ends
is_content (content.ToRank rank) = true

-- a label, ends and a rank are what their types say
abbrev pub IsTypedBy : {K R : Type 0} → (R → Type 0) → Content (List ℕ) K R → Type 0
IsTypedBy IsRanked (content.ToText label) = IsLabel label
IsTypedBy IsRanked (content.ToEnds ends) = AreEnds ends
IsTypedBy IsRanked (content.ToRank rank) = IsRanked rank
IsTypedBy IsRanked content = Unit {0}

-- what a user sets
abbrev pub Said : Type 0
Said = Content (List ℕ) Looks Side

abbrev pub IsTyped : Said → Type 0
IsTyped content = IsTypedBy (λ side. Unit {0}) content

-- the numbers are in their ranges, and a flag is set: a user dissolves a group, and only an undo takes that back
abbrev pub is_said : Said → Bool
is_said (content.ToFlag flag) = flag
is_said content = is_content content

-- the label is one, and it is what a user may set
abbrev pub IsSaid : Said → Type 0
IsSaid content = IsTyped content × (is_said content ≡ true)
