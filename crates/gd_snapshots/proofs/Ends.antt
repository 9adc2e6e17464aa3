-- Where the bytes of a field aren't all there, the fault is at their end: of each field of events, objects and
-- snapshots.
use Rattle.std.proofs.Common.{◌≡◌, ◌≢◌, ℕ, ℤ, zero, suc, Bool, true, false, cond, ltb, List, [], ◌∷◌, length, take}
use Rattle.std.proofs.Common.{drop, Option, Some, None, Result, Ok, Err, refl, ap, ◌∙◌}
use Rattle.std.specs.List.{AllByRecursion}
use Rattle.std.specs.Prelude.{◌==◌}
use Rattle.gd_base.specs.declared.fault.FieldFault.{FieldFault}
use Rattle.gd_base.specs.declared.fault.FieldWhy.{FieldWhy}
use Rattle.gd_base.specs.declared.fault.FieldWhy.TheVariants.{Short, Magic, Version, Field, FutureId, MemberOrder}
use Rattle.gd_base.specs.Kinds.{most_ties}
use Rattle.gd_base.specs.Labels.{most_title}
use Rattle.gd_base.specs.Ranges.{place_limit, size_limit}
use Rattle.gd_base.specs.Results.{◌>>=◌}
use Rattle.gd_base.specs.Stamps.{Stamp}
use Rattle.gd_base.specs.declared.object.Kind.{Kind}
use Rattle.gd_base.specs.declared.object.Kind.TheVariants as kinds
use Rattle.gd_base.specs.declared.ranges.TheConstants.{MOST_MEMBERS}
use Rattle.gd_base.specs.declared.version.Version as version
use Rattle.gd_base.specs.declared.version.Version.TheVariants as versions
use Rattle.gd_base.specs.declared.shape.Shape.TheVariants.{Rect, Ellipse, Line, Text}
use Rattle.gd_events.specs.Ops.{Done}
use Rattle.gd_grammar.specs.Drawings as drawing
use Rattle.gd_grammar.specs.EventBytes.{most_label_in, shape_at, label_at, colour_at, fill_at, width_at, count_at}
use Rattle.gd_grammar.specs.EventBytes.{member_id_at, parent_id_at}
use Rattle.gd_grammar.specs.Fields.{byte_at, byte_within, clock_at, site_at, stamp_at, id_at, number_at, signed_at}
use Rattle.gd_grammar.specs.Fields.{word_at, label_within, length_at, long_label_at}
use Rattle.gd_grammar.specs.FrameBytes.{frame_version_at, six_at}
use Rattle.gd_grammar.specs.Fields.{half_at}
use Rattle.gd_grammar.specs.LookBytes.{thin_at, dash_rows, dash_at, heads_rows, heads_at, round_at, opacity_at}
use Rattle.gd_grammar.specs.LookBytes.{letters_at, align_rows, align_at, look_at, set_rows, if_set, all_looks_at}
use Rattle.gd_grammar.specs.HeaderBytes.{magic_at, sites_at}
use Rattle.gd_grammar.specs.Kinds.{event_at}
use Rattle.gd_grammar.specs.ObjectBytes.{kind_rows, kind_at, flag_rows, flag_at, parent_at, some_link_at, link_rows}
use Rattle.gd_grammar.specs.ObjectBytes.{link_at, given_at, some_ends_at, ends_rows, ends_or_none_at, joined_rows}
use Rattle.gd_grammar.specs.ObjectBytes.{joined_at, own_ends_at, rank_rows, rank_at, own_label_at, of_kind_at}
use Rattle.gd_grammar.specs.ObjectBytes.{object_at}
use Rattle.gd_grammar.specs.OpBytes.{two_at, look_rows, lone_at, style_at, ends_at, create_at, set_at}
use Rattle.gd_grammar.specs.OpBytes.{member_at, group_at, tie_at, all_ties_at, connect_at, restore_at, disband_at}
use Rattle.gd_grammar.specs.OpBytes.{op_rows, op_at}
use Rattle.gd_grammar.specs.Readers.{picked, by_tag, by_tag_within}
use Rattle.gd_grammar.specs.Reading.{Reads, Reader, bytes_at, fault_at, many_at, pure, ranged, short, then_at}
use Rattle.gd_grammar.specs.declared.naming.Naming.{Naming}
use Rattle.gd_grammar.proofs.Readers.{◌&◌}
use Rattle.gd_snapshots.specs.SnapshotBytes.{head_at, known_at}

-- a fault of bytes that aren't all there is at their end
pub record AtEnd {A : Type 0} (r : Result A FieldFault) : Type 0 where
  pub at : (f : FieldFault) → r ≡ Err f → f.why ≡ Short → f.left ≡ 0

-- ---- results

end-ok : {A : Type 0} (x : A) → AtEnd (Ok x)
end-ok x = record { at = λ f e s. absurd cc }

-- another fault
end-fault : {A : Type 0} (why : FieldWhy) (bytes : List ℕ) → why ≢ Short → AtEnd {A = A} (Err (fault_at why bytes))
end-fault why bytes ne
    = record { at = λ f e s. let k : fault_at why bytes ≡ f = cc in absurd (ne (ap (λ (d : FieldFault). d.why) k ∙ s)) }

end-short : {A : Type 0} → AtEnd {A = A} (Err short)
end-short = record { at = λ f e s. let k : short ≡ f = cc in rw (← k) refl }

end-then : {A B : Type 0} (r : Result A FieldFault) (f : A → Result B FieldFault) → AtEnd r → ((x : A) → AtEnd (f x))
    → AtEnd (r >>= f)
end-then (Ok x) f first second = second x
end-then (Err d) f first second = record { at = λ g e s. let k : d ≡ g = cc in first.at g (ap Err k) s }

end-either : {A : Type 0} (t : Bool) (r s : Result A FieldFault) → AtEnd r → AtEnd s → AtEnd (cond t r s)
end-either true r s first second = first
end-either false r s first second = second

end-ranged : {A : Type 0} (t : Bool) (v : A) (bytes rest : List ℕ) → AtEnd (ranged t v bytes rest)
end-ranged t v bytes rest = end-either t _ _ (end-ok (v, rest)) (end-fault Field bytes (λ e. cc))

end-many : {A S : Type 0} (read : S → List ℕ → Reads A) (kept : A → S)
    → ((last : S) (bytes : List ℕ) → AtEnd (read last bytes)) → (count : ℕ) (last : S) (bytes : List ℕ)
    → AtEnd (many_at read kept count last bytes)
unfolding many_at
end-many read kept one zero last bytes = end-ok _
end-many read kept one (suc count) last bytes
    = end-then _ _ (one last bytes) (λ x. end-then _ _ (end-many read kept one count (kept x.0) x.1) (λ xs. end-ok _))

-- ---- readings one behind the other, and by a tag

abbrev pub Ends : {A : Type 0} → Reader A → Type 0
Ends r = (bytes : List ℕ) → AtEnd (r bytes)

end-pure : {A : Type 0} (value : A) → Ends (pure value)
unfolding pure
end-pure value bytes = end-ok (value, bytes)

end-next : {A B : Type 0} {r : Reader A} {f : A → Reader B} → Ends r → ((a : A) → Ends (f a)) → Ends (then_at r f)
unfolding then_at
end-next first second bytes = end-then _ _ (first bytes) (λ x. second x.0 x.1)

-- the fields of each row
abbrev EndRow : {A : Type 0} → ℕ × Reader A → Type 0
EndRow row = Ends row.1

abbrev AllEnd : {A : Type 0} → List (ℕ × Reader A) → Type 0
AllEnd rows = AllByRecursion EndRow rows

end-picked : {A : Type 0} (rows : List (ℕ × Reader A)) → AllEnd rows → (tag : ℕ) (whole rest : List ℕ)
    → AtEnd (picked rows tag (fault_at Field whole) rest)
unfolding picked
end-picked [] all tag whole rest = end-fault Field whole (λ e. cc)
end-picked (row ∷ rows) all tag whole rest
    = end-either (tag == row.0) _ _ (all.0 rest) (end-picked rows all.1 tag whole rest)

-- ---- fields

end-bytes : (n : ℕ) (bytes : List ℕ) → AtEnd (bytes_at n bytes)
end-bytes n bytes = end-either (ltb (length bytes) n) _ _ end-short (end-ok (take n bytes, drop n bytes))

end-byte : (bytes : List ℕ) → AtEnd (byte_at bytes)
unfolding byte_at
end-byte [] = end-short
end-byte (b ∷ rest) = end-ok (b, rest)

end-tags : {A : Type 0} (rows : List (ℕ × Reader A)) → AllEnd rows → Ends (by_tag rows)
unfolding by_tag then_at
end-tags rows all bytes = end-then _ _ (end-byte bytes) (λ tag. end-picked rows all tag.0 bytes tag.1)

end-byte-within : (most : ℕ) → Ends (byte_within most)
unfolding byte_within
end-byte-within most bytes = end-then _ _ (end-byte bytes) (λ byte. end-ranged _ _ bytes byte.1)

end-tags-within : {A : Type 0} (last : ℕ) (rows : List (ℕ × Reader A)) → AllEnd rows → Ends (by_tag_within last rows)
unfolding by_tag_within then_at
end-tags-within last rows all bytes
    = end-then _ _ (end-byte-within last bytes) (λ tag. end-picked rows all tag.0 bytes tag.1)

end-clock : (bytes : List ℕ) → AtEnd (clock_at bytes)
unfolding clock_at
end-clock bytes = end-then _ _ (end-bytes 6 bytes) (λ six. end-ranged _ _ bytes six.1)

end-site : (bytes : List ℕ) → AtEnd (site_at bytes)
unfolding site_at
end-site bytes = end-then _ _ (end-byte bytes) (λ site. end-ranged _ _ bytes site.1)

pub end-stamp : (bytes : List ℕ) → AtEnd (stamp_at bytes)
unfolding stamp_at
end-stamp bytes = end-then _ _ (end-clock bytes) (λ clock. end-then _ _ (end-site clock.1) (λ site. end-ok _))

end-id : (stamp : Stamp) (bytes : List ℕ) → AtEnd (id_at stamp bytes)
unfolding id_at
end-id stamp bytes = end-then _ _ (end-stamp bytes)
    (λ id. end-either _ _ _ (end-ok id) (end-fault FutureId bytes (λ e. cc)))

end-number : (bytes : List ℕ) → AtEnd (number_at bytes)
unfolding number_at
end-number bytes = end-then _ _ (end-bytes 2 bytes) (λ two. end-ranged _ _ bytes two.1)

end-signed : (limit : ℕ) (bytes : List ℕ) → AtEnd (signed_at limit bytes)
unfolding signed_at
end-signed limit bytes = end-then _ _ (end-bytes 4 bytes) (λ four. end-ranged _ _ bytes four.1)

pub end-word : (bytes : List ℕ) → AtEnd (word_at bytes)
unfolding word_at
end-word bytes = end-then _ _ (end-bytes 4 bytes) (λ four. end-ok _)

end-label : (most : ℕ) (bytes : List ℕ) → AtEnd (label_within most bytes)
unfolding label_within
end-label most bytes =
    end-then _ _ (end-byte bytes)
    (λ len. end-either _ _ _ (end-fault Field bytes (λ e. cc))
    (end-then _ _ (end-bytes len.0 len.1) (λ text. end-ranged _ _ len.1 text.1)))

end-length : (bytes : List ℕ) → AtEnd (length_at bytes)
unfolding length_at
end-length bytes =
    end-then _ _ (end-byte bytes)
    (λ first. end-either _ _ _ (end-ok first) (end-either _ _ _ (end-fault Field bytes (λ e. cc))
    (end-then _ _ (end-byte first.1) (λ second. end-ranged _ _ bytes second.1))))

end-long-label : (bytes : List ℕ) → AtEnd (long_label_at bytes)
unfolding long_label_at
end-long-label bytes = end-then _ _ (end-length bytes)
    (λ count. end-then _ _ (end-bytes count.0 count.1) (λ text. end-ranged _ _ count.1 text.1))

end-half : (bytes : List ℕ) → AtEnd (half_at bytes)
unfolding half_at
end-half bytes = end-then _ _ (end-bytes 2 bytes) (λ two. end-ok _)

end-six : (bytes : List ℕ) → AtEnd (six_at bytes)
unfolding six_at
end-six bytes = end-then _ _ (end-bytes 6 bytes) (λ six. end-ok _)

-- ---- the parts of operations

end-shape : (bytes : List ℕ) → AtEnd (shape_at bytes)
unfolding shape_at
end-shape bytes =
    end-then _ _ (end-byte bytes) (λ kind.
    end-either (kind.0 == 1) _ _ (end-ok (Rect, kind.1))
    (end-either (kind.0 == 2) _ _ (end-ok (Ellipse, kind.1)) (end-either (kind.0 == 3) _ _ (end-ok (Line, kind.1))
    (end-either (kind.0 == 4) _ _ (end-ok (Text, kind.1)) (end-fault Field bytes (λ e. cc))))))

end-colour : (bytes : List ℕ) → AtEnd (colour_at bytes)
unfolding colour_at
end-colour bytes = end-then _ _ (end-word bytes) (λ word. end-ranged _ _ bytes word.1)

end-fill : (bytes : List ℕ) → AtEnd (fill_at bytes)
unfolding fill_at
end-fill bytes = end-then _ _ (end-word bytes)
    (λ word. end-either (word.0 == 0xFFFFFFFF) _ _ (end-ok (None, word.1)) (end-ranged _ _ bytes word.1))

end-width : (bytes : List ℕ) → AtEnd (width_at bytes)
unfolding width_at
end-width bytes = end-then _ _ (end-word bytes) (λ word. end-ranged _ _ bytes word.1)

end-text : (v : version.Version) → Ends (label_at v)
unfolding label_at
end-text versions.One = end-label (most_label_in versions.One)
end-text versions.Two = end-label (most_label_in versions.Two)
end-text versions.Three = end-long-label

-- ---- looks

end-thin : Ends thin_at
unfolding thin_at then_at
end-thin bytes = end-then _ _ (end-byte bytes) (λ width. end-ranged _ _ bytes width.1)

end-dash : Ends dash_at
unfolding dash_at
end-dash = end-tags dash_rows (end-pure _ & end-pure _ & end-pure _ & tt)

end-heads : Ends heads_at
unfolding heads_at
end-heads = end-tags heads_rows (end-pure _ & end-pure _ & end-pure _ & end-pure _ & tt)

end-round : Ends round_at
unfolding round_at then_at
end-round bytes = end-then _ _ (end-word bytes) (λ n. end-ranged _ _ bytes n.1)

end-opacity : Ends opacity_at
unfolding opacity_at then_at
end-opacity bytes = end-then _ _ (end-byte bytes) (λ n. end-ranged _ _ bytes n.1)

end-letters : Ends letters_at
unfolding letters_at then_at
end-letters bytes = end-then _ _ (end-half bytes) (λ n. end-ranged _ _ bytes n.1)

end-align : Ends align_at
unfolding align_at
end-align = end-tags align_rows (end-pure _ & end-pure _ & end-pure _ & end-pure _ & tt)

end-look : Ends look_at
unfolding look_at
end-look =
    end-next end-colour (λ stroke. end-next end-fill
    (λ fill. end-next end-thin (λ width. end-next end-dash (λ dash. end-next end-heads (λ heads.
    end-next end-round (λ round. end-next end-opacity
    (λ opacity. end-next end-letters (λ letters. end-next end-align (λ align. end-pure _)))))))))

end-set-part : {A : Type 0} {r : Reader A} → Ends r → Ends (if_set r)
unfolding if_set
end-set-part {r = r} one = end-tags (set_rows r) (end-pure _ & end-next one (λ value. end-pure _) & tt)

end-looks : Ends all_looks_at
unfolding all_looks_at
end-looks =
    end-next (end-set-part end-colour)
    (λ stroke. end-next (end-set-part end-fill) (λ fill. end-next (end-set-part end-thin) (λ width.
    end-next (end-set-part end-dash)
    (λ dash. end-next (end-set-part end-heads) (λ heads. end-next (end-set-part end-round) (λ round.
    end-next (end-set-part end-opacity)
    (λ opacity. end-next (end-set-part end-letters) (λ letters. end-next (end-set-part end-align) (λ align.
    end-pure _)))))))))

-- ---- objects

end-kind : Ends kind_at
unfolding kind_at
end-kind = end-tags kind_rows (end-pure _ & end-pure _ & end-pure _ & end-pure _ & end-pure _ & end-pure _ & tt)

end-flag : Ends flag_at
unfolding flag_at
end-flag = end-tags flag_rows (end-pure _ & end-pure _ & tt)

end-parent : (naming : Option Naming) → Ends (parent_at naming)
unfolding parent_at parent_id_at
end-parent None bytes = end-stamp bytes
end-parent (Some naming) bytes
    = end-then _ _ (end-id naming.stamp bytes)
    (λ parent. end-either _ _ _ (end-ok parent) (end-fault FutureId bytes (λ e. cc)))

end-some-link : (naming : Option Naming) → Ends (some_link_at naming)
unfolding some_link_at
end-some-link naming = end-next (end-parent naming)
    (λ parent. end-next (end-signed place_limit) (λ dx. end-next (end-signed place_limit) (λ dy. end-pure _)))

end-link : (naming : Option Naming) → Ends (link_at naming)
unfolding link_at
end-link naming = end-tags (link_rows naming) (end-pure _ & end-some-link naming & tt)

end-given : (stamp : Option Stamp) → Ends (given_at stamp)
unfolding given_at
end-given None = end-stamp
end-given (Some stamp) = end-id stamp

end-rank : (stamp : Option Stamp) → Ends (rank_at stamp)
unfolding rank_at
end-rank stamp = end-tags (rank_rows stamp)
    (end-next (end-given stamp) (λ given. end-pure _) & end-next (end-given stamp) (λ given. end-pure _) & tt)

end-some-ends : (stamp : Option Stamp) → Ends (some_ends_at stamp)
unfolding some_ends_at
end-some-ends stamp = end-next (end-given stamp) (λ from. end-next (end-given stamp) (λ to. end-pure _))

end-own-ends : (kind : Kind) (stamp : Option Stamp) → Ends (own_ends_at kind stamp)
unfolding own_ends_at ends_or_none_at joined_at
end-own-ends (kinds.Shape shape) stamp = end-tags (ends_rows stamp) (end-pure _ & end-some-ends stamp & tt)
end-own-ends kinds.Group stamp = end-tags (ends_rows stamp) (end-pure _ & end-some-ends stamp & tt)
end-own-ends kinds.Connector stamp = end-tags (joined_rows stamp) (end-some-ends stamp & tt)

end-own-label : (kind : Kind) → Ends (own_label_at kind)
unfolding own_label_at
end-own-label (kinds.Shape shape) = end-long-label
end-own-label kinds.Group = end-label most_title
end-own-label kinds.Connector = end-long-label

end-of-kind : (kind : Kind) (naming : Option Naming) → Ends (of_kind_at kind naming)
unfolding of_kind_at
end-of-kind kind naming =
    end-next (end-signed place_limit)
    (λ x. end-next (end-signed place_limit) (λ y. end-next (end-signed size_limit) (λ w.
    end-next (end-signed size_limit)
    (λ h. end-next end-look (λ look. end-next (end-own-label kind) (λ label. end-next (end-own-ends kind _) (λ ends.
    end-next (end-link naming)
    (λ link. end-next end-flag (λ dissolved. end-next (end-rank _) (λ rank. end-pure _))))))))))

pub end-object : (naming : Option Naming) → Ends (object_at naming)
unfolding object_at
end-object naming = end-next end-kind (λ kind. end-of-kind kind naming)

-- ---- operations

end-create : (v : version.Version) → Ends (create_at v)
unfolding create_at
end-create v =
    end-next end-shape (λ kind. end-next (end-signed place_limit)
    (λ x. end-next (end-signed place_limit)
    (λ y. end-next (end-signed size_limit) (λ w. end-next (end-signed size_limit) (λ h.
    end-next (end-text v) (λ label. end-pure _))))))

end-set : (stamp : Stamp) (content : Reader Done) → Ends content → Ends (set_at stamp content)
unfolding set_at
end-set stamp content then = end-next (end-id stamp) (λ id. end-next then (λ c. end-pure _))

end-count : (least most : ℕ) → Ends (count_at least most)
unfolding count_at
end-count least most bytes = end-then _ _ (end-byte bytes) (λ count. end-ranged _ _ bytes count.1)

end-member-id : (stamp : Stamp) (last : Option Stamp) → Ends (member_id_at stamp last)
unfolding member_id_at
end-member-id stamp last bytes
    = end-then _ _ (end-id stamp bytes) (λ id. end-either _ _ _ (end-ok id) (end-fault MemberOrder bytes (λ e. cc)))

end-member : (stamp : Stamp) (last : Option Stamp) → Ends (member_at stamp last)
unfolding member_at
end-member stamp last
    = end-next (end-member-id stamp last)
    (λ id. end-next (end-signed place_limit) (λ dx. end-next (end-signed place_limit) (λ dy. end-pure _)))

end-group : (stamp : Stamp) → Ends (group_at stamp)
unfolding group_at
end-group stamp = end-next (end-count 2 MOST_MEMBERS)
    (λ count. end-next (end-many _ _ (end-member stamp) count None) (λ members. end-pure _))

end-tie : (stamp : Stamp) (last : Option Stamp) → Ends (tie_at stamp last)
unfolding tie_at
end-tie stamp last = end-next (end-member-id stamp last) (λ id. end-next (end-link _) (λ link. end-pure _))

end-all-ties : (least most : ℕ) (stamp : Stamp) → Ends (all_ties_at least most stamp)
unfolding all_ties_at
end-all-ties least most stamp = end-next (end-count least most) (λ count. end-many _ _ (end-tie stamp) count None)

end-restore : (stamp : Stamp) → Ends (restore_at stamp)
unfolding restore_at
end-restore stamp =
    end-next (end-id stamp) (λ id. end-next end-kind (λ kind. end-next (end-of-kind kind _) (λ object.
    end-next (end-all-ties 0 (most_ties kind) stamp) (λ ties. end-pure _))))

end-disband : (stamp : Stamp) → Ends (disband_at stamp)
unfolding disband_at
end-disband stamp = end-next (end-id stamp) (λ id. end-next (end-all-ties 1 MOST_MEMBERS stamp) (λ ties. end-pure _))

end-ends : (stamp : Stamp) → Ends (ends_at stamp)
unfolding ends_at
end-ends stamp = end-next (end-id stamp) (λ from. end-next (end-id stamp) (λ to. end-pure _))

end-connect : (v : version.Version) (stamp : Stamp) → Ends (connect_at v stamp)
unfolding connect_at
end-connect v stamp = end-next (end-ends stamp) (λ ends. end-next (end-text v) (λ label. end-pure _))

end-lone : Ends lone_at
unfolding lone_at
end-lone = end-tags look_rows
    (end-next end-colour (λ colour. end-pure _) & end-next end-fill (λ fill. end-pure _) & end-next end-width
    (λ width. end-pure _) & tt)

end-style : Ends style_at
unfolding style_at then_at
end-style bytes = end-then _ _ (end-looks bytes) (λ looks. end-ranged _ _ bytes looks.1)

end-two : (limit : ℕ) (make : ℤ → ℤ → Done) → Ends (two_at limit make)
unfolding two_at
end-two limit make = end-next (end-signed limit) (λ x. end-next (end-signed limit) (λ y. end-pure _))

end-op : (v : version.Version) (stamp : Stamp) → Ends (op_at v stamp)
unfolding op_at
end-op v stamp = end-tags-within _ (op_rows v stamp) (
    end-create v
    & end-next (end-id stamp) (λ id. end-pure _)
    & end-set stamp _ (end-next (end-text v) (λ label. end-pure _))
    & end-group stamp
    & end-restore stamp
    & end-disband stamp
    & end-connect v stamp
    & end-set stamp _ (end-two _ _)
    & end-set stamp _ (end-two _ _)
    & end-set stamp _ end-lone
    & end-set stamp _ (end-pure _)
    & end-set stamp _ (end-pure _)
    & end-set stamp _ (end-pure _)
    & end-set stamp _ (end-next (end-rank _) (λ rank. end-pure _))
    & end-set stamp _ (end-pure _)
    & end-set stamp _ end-style
    & end-set stamp _ (end-next (end-ends stamp) (λ ends. end-pure _))
    & tt)

pub end-event : (bytes : List ℕ) → AtEnd (drawing.event_at bytes)
unfolding event_at
end-event bytes = end-then _ _ (end-stamp bytes)
    (λ stamp. end-then _ _ (end-number stamp.1) (λ number. end-then _ _ (end-op _ stamp.0 number.1) (λ op. end-ok _)))

-- ---- the head, and what is known of a site

pub end-head : (bytes : List ℕ) → AtEnd (head_at bytes)
unfolding head_at magic_at frame_version_at sites_at
end-head bytes =
    end-then _ _ (end-then _ _ (end-bytes 4 bytes)
    (λ four. end-either _ _ _ (end-ok _) (end-fault Magic bytes (λ e. cc)))) (λ magic.
    end-then _ _ (end-then _ _ (end-byte magic.1)
    (λ version. end-either _ _ _ (end-ok _) (end-fault Version magic.1 (λ e. cc))))
    (λ version. end-then _ _ (end-word version.1) (λ session.
    end-then _ _ (end-site session.1)
    (λ site. end-then _ _ (end-then _ _ (end-byte site.1) (λ sites. end-ranged _ _ site.1 sites.1))
    (λ sites. end-ok _)))))

pub end-known : (bytes : List ℕ) → AtEnd (known_at bytes)
unfolding known_at
end-known bytes = end-then _ _ (end-half bytes) (λ count. end-then _ _ (end-six count.1) (λ sure. end-ok _))
