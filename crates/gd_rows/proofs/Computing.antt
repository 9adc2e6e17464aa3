-- The names that `refl` has to see through where it computes a worked row.
use Rattle.std.specs.Prelude.{⊤}
use Rattle.std.specs.Char.{encode_utf8}
use Rattle.std.specs.Fmt.{digits}
use Rattle.std.specs.Str.{chars, is_utf8}
use Rattle.rand_core.specs.Pcg32Seed.{pcg32_seed}
use Rattle.rand_core.specs.Steps.{u32_at, word_bytes}
use Rattle.gd_base.specs.Stamps.{stamp_cmp}
use Rattle.gd_base.specs.Insertions.{inserted_by}
use Rattle.gd_check.specs.Checks as checks
use Rattle.gd_grammar.specs.Chains.{chained, of_site}
use Rattle.gd_grammar.specs.EventBytes as bytes
use Rattle.gd_grammar.specs.LookBytes as looks
use Rattle.gd_grammar.specs.ObjectBytes as objects
use Rattle.gd_grammar.specs.OpBytes as operations
use Rattle.gd_grammar.specs.Spelling.{object_bytes}
use Rattle.gd_grammar.specs.Readers.{steps}
use Rattle.gd_grammar.specs.Fields as fields
use Rattle.gd_grammar.specs.Reading.{many_at}
use Rattle.gd_grammar.specs.FieldBytes.{each_bytes}
use Rattle.gd_grammar.specs.FrameBytes.{body_at, event_count_at, focus_at, frame, frame_at, frame_magic_at}
use Rattle.gd_grammar.specs.FrameBytes.{frame_version_at, head_at, name_at, name_text_at, next_event_at, note_at}
use Rattle.gd_grammar.specs.FrameBytes.{six_at}
use Rattle.gd_grammar.specs.Fields.{half_at}
use Rattle.gd_grammar.specs.Kinds as kinds
use Rattle.gd_grammar.specs.LogBytes.{events_at, gated_bytes, log, record_at, step_at, turn_fault}
use Rattle.gd_grammar.specs.HeaderBytes.{header_at, magic_at, sites_at, version_at}
use Rattle.gd_json.specs.EventsJson.{event_json, link_json, member_json, rank_json, tie_json}
use Rattle.gd_json.specs.PictureJson.{item_json}
use Rattle.gd_json.specs.Values.{put_field}
use Rattle.gd_lines.specs.Edits as edits
use Rattle.gd_lines.specs.LineWords.{behind, count_from, without_cr, word}
use Rattle.gd_lines.specs.Lines as lines
use Rattle.gd_lines.specs.OpText as ops
use Rattle.gd_lines.specs.Reading.{then_at}
use Rattle.gd_lines.specs.Replies.{applied_line, arrivals_line, backdated_line, bad_frame_line, churned_line}
use Rattle.gd_lines.specs.Replies.{delivered_line, done_line, dropped_line, link_fault_line, mail_line, noted_line}
use Rattle.gd_lines.specs.Replies.{parted_line, polled_line, ready_line, refused_line, reworked_line, site_line}
use Rattle.gd_lines.specs.Replies.{standing_text, status_line, status_text, who_line}
use Rattle.gd_lines.specs.Rows.{by_name}
use Rattle.gd_lines.specs.ScriptLines.{at_words, deliver_words, mail_at, read_script, script_rows, send_words, site_at}
use Rattle.gd_lines.specs.Text.{bad_log_line, bad_view_line, between_text, colour_text, colours_text, end_line, escaped}
use Rattle.gd_lines.specs.Text.{head_text, hex_digit, high_digits, id_text, item_line, joined_text, look_text}
use Rattle.gd_lines.specs.Text.{marks_text, nibble, place_text, size_text, style_text, width_text}
use Rattle.gd_lines.specs.WordKinds.{alignment, colour, dash, digit, fill, focus, heads, id, kind, label, look_name}
use Rattle.gd_lines.specs.WordKinds.{name, natural_in, new_name, number, number_in, numeral, unescaped}
use Rattle.gd_base.specs.Ranks.{level_cmp, rank_cmp}
use Rattle.gd_model.specs.Backs.{back}
use Rattle.gd_model.specs.Board.{apply}
use Rattle.gd_model.specs.Relations.{covers, independent}
use Rattle.gd_model.specs.Splices.{splice}
use Rattle.gd_reference.specs.Dialogues.{answered, end_of_lines, state_after}
use Rattle.gd_reference.specs.Fitting.{fitting, frame_count}
use Rattle.gd_reference.specs.InputLines.{heard, lines_of, whole_lines}
use Rattle.gd_reference.specs.Judging.{are_apart, by_id, edit, judged, targets}
use Rattle.gd_reference.specs.NodeRun.{node_lines, of_received, received, senders, who_behind}
use Rattle.gd_reference.specs.Offers.{all_arrived, frame_behind, further_frames, offered, offers, refusal}
use Rattle.gd_reference.specs.Offers.{shows_parting, take_frame, verdict, verdict_by}
use Rattle.gd_reference.specs.PerSite.{least_of_others, put}
use Rattle.gd_reference.specs.Rejoin.{found}
use Rattle.gd_reference.specs.SiteEffects.{asked_replies, events_replies, taken, tries_behind, works_of}
use Rattle.gd_reference.specs.SlowSite.{greatest_clock, made_by, parted_behind, resumed}
use Rattle.gd_reference.specs.TakeBack.{after_edit, after_gesture, after_turn, backs_of, done, made, turn, with_events}
use Rattle.gd_reference.specs.UptoFault.{events_before, events_upto}
use Rattle.gd_arrivals.specs.Tally.{tally_from}
use Rattle.gd_reference.specs.World.{after_from, after_line, happens, with_site}
use Rattle.gd_snapshots.specs.SnapshotBytes as snapshots
use Rattle.gd_snapshots.specs.SnapshotBytes.{kept_at, known_at, number_within, placed_at, snapshot_at, snapshot_bytes}
use Rattle.gd_snapshots.specs.Snapshots.{least_sure}
use Rattle.gd_viewing.specs.Handing.{known_behind, snapshot_of}
use Rattle.gd_viewing.specs.SlowViewer.{opened, viewer_all_arrived, viewer_taken}
use Rattle.gd_viewing.specs.ViewerEffects.{of_viewer_events}
use Rattle.gd_viewing.specs.Viewing.{end_behind, item_at, items_of, shown_behind, whole_behind}
use Rattle.gd_worlds.specs.Churn.{churned, line_for, rounds_to_all, times, with_line}
use Rattle.gd_worlds.specs.Rehearsal.{rehearsal_lines}

-- events, logs and frames
unfoldable pub bytes_compute : ⊤
unfolding chars is_utf8 fields.byte_at fields.byte_within fields.check_word_at fields.clock_at bytes.colour_at
    operations.all_ties_at operations.create_at operations.disband_at operations.restore_at operations.tie_at
    kinds.event_at bytes.fill_at operations.group_at bytes.label_at fields.id_at fields.label_within fields.length_at
    fields.long_label_at operations.member_at bytes.count_at bytes.member_id_at bytes.parent_id_at fields.number_at
    operations.connect_at operations.ends_at operations.lone_at operations.style_at operations.op_at
    operations.set_at operations.two_at bytes.shape_at fields.signed_at fields.site_at fields.stamp_at bytes.width_at
    fields.word_at checks.next checks.nexts checks.with_bytes chained of_site body_at event_count_at each_bytes focus_at
    frame frame_at many_at steps frame_magic_at frame_version_at half_at head_at name_at name_text_at next_event_at
    note_at six_at events_at gated_bytes header_at log magic_at record_at sites_at step_at turn_fault version_at
bytes_compute = tt

-- looks
unfoldable pub looks_compute : ⊤
unfolding looks.align_at looks.all_looks_at looks.dash_at looks.heads_at looks.if_set looks.letters_at looks.look_at
    looks.look_bytes looks.looks_bytes looks.opacity_at looks.round_at looks.thin_at
looks_compute = tt

-- lines that are typed, and lines that are printed
unfoldable pub lines_compute : ⊤
unfolding chars is_utf8 encode_utf8 digits ops.command_text ops.member_text ops.state_text ops.tie_text ops.two_text
    ops.whole_text behind count_from without_cr word then_at by_name edits.colour_at edits.create_words
    edits.delete_words edits.edit_rows edits.look_rows edits.other_rows edits.connect_words edits.ends_at
    edits.ends_words edits.fill_at edits.group_words edits.id_at edits.ids_at edits.kind_at edits.label_at
    edits.look_words edits.looks_at edits.named_at edits.natural_at edits.within_at edits.two_words edits.set_words
    edits.style_words edits.text_words edits.value_at edits.width_at lines.asked_rows
    lines.command_rows lines.focus_at lines.focus_words lines.name_at lines.name_words lines.read event_json link_json
    rank_json tie_json item_json member_json put_field at_words deliver_words mail_at read_script script_rows send_words
    site_at applied_line arrivals_line backdated_line bad_frame_line done_line dropped_line link_fault_line noted_line
    parted_line polled_line ready_line refused_line reworked_line standing_text status_line status_text who_line
    bad_log_line bad_view_line between_text colour_text colours_text end_line escaped head_text hex_digit high_digits
    id_text item_line joined_text look_text marks_text nibble place_text size_text style_text width_text alignment
    colour dash digit fill focus heads id kind label look_name name natural_in new_name number number_in numeral
    unescaped
lines_compute = tt

-- drawings, sites, worlds and runs
unfoldable pub sites_compute : ⊤
unfolding stamp_cmp level_cmp rank_cmp inserted_by covers independent splice are_apart by_id edit judged targets heard
    lines_of whole_lines answered end_of_lines state_after node_lines of_received received senders who_behind
    all_arrived frame_behind further_frames offered offers refusal shows_parting take_frame verdict verdict_by fitting
    frame_count least_of_others put asked_replies events_replies taken works_of tries_behind greatest_clock made_by
    parted_behind resumed events_before events_upto found tally_from after_edit after_gesture after_turn backs_of done
    made turn with_events apply back after_from after_line happens with_site
sites_compute = tt

-- rehearsals and churn
unfoldable pub worlds_compute : ⊤
unfolding pcg32_seed u32_at word_bytes churned_line delivered_line mail_line site_line churned line_for rounds_to_all
    times with_line rehearsal_lines
worlds_compute = tt

-- snapshots and viewers
unfoldable pub snapshots_compute : ⊤
unfolding objects.ends_or_none_at objects.flag_at objects.given_at objects.joined_at objects.kind_at objects.link_at
    objects.object_at objects.of_kind_at objects.own_ends_at objects.own_label_at objects.parent_at objects.rank_at
    objects.some_ends_at objects.some_link_at object_bytes steps snapshots.head_at kept_at known_at number_within
    placed_at snapshot_at snapshot_bytes least_sure known_behind snapshot_of opened viewer_all_arrived viewer_taken
    of_viewer_events end_behind item_at items_of shown_behind whole_behind
snapshots_compute = tt

unfoldable pub computing : ⊤
unfolding bytes_compute looks_compute lines_compute sites_compute worlds_compute snapshots_compute
computing = tt
