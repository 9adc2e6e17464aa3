-- Undo and redo by what the drawing finds. What takes an event back is read off a board, which is a map: no
-- definition sees into that, so nothing that an undo does computes. The drawing of the same events finds the same at
-- each id, and computes. So the site after a gesture, an undo or a redo is defined here once more, by the drawing, with
-- each run that has such; and each is the same.
use Rattle.std.proofs.Common.{◌≡◌, ℕ, List, [], ◌∷◌, Result, Ok, Err, refl, sym, ap, ap₂, ◌∙◌}
use Rattle.std.specs.Prelude.{⊤, ◌+◌, ◌++◌, length, fold, Option, None, Some, unwrap_or, if◌then◌else◌}
use Rattle.gd_base.specs.Sites.{is_site}
use Rattle.gd_base.specs.Stamps.{Stamp}
use Rattle.gd_drawing.proofs.SoundObjects.{find-picture}
use Rattle.gd_effects.specs.Effects.{Effect}
use Rattle.gd_events.specs.Events.{Event}
use Rattle.gd_events.specs.Ops.{Op}
use Rattle.gd_lines.specs.Edits.{Edit}
use Rattle.gd_lines.specs.declared.command.Command.TheVariants as command
use Rattle.gd_lines.specs.declared.command.ScriptLine.{ScriptLine}
use Rattle.gd_lines.specs.declared.command.ScriptLine.TheVariants as script
use Rattle.gd_lines.specs.declared.command.Turn.{Turn}
use Rattle.gd_model.specs.Backs.{back, op_of}
use Rattle.gd_model.specs.Board.{board}
use Rattle.gd_model.specs.Drawing.{Drawing, find, picture}
use Rattle.gd_model.specs.Forms.{form}
use Rattle.gd_model.specs.Undoing.{Lookup, before_by}
use Rattle.gd_outside.specs.Seen.{Entry}
use Rattle.gd_reference.specs.Backs.{Backs, with_gesture, with_turn}
use Rattle.gd_reference.specs.Dialogues.{Manner, answered, state_after}
use Rattle.gd_reference.specs.Judging.{edit, with_event}
use Rattle.gd_reference.specs.NodeRun.{HeardLine, NodeState, ReadLine, after_command, after_line_alone, after_line_of}
use Rattle.gd_reference.specs.NodeRun.{after_line_within, answers, at_rest, in_gesture, node_manner, site_after}
use Rattle.gd_reference.specs.NodeRun.{with_waiting}
use Rattle.gd_reference.specs.SlowSite.{SlowSite}
use Rattle.gd_reference.specs.TakeBack.{Asked, BackRefusal, after_edit, after_gesture, after_turn, backs_of, events_in}
use Rattle.gd_reference.specs.TakeBack.{made, turn, with_events, with_made, with_turned}
use Rattle.gd_reference.specs.World.{Line, Edits, Focuses, Names, Prints, Turns, Step, At, Deliver, Restart, Send}
use Rattle.gd_reference.specs.World.{SendBehind, Unfinished, Editing, Nothing, Taking, Turning, World, after_from}
use Rattle.gd_reference.specs.World.{after_line, after_unfinished, happens, restarted, start, with_site}
use Rattle.gd_worlds.specs.Churn.{Churning, churned, ids_made, new_churning, rounded, rounds_to_all, step, stepped}
use Rattle.gd_worlds.specs.Churn.{times, with_drawn, with_idle, with_line, with_reply}
use Rattle.gd_worlds.specs.Rehearsal.{HeardScript, ReadScript, after_script, rehearsal_effects, rehearsal_manner}
use Rattle.gd_worlds.specs.Rehearsal.{script_replies, script_work, told_by}

-- ---- a site

unfoldable pub back_drawn : Stamp → Op → Drawing → Op
back_drawn stamp op d = let f = form stamp op in op_of (unwrap_or (before_by f (λ id. find id d)) f)

back-drawn : (stamp : Stamp) (op : Op) (held : List Event)
    → back stamp op (board held) ≡ back_drawn stamp op (picture held)
unfolding back back_drawn
back-drawn stamp op held =
    ap (λ (look : Lookup). op_of (unwrap_or (before_by (form stamp op) look) (form stamp op)))
    (λ i. λ id. sym (find-picture held id) i)

unfoldable pub backs_drawn : SlowSite → List Event → List Op
backs_drawn slow [] = []
backs_drawn slow (e ∷ es) = backs_drawn (with_event slow e) es ++ back_drawn e.stamp e.op (picture slow.held) ∷ []

backs-drawn : (slow : SlowSite) (es : List Event) → backs_of slow es ≡ backs_drawn slow es
unfolding backs_of backs_drawn
backs-drawn slow [] = refl
backs-drawn slow (e ∷ es) =
    ap₂ (λ (ops : List Op) (op : Op). ops ++ op ∷ []) (backs-drawn (with_event slow e) es)
    (back-drawn e.stamp e.op slow.held)

unfoldable pub made_drawn : SlowSite → List Event → (List Op → Backs → Backs) → SlowSite
made_drawn slow es keep = record (with_events slow es) { backs = keep (backs_drawn slow es) slow.backs }

made-drawn : (slow : SlowSite) (es : List Event) (keep : List Op → Backs → Backs)
    → with_made slow es keep ≡ made_drawn slow es keep
unfolding made_drawn
made-drawn slow es keep =
    ap (λ (ops : List Op). record (with_events slow es) { backs = keep ops slow.backs }) (backs-drawn slow es)

unfoldable pub edit_drawn : SlowSite → Edit → SlowSite
edit_drawn slow wanted = made_drawn slow (events_in (edit slow wanted)) with_gesture

pub edit-drawn : (slow : SlowSite) (wanted : Edit) → after_edit slow wanted ≡ edit_drawn slow wanted
unfolding after_edit edit_drawn
edit-drawn slow wanted = made-drawn slow (events_in (edit slow wanted)) with_gesture

unfoldable pub gesture_drawn : SlowSite → List Asked → SlowSite
gesture_drawn slow asked = made_drawn slow (made slow asked) with_gesture

gesture-drawn : (slow : SlowSite) (asked : List Asked) → after_gesture slow asked ≡ gesture_drawn slow asked
unfolding after_gesture gesture_drawn
gesture-drawn slow asked = made-drawn slow (made slow asked) with_gesture

unfoldable pub turn_drawn_by : SlowSite → Turn → Result (List Event) BackRefusal → SlowSite
turn_drawn_by slow which (Ok es) = made_drawn slow es (with_turn which)
turn_drawn_by slow which (Err why) = slow

turn-drawn-by : (slow : SlowSite) (which : Turn) (r : Result (List Event) BackRefusal)
    → with_turned slow which r ≡ turn_drawn_by slow which r
unfolding turn_drawn_by
turn-drawn-by slow which (Ok es) = made-drawn slow es (with_turn which)
turn-drawn-by slow which (Err why) = refl

unfoldable pub turn_drawn : SlowSite → Turn → SlowSite
turn_drawn slow which = turn_drawn_by slow which (turn slow which)

pub turn-drawn : (slow : SlowSite) (which : Turn) → after_turn slow which ≡ turn_drawn slow which
unfolding after_turn turn_drawn
turn-drawn slow which = turn-drawn-by slow which (turn slow which)

unfoldable pub line_drawn : SlowSite → Line → SlowSite
line_drawn slow (Edits wanted) = edit_drawn slow wanted
line_drawn slow (Turns which) = turn_drawn slow which
line_drawn slow (Names name) = after_line slow (Names name)
line_drawn slow (Focuses focus) = after_line slow (Focuses focus)
line_drawn slow Prints = slow

line-drawn : (slow : SlowSite) (line : Line) → after_line slow line ≡ line_drawn slow line
unfolding after_line line_drawn
line-drawn slow (Edits wanted) = edit-drawn slow wanted
line-drawn slow (Turns which) = turn-drawn slow which
line-drawn slow (Names name) = refl
line-drawn slow (Focuses focus) = refl
line-drawn slow Prints = refl

-- ---- a node

unfoldable pub command_drawn : SlowSite → List Entry → ReadLine → SlowSite
command_drawn slow entries (Ok command.Blank) = slow
command_drawn slow entries (Ok (command.Edit wanted)) = edit_drawn slow wanted
command_drawn slow entries (Ok (command.Turn which)) = turn_drawn slow which
command_drawn slow entries (Ok command.Show) = slow
command_drawn slow entries (Ok command.Poll) = after_command slow entries (Ok command.Poll)
command_drawn slow entries (Ok command.Status) = slow
command_drawn slow entries (Ok (command.Focus focus)) = after_line slow (Focuses focus)
command_drawn slow entries (Ok (command.Name name)) = after_line slow (Names name)
command_drawn slow entries (Ok command.Who) = slow
command_drawn slow entries (Ok command.Begin) = slow
command_drawn slow entries (Ok command.End) = slow
command_drawn slow entries (Ok command.Quit) = slow
command_drawn slow entries (Err fault) = slow

command-drawn : (slow : SlowSite) (entries : List Entry) (line : ReadLine)
    → after_command slow entries line ≡ command_drawn slow entries line
unfolding after_line command_drawn
command-drawn slow entries (Ok command.Blank) = refl
command-drawn slow entries (Ok (command.Edit wanted)) = edit-drawn slow wanted
command-drawn slow entries (Ok (command.Turn which)) = turn-drawn slow which
command-drawn slow entries (Ok command.Show) = refl
command-drawn slow entries (Ok command.Poll) = refl
command-drawn slow entries (Ok command.Status) = refl
command-drawn slow entries (Ok (command.Focus focus)) = refl
command-drawn slow entries (Ok (command.Name name)) = refl
command-drawn slow entries (Ok command.Who) = refl
command-drawn slow entries (Ok command.Begin) = refl
command-drawn slow entries (Ok command.End) = refl
command-drawn slow entries (Ok command.Quit) = refl
command-drawn slow entries (Err fault) = refl

unfoldable pub alone_drawn : SlowSite → List Entry → ReadLine → NodeState
alone_drawn slow entries (Ok command.Begin) = in_gesture slow []
alone_drawn slow entries line = at_rest (command_drawn slow entries line)

alone-drawn : (slow : SlowSite) (entries : List Entry) (line : ReadLine)
    → after_line_alone slow entries line ≡ alone_drawn slow entries line
unfolding alone_drawn
alone-drawn slow entries (Ok command.Begin) = refl
alone-drawn slow entries line = ap at_rest (command-drawn slow entries line)

unfoldable pub within_drawn : SlowSite → List Asked → ReadLine → NodeState
within_drawn slow asked (Ok command.End) = at_rest (gesture_drawn slow asked)
within_drawn slow asked line = in_gesture slow (with_waiting asked line)

within-drawn : (slow : SlowSite) (asked : List Asked) (line : ReadLine)
    → after_line_within slow asked line ≡ within_drawn slow asked line
unfolding within_drawn
within-drawn slow asked (Ok command.End) = ap at_rest (gesture-drawn slow asked)
within-drawn slow asked line = refl

unfoldable pub state_drawn : SlowSite → Option (List Asked) → List Entry → ReadLine → NodeState
state_drawn slow None entries line = alone_drawn slow entries line
state_drawn slow (Some asked) entries line = within_drawn slow asked line

state-drawn : (slow : SlowSite) (waiting : Option (List Asked)) (entries : List Entry) (line : ReadLine)
    → after_line_of slow waiting entries line ≡ state_drawn slow waiting entries line
unfolding state_drawn
state-drawn slow None entries line = alone-drawn slow entries line
state-drawn slow (Some asked) entries line = within-drawn slow asked line

unfoldable pub node_drawn : Manner ReadLine NodeState
node_drawn = record node_manner { state = λ state entries line. state_drawn state.site state.waiting entries line }

manner-drawn : node_manner ≡ node_drawn
unfolding node_drawn
manner-drawn =
    λ i. record node_manner { state = λ state entries line. state-drawn state.site state.waiting entries line i }

-- what a node's lines do, and the site behind them, of a site alone without entries
unfoldable pub answers_drawn : SlowSite → List HeardLine → List Effect
answers_drawn slow lines = answered node_drawn (at_rest slow) [] lines

pub answers-drawn : (slow : SlowSite) (lines : List HeardLine) → answers slow [] lines ≡ answers_drawn slow lines
unfolding answers_drawn
answers-drawn slow lines = ap (λ (m : Manner ReadLine NodeState). answered m (at_rest slow) [] lines) manner-drawn

unfoldable pub site_drawn : SlowSite → List HeardLine → SlowSite
site_drawn slow lines = (state_after node_drawn (at_rest slow) [] lines).site

pub site-drawn : (slow : SlowSite) (lines : List HeardLine) → site_after slow [] lines ≡ site_drawn slow lines
unfolding site_drawn
site-drawn slow lines
    = ap (λ (m : Manner ReadLine NodeState). (state_after m (at_rest slow) [] lines).site) manner-drawn

-- ---- a world

unfoldable pub unfinished_drawn : World → ℕ → Unfinished → SlowSite
unfinished_drawn w site Nothing = w.at site
unfinished_drawn w site (Editing wanted) = edit_drawn (w.at site) wanted
unfinished_drawn w site (Turning which) = turn_drawn (w.at site) which
unfinished_drawn w site (Taking mail) = after_unfinished w site (Taking mail)

unfinished-drawn : (w : World) (site : ℕ) (unfinished : Unfinished)
    → after_unfinished w site unfinished ≡ unfinished_drawn w site unfinished
unfolding unfinished_drawn
unfinished-drawn w site Nothing = refl
unfinished-drawn w site (Editing wanted) = edit-drawn (w.at site) wanted
unfinished-drawn w site (Turning which) = turn-drawn (w.at site) which
unfinished-drawn w site (Taking mail) = refl

unfoldable pub step_drawn : World → Step → World
step_drawn w (At site line) = if is_site w.sites site then with_site w site (line_drawn (w.at site) line) else w
step_drawn w (Send from to) = happens w (Send from to)
step_drawn w (SendBehind from to start) = happens w (SendBehind from to start)
step_drawn w (Deliver mail) = happens w (Deliver mail)
step_drawn w (Restart site stored unfinished) =
    if is_site w.sites site
    then with_site w site (restarted (w.at site) stored (unfinished_drawn w site unfinished))
    else w

step-drawn : (w : World) (step : Step) → happens w step ≡ step_drawn w step
unfolding happens step_drawn
step-drawn w (At site line) =
    ap (λ (s : SlowSite). if is_site w.sites site then with_site w site s else w) (line-drawn (w.at site) line)
step-drawn w (Send from to) = refl
step-drawn w (SendBehind from to start) = refl
step-drawn w (Deliver mail) = refl
step-drawn w (Restart site stored unfinished) =
    ap (λ (s : SlowSite). if is_site w.sites site then with_site w site (restarted (w.at site) stored s) else w)
    (unfinished-drawn w site unfinished)

unfoldable pub world_drawn : World → List Step → World
world_drawn w [] = w
world_drawn w (step ∷ steps) = world_drawn (step_drawn w step) steps

pub world-drawn : (w : World) (steps : List Step) → after_from w steps ≡ world_drawn w steps
unfolding after_from world_drawn
world-drawn w [] = refl
world-drawn w (step ∷ steps) =
    ap (λ (v : World). after_from v steps) (step-drawn w step) ∙ world-drawn (step_drawn w step) steps

-- ---- a rehearsal

unfoldable pub script_drawn : World → ReadScript → World
script_drawn w (Ok script.Blank) = w
script_drawn w (Ok (script.At site asked)) = step_drawn w (At site (told_by asked))
script_drawn w (Ok (script.Send from to)) = happens w (Send from to)
script_drawn w (Ok (script.Deliver mail)) = after_script w (Ok (script.Deliver mail))
script_drawn w (Ok script.Quit) = w
script_drawn w (Err fault) = w

script-drawn : (w : World) (line : ReadScript) → after_script w line ≡ script_drawn w line
unfolding script_drawn
script-drawn w (Ok script.Blank) = refl
script-drawn w (Ok (script.At site asked)) = step-drawn w (At site (told_by asked))
script-drawn w (Ok (script.Send from to)) = refl
script-drawn w (Ok (script.Deliver mail)) = refl
script-drawn w (Ok script.Quit) = refl
script-drawn w (Err fault) = refl

unfoldable pub rehearsal_drawn : Manner ReadScript World
rehearsal_drawn = record rehearsal_manner { state = λ w entries line. script_drawn w line }

manner-rehearsed : rehearsal_manner ≡ rehearsal_drawn
unfolding rehearsal_drawn
manner-rehearsed = λ i. record rehearsal_manner { state = λ w entries line. script-drawn w line i }

unfoldable pub rehearsed_drawn : ℕ → List HeardScript → List Effect
rehearsed_drawn sites lines = answered rehearsal_drawn (start sites 1) [] lines

pub rehearsed-drawn : (sites : ℕ) (lines : List HeardScript)
    → rehearsal_effects sites lines ≡ rehearsed_drawn sites lines
unfolding rehearsed_drawn
rehearsed-drawn sites lines =
    ap (λ (m : Manner ReadScript World). answered m (start sites 1) [] lines) manner-rehearsed

-- ---- churn

unfoldable pub line_churned : Churning → ScriptLine → Churning
line_churned c line =
    let replies = script_replies c.world (Ok line) in
    record c {
      world = script_drawn c.world (Ok line);
      made = c.made ++ ids_made line replies;
      counts = fold with_reply c.counts replies;
      work = c.work ++ script_work c.world (Ok line);
    }

line-churned : (c : Churning) (line : ScriptLine) → with_line c line ≡ line_churned c line
unfolding with_line line_churned
line-churned c line = λ i. record (line_churned c line) { world = script-drawn c.world (Ok line) i }

unfoldable pub drawn_churned : Churning → Option ScriptLine → Churning
drawn_churned c None = record c { counts = with_idle c.counts }
drawn_churned c (Some line) = line_churned c line

drawn-churned : (c : Churning) (line : Option ScriptLine) → with_drawn c line ≡ drawn_churned c line
unfolding drawn_churned
drawn-churned c None = refl
drawn-churned c (Some line) = line-churned c line

unfoldable pub step_churned : Churning → Churning
step_churned c =
    let (line, behind) = step c.made (length c.world.mail) c.generator in
    drawn_churned (record c { generator = behind }) line

step-churned : (c : Churning) → stepped c ≡ step_churned c
unfolding step_churned
step-churned c =
    let drawn = step c.made (length c.world.mail) c.generator in
    drawn-churned (record c { generator = drawn.1 }) drawn.0

unfoldable pub all_churned : ℕ → ℕ → Churning
all_churned seed steps = rounded (rounds_to_all (4 + steps) (times steps step_churned (new_churning seed)))

pub all-churned : (seed steps : ℕ) → churned seed steps ≡ all_churned seed steps
unfolding churned all_churned
all-churned seed steps =
    λ i. rounded (rounds_to_all (4 + steps) (times steps (λ c. step-churned c i) (new_churning seed)))

-- ---- what computes

unfoldable pub drawn_compute : ⊤
unfolding back_drawn backs_drawn made_drawn edit_drawn gesture_drawn turn_drawn_by turn_drawn line_drawn command_drawn
    alone_drawn within_drawn state_drawn node_drawn answers_drawn site_drawn unfinished_drawn step_drawn world_drawn
    script_drawn rehearsal_drawn rehearsed_drawn line_churned drawn_churned step_churned all_churned
drawn_compute = tt
