-- The reference run of churn: a long session of four sites, played from a number.
--
-- Churn is a rehearsal whose lines are drawn, and of which only numbers are printed, at its end. Each draw is the next
-- word of 32 bits that the generator PCG32 (XSH RR) gives from the seed, modulo how many values there are. A step draws
-- a site, and then a number below 22 that says what is done: the site makes an object or changes one, it takes an edit
-- back or does one again, it sends a frame, or some mail is delivered (`line_for`). What is changed is one of the
-- objects that were made in the session so far, shown or not, in the order in which they were made. Where none was made
-- yet the step is idle, and draws no more; so it is where there is no mail to deliver.
--
-- Behind the steps come rounds until every site holds every event, at most four and one more for each step, and then
-- one more round. In a round each site sends a frame to each other one, and that mail is delivered at once. Then seven
-- lines say where each site stands, how often an edit, an undo or a redo was accepted or refused, a mail sent or
-- delivered, and a step idle, how the events went that were delivered, and whether all sites show the same.
use Rattle.std.specs.Prelude.{ℕ, zero, suc, pos, ◌+◌, ◌%◌, Bool, true, false, List, [], ◌∷◌, ◌++◌, length, map, fold}
use Rattle.std.specs.Prelude.{flat_map, Option, Some, None, Ok, slice_index_or, codes, ◌==◌, nat_lt, bytes_eq}
use Rattle.std.specs.Prelude.{if◌then◌else◌}
use Rattle.std.specs.List.{concat, list_all}
use Rattle.rand_core.specs.Pcg32Seed.{pcg32_seed}
use Rattle.rand_pcg.specs.Lcg.{Lcg}
use Rattle.rand_pcg.specs.Pcg.{pcg32, pcg32_of_seed}
use Rattle.gd_base.specs.Stamps.{Stamp}
use Rattle.gd_base.specs.declared.content.Content.TheVariants as content
use Rattle.gd_base.specs.Looks.{no_looks}
use Rattle.gd_base.specs.declared.look.Dash.{Dash}
use Rattle.gd_base.specs.declared.look.Dash.TheVariants.{Solid, Dashed, Dotted}
use Rattle.gd_base.specs.declared.object.Ends.{Ends}
use Rattle.gd_base.specs.declared.content.Side.TheVariants.{Top}
use Rattle.gd_base.specs.declared.op.Op.TheVariants.{Create, Delete, Set, Group, Connect}
use Rattle.gd_base.specs.declared.shape.Shape.TheVariants.{Rect}
use Rattle.gd_effects.specs.Effects.{Effect}
use Rattle.gd_lines.specs.Edits.{Edit}
use Rattle.gd_lines.specs.declared.command.Command.TheVariants as command
use Rattle.gd_lines.specs.declared.command.Turn.{Turn}
use Rattle.gd_lines.specs.declared.command.Turn.TheVariants.{Undo, Redo}
use Rattle.gd_lines.specs.declared.command.ScriptLine.{ScriptLine}
use Rattle.gd_lines.specs.declared.command.ScriptLine.TheVariants as script
use Rattle.gd_lines.specs.declared.reply.Reply.{Reply}
use Rattle.gd_lines.specs.declared.reply.Reply.TheVariants as reply
use Rattle.gd_model.specs.Drawing.{picture}
use Rattle.gd_reference.specs.DrawingText.{text}
use Rattle.gd_reference.specs.Said.{all_said}
use Rattle.gd_reference.specs.SlowSite.{count, own, status}
use Rattle.gd_arrivals.specs.Tally.{Tally, no_tally}
use Rattle.gd_reference.specs.Tally.{tally_reply}
use Rattle.gd_reference.specs.World.{World, start}
use Rattle.gd_worlds.specs.Rehearsal.{after_script, script_replies, script_work}

-- ---- draws

-- what is drawn from a generator, and the generator behind that
abbrev pub Draws : Type 0 → Type 0
Draws A = Lcg → A × Lcg

infixl 10 ◌>>=◌
abbrev pub ◌>>=◌ : {A B : Type 0} → Draws A → (A → Draws B) → Draws B
(draw >>= next) generator = let (x, behind) = draw generator in next x behind

-- nothing is drawn
abbrev pub known : {A : Type 0} → A → Draws A
known x generator = (x, generator)

-- a word, modulo a number
abbrev pub below : ℕ → Draws ℕ
below n generator = ((pcg32 generator).0 % n, (pcg32 generator).1)

-- one of these, of which there is at least one
abbrev pub pick : Stamp → List Stamp → Draws Stamp
pick first rest = do
  k ← below (length (first ∷ rest))
  known (slice_index_or (first ∷ rest) k first)

-- ---- what a step asks for

abbrev pub create : Draws Edit
create = do
  x ← below 1000
  y ← below 1000
  known (Create Rect (pos x) (pos y) (pos 10) (pos 10) [])

-- edits of what a pick gives
abbrev pub change : (Stamp → Edit) → Draws Stamp → Draws Edit
change edit picked = do
  id ← picked
  known (edit id)

abbrev pub move : Draws Stamp → Draws Edit
move picked = do
  id ← picked
  x ← below 1000
  y ← below 1000
  known (Set id (content.ToPlace (pos x) (pos y)))

abbrev pub group : Draws Stamp → Draws Edit
group picked = do
  id ← picked
  other ← picked
  known (Group (id ∷ other ∷ []))

abbrev pub stroke : Draws Stamp → Draws Edit
stroke picked = do
  id ← picked
  colour ← below 16777216
  known (Set id (content.ToLooks (record no_looks { stroke = Some colour })))

-- the ends of a connector, perhaps the same
abbrev pub ends : Draws Stamp → Draws Ends
ends picked = do
  from ← picked
  to ← picked
  known (record { from = from; to = to })

abbrev pub connect : Draws Stamp → Draws Edit
connect picked = do
  between ← ends picked
  known (Connect between [])

abbrev pub reconnect : Draws Stamp → Draws Edit
reconnect picked = do
  id ← picked
  between ← ends picked
  known (Set id (content.ToEnds (Some between)))

abbrev pub dash_of : ℕ → Dash
dash_of n = if n == 0 then Solid else if n == 1 then Dashed else Dotted

-- three parts of a look at once
abbrev pub style : Draws Stamp → Draws Edit
style picked = do
  id ← picked
  colour ← below 16777216
  dash ← below 3
  opacity ← below 100
  known (Set id (content.ToLooks
      (record no_looks { stroke = Some colour; dash = Some (dash_of dash); opacity = Some (1 + opacity) })))

-- a label of two lines, the second one of a letter
abbrev pub write : Draws Stamp → Draws Edit
write picked = do
  id ← picked
  letter ← below 26
  known (Set id (content.ToText (codes "churn\n" ++ (97 + letter) ∷ [])))

-- a site is asked for an edit
abbrev pub asks : ℕ → Draws Edit → Draws (Option ScriptLine)
asks site drawn = do
  edit ← drawn
  known (Some (script.At site (command.Edit edit)))

-- an edit of one of these ids; or nothing, where there is none
abbrev pub asks_of : List Stamp → ℕ → (Draws Stamp → Draws Edit) → Draws (Option ScriptLine)
asks_of [] site edit = known None
asks_of (id ∷ ids) site edit = asks site (edit (pick id ids))

-- a site takes its last edit back, or does one again
abbrev pub turns : ℕ → Turn → Draws (Option ScriptLine)
turns site which = known (Some (script.At site (command.Turn which)))

-- one of the three others is sent a frame
abbrev pub send : ℕ → Draws (Option ScriptLine)
send site = do
  k ← below 3
  known (Some (script.Send site (1 + (site + k) % 4)))

-- one of so many mails is delivered; or nothing, where there is none
abbrev pub deliver : ℕ → Draws (Option ScriptLine)
deliver zero = known None
deliver (suc mails) = do
  k ← below (suc mails)
  known (Some (script.Deliver (1 + k)))

-- the line of a site by a number below 22, where these ids were made and so many mails sent; none where the step is
-- idle
unfoldable pub line_for : List Stamp → ℕ → ℕ → ℕ → Draws (Option ScriptLine)
line_for made mails site number =
    if nat_lt number 4 then asks site create
    else if nat_lt number 7 then asks_of made site move
    else if number == 7 then asks_of made site (change Delete)
    else if number == 8 then asks_of made site (change (λ id. Set id (content.ToRank Top)))
    else if number == 9 then asks_of made site group
    else if number == 10 then asks_of made site (change (λ id. Set id (content.ToFlag true)))
    else if number == 11 then asks_of made site stroke
    else if nat_lt number 14 then send site
    else if nat_lt number 16 then deliver mails
    else if number == 16 then turns site Undo
    else if number == 17 then turns site Redo
    else if number == 18 then asks_of made site connect
    else if number == 19 then asks_of made site reconnect
    else if number == 20 then asks_of made site style
    else asks_of made site write

abbrev pub step : List Stamp → ℕ → Draws (Option ScriptLine)
step made mails = do
  site ← below 4
  number ← below 22
  line_for made mails (1 + site) number

-- ---- how far a run has come

-- how often each was answered, and how many steps were idle
pub record Counts : Type 0 where
  pub edits : ℕ
  pub refused : ℕ
  pub sent : ℕ
  pub delivered : ℕ
  pub idle : ℕ
  pub arrivals : Tally

abbrev pub no_counts : Counts
no_counts = record { edits = 0; refused = 0; sent = 0; delivered = 0; idle = 0; arrivals = no_tally }

-- the world, the generator, the ids of what was made, the counts, and what it cost
pub record Churning : Type 0 where
  pub world : World
  pub generator : Lcg
  pub made : List Stamp
  pub counts : Counts
  pub work : List Effect

abbrev pub new_churning : ℕ → Churning
new_churning seed =
    record {
      world = start 4 1;
      generator = pcg32_of_seed (pcg32_seed 16 seed);
      made = [];
      counts = no_counts;
      work = [];
    }

-- with one answer more: an event that a site takes from mail is echoed
abbrev pub with_arrival : Tally → Reply → Tally
with_arrival t (reply.Applied id op) = record t { applied = t.applied + 1 }
with_arrival t (reply.Dropped id by op) = record t { dropped = t.dropped + 1 }
with_arrival t (reply.Reworked id count op) = record t { reworked = t.reworked + 1; undone = t.undone + count }
with_arrival t other = t

-- the same of all counts: no send and no delivery is refused here, so what is refused is an edit, an undo or a redo
abbrev pub with_reply : Counts → Reply → Counts
with_reply c (reply.Done id) = record c { edits = c.edits + 1 }
with_reply c (reply.Refused why) = record c { refused = c.refused + 1 }
with_reply c (reply.Mail number) = record c { sent = c.sent + 1 }
with_reply c (reply.Delivered number) = record c { delivered = c.delivered + 1 }
with_reply c other = record c { arrivals = with_arrival c.arrivals other }

abbrev pub is_making : ScriptLine → Bool
is_making (script.At site (command.Edit (Create kind x y w h label))) = true
is_making (script.At site (command.Edit (Group ids))) = true
is_making (script.At site (command.Edit (Connect between label))) = true
is_making other = false

abbrev pub done_id : Reply → List Stamp
done_id (reply.Done id) = id ∷ []
done_id other = []

-- the id of what a line made, where it was accepted
abbrev pub ids_made : ScriptLine → List Reply → List Stamp
ids_made line replies = if is_making line then flat_map done_id replies else []

-- a line is answered as in a rehearsal
unfoldable pub with_line : Churning → ScriptLine → Churning
with_line c line =
    let replies = script_replies c.world (Ok line) in
    record c {
      world = after_script c.world (Ok line);
      made = c.made ++ ids_made line replies;
      counts = fold with_reply c.counts replies;
      work = c.work ++ script_work c.world (Ok line);
    }

abbrev pub with_idle : Counts → Counts
with_idle c = record c { idle = c.idle + 1 }

abbrev pub with_drawn : Churning → Option ScriptLine → Churning
with_drawn c None = record c { counts = with_idle c.counts }
with_drawn c (Some line) = with_line c line

abbrev pub stepped : Churning → Churning
stepped c =
    let (line, behind) = step c.made (length c.world.mail) c.generator in
    with_drawn (record c { generator = behind }) line

-- ---- rounds

-- a send whose mail, the last one, is delivered at once
abbrev pub passed : Churning → ℕ × ℕ → Churning
passed c (from, to) = let sent = with_line c (script.Send from to)
    in with_line sent (script.Deliver (length sent.world.mail))

abbrev pub passages : List (ℕ × ℕ)
passages =
    (1, 2) ∷ (1, 3) ∷ (1, 4)
    ∷ (2, 1) ∷ (2, 3) ∷ (2, 4)
    ∷ (3, 1) ∷ (3, 2) ∷ (3, 4)
    ∷ (4, 1) ∷ (4, 2) ∷ (4, 3)
    ∷ []

abbrev pub rounded : Churning → Churning
rounded c = fold passed c passages

-- ---- the run

-- so often, one after the other
unfoldable pub times : ℕ → (Churning → Churning) → Churning → Churning
times zero next c = c
times (suc n) next c = times n next (next c)

abbrev pub churn_sites : List ℕ
churn_sites = 1 ∷ 2 ∷ 3 ∷ 4 ∷ []

-- a site holds as many events of another one as there are
abbrev pub holds_all_of : World → ℕ → ℕ → Bool
holds_all_of w t s = count (w.at t) s == length (own (w.at s))

abbrev pub all_hold_all : World → Bool
all_hold_all w = list_all (λ t. list_all (holds_all_of w t) churn_sites) churn_sites

-- rounds until every site holds every event, at most so many
unfoldable pub rounds_to_all : ℕ → Churning → Churning
rounds_to_all zero c = c
rounds_to_all (suc n) c = if all_hold_all c.world then c else rounds_to_all n (rounded c)

unfoldable pub churned : ℕ → ℕ → Churning
churned seed steps = rounded (rounds_to_all (4 + steps) (times steps stepped (new_churning seed)))

-- ---- what is printed

abbrev pub site_reply : World → ℕ → Reply
site_reply w site = reply.SiteLine site (status (w.at site))

-- the bytes that a site shows
abbrev pub shown_at : World → ℕ → List ℕ
shown_at w site = concat (text (picture (w.at site).held))

abbrev pub is_same : World → Bool
is_same w = list_all (λ site. bytes_eq (shown_at w 1) (shown_at w site)) (2 ∷ 3 ∷ 4 ∷ [])

abbrev pub summary : World → Counts → List Reply
summary w c =
    map (site_reply w) churn_sites
    ++ reply.Churned c.edits c.refused c.sent c.delivered c.idle
    ∷ tally_reply c.arrivals
    ∷ reply.Same (is_same w)
    ∷ []

-- the effects of a seed and so many steps
abbrev pub churn_effects : ℕ → ℕ → List Effect
churn_effects seed steps = let c = churned seed steps in c.work ++ all_said (summary c.world c.counts)
