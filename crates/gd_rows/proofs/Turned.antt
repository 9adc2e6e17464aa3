-- The sites of worked rows of undo and redo, by the drawing.
use Rattle.std.proofs.Common.{◌≡◌, ℕ, List, [], ◌∷◌, refl, ap, ◌∙◌}
use Rattle.std.specs.List.{AllByRecursion}
use Rattle.gd_effects.specs.Effects.{Effect, Head, printed}
use Rattle.gd_events.specs.Events.{Event}
use Rattle.gd_grammar.specs.Drawings.{drawings}
use Rattle.gd_grammar.specs.HeaderBytes.{header_bytes}
use Rattle.gd_lines.specs.Edits.{Edit}
use Rattle.gd_lines.specs.declared.command.Turn.{Turn}
use Rattle.gd_lines.specs.declared.reply.Reply.TheVariants as reply
use Rattle.gd_model.specs.Drawing.{picture}
use Rattle.gd_reference.specs.Backs.{Backs}
use Rattle.gd_reference.specs.DrawingText.{text}
use Rattle.gd_reference.specs.NodeRun.{HeardLine}
use Rattle.gd_reference.specs.Said.{says}
use Rattle.gd_reference.specs.SlowSite.{SlowSite, journal_header, new_site}
use Rattle.gd_reference.specs.TakeBack.{after_edit, after_turn}
use Rattle.gd_reference.specs.World.{Step, World, start}
use Rattle.gd_rows.specs.WorkedBacks.{behind, dressed, dressing, prints, site_behind, turned}
use Rattle.gd_rows.proofs.ByDrawing.{answers-drawn, answers_drawn, edit-drawn, edit_drawn, site-drawn, site_drawn}
use Rattle.gd_rows.proofs.ByDrawing.{turn-drawn, turn_drawn, world-drawn, world_drawn}

-- what is read off a site
abbrev pub held_of : SlowSite → List Event
held_of slow = slow.held

abbrev pub kept_of : SlowSite → Backs
kept_of slow = slow.backs

abbrev pub shown_of : SlowSite → List (List ℕ)
shown_of slow = text (picture slow.held)

-- what is read off the site of each row is read off the one by the drawing
pub each_site : {A B : Type 0} {there drawn : A → SlowSite} (rows : List A) → ((r : A) → there r ≡ drawn r)
    → (seen : SlowSite → B) (wanted : A → B)
    → AllByRecursion (λ r. seen (drawn r) ≡ wanted r) rows → AllByRecursion (λ r. seen (there r) ≡ wanted r) rows
each_site [] same seen wanted h = h
each_site (r ∷ rows) same seen wanted h = (ap seen (same r) ∙ h.0, each_site rows same seen wanted h.1)

-- ---- a site alone

abbrev pub behind_drawn : List HeardLine → SlowSite
behind_drawn lines = site_drawn (new_site 1 1 7) lines

pub behind-drawn : (lines : List HeardLine) → behind lines ≡ behind_drawn lines
behind-drawn lines = site-drawn (new_site 1 1 7) lines

abbrev pub prints_with : List Effect → List ℕ
prints_with effects =
    printed (Head (header_bytes drawings (journal_header (new_site 1 1 7))) ∷ says (reply.Ready 1 1) ∷ effects)

pub prints-drawn : (lines : List HeardLine) → prints lines ≡ prints_with (answers_drawn (new_site 1 1 7) lines)
prints-drawn lines = ap prints_with (answers-drawn (new_site 1 1 7) lines)

-- ---- turns

unfoldable pub turned_drawn : SlowSite → List Turn → SlowSite
turned_drawn slow [] = slow
turned_drawn slow (which ∷ more) = turned_drawn (turn_drawn slow which) more

pub turned-drawn : (slow : SlowSite) (row : List Turn) → turned slow row ≡ turned_drawn slow row
unfolding turned_drawn
turned-drawn slow [] = refl
turned-drawn slow (which ∷ more) =
    ap (λ (s : SlowSite). turned s more) (turn-drawn slow which) ∙ turned-drawn (turn_drawn slow which) more

-- the same of a site that is one by the drawing
pub turned-at : {slow drawn : SlowSite} → slow ≡ drawn → (row : List Turn) → turned slow row ≡ turned_drawn drawn row
turned-at {drawn = drawn} same row = ap (λ (s : SlowSite). turned s row) same ∙ turned-drawn drawn row

pub turn-at : {slow drawn : SlowSite} → slow ≡ drawn → (which : Turn) → after_turn slow which ≡ turn_drawn drawn which
turn-at {drawn = drawn} same which = ap (λ (s : SlowSite). after_turn s which) same ∙ turn-drawn drawn which

-- ---- edits of the dressed shape

abbrev pub dressed_drawn : Edit → SlowSite
dressed_drawn wanted = edit_drawn (behind_drawn dressing) wanted

pub dressed-drawn : (wanted : Edit) → after_edit dressed wanted ≡ dressed_drawn wanted
dressed-drawn wanted =
    ap (λ (s : SlowSite). after_edit s wanted) (behind-drawn dressing) ∙ edit-drawn (behind_drawn dressing) wanted

-- ---- two sites

abbrev pub site_in : ℕ → List Step → SlowSite
site_in site steps = (world_drawn (start 2 7) steps).at site

pub site-in : (site : ℕ) (steps : List Step) → site_behind site steps ≡ site_in site steps
site-in site steps = ap (λ (w : World). w.at site) (world-drawn (start 2 7) steps)
