-- What the calls of a viewer answer, as what the reference viewer does.
use Rattle.std.specs.Prelude.{ℕ, Option, Some, None, ◌==◌, if◌then◌else◌}
use Rattle.gd_base.specs.Sites.{is_site}
use Rattle.gd_base.specs.declared.offer.Offer.{Offer}
use Rattle.gd_base.specs.declared.offer.Offer.TheVariants.{Next, Repeat, Gap, Backdated}
use Rattle.gd_base.specs.declared.refusal.FrameFault.{FrameFault}
use Rattle.gd_base.specs.declared.refusal.FrameFault.TheVariants.{Session, NoSuchSite}
use Rattle.gd_events.specs.Events.{Event}
use Rattle.gd_grammar.specs.declared.frame.Head.{Head}
use Rattle.gd_history.specs.Histories.{arrival_of}
use Rattle.gd_model.specs.Arrivals.{cost_of, outcome_of}
use Rattle.gd_site.specs.declared.answers.Taken.{Taken}
use Rattle.gd_site.specs.declared.answers.Taken.TheVariants as taken
use Rattle.gd_viewing.specs.SlowViewer.{SlowViewer}
use Rattle.gd_viewer.specs.Viewers.{ViewerValue}

-- what comes of an event with that offer
abbrev pub taken_by : Offer → SlowViewer → Event → Taken
taken_by Next v e = taken.Arrival (arrival_of (outcome_of v.held e))
taken_by Repeat v e = taken.Repeat
taken_by Gap v e = taken.Gap
taken_by (Backdated clock sure) v e = taken.Backdated clock sure

-- the steps that it takes
abbrev pub steps_by : Offer → SlowViewer → Event → ℕ
steps_by Next v e = cost_of v.held e
steps_by Repeat v e = 0
steps_by Gap v e = 0
steps_by (Backdated clock sure) v e = 0

-- why a frame with that head is refused, if it is, by what is stored
abbrev pub refused_by : ViewerValue → Head → Option FrameFault
refused_by s head =
    if head.session == s.session then (
    if is_site s.heard.sites head.from then None else Some NoSuchSite)
    else Some Session
