-- What the events and frames that come to a viewer do to the outside, beside what they do to the viewer.
--
-- An event that is taken costs its steps, and is printed with what came of it. One that is backdated is printed as
-- refused; a repeat, and one behind a gap, print nothing. A frame that is refused is printed as that, and nothing else
-- comes of it. A viewer records nothing and sends nothing.
--
-- What comes of an event, and what it costs, goes by the events that are held when it arrives, without those of the
-- board that the viewer began with: what is next lies above the line, and so above all of those.
use Rattle.std.specs.Prelude.{List, [], ◌∷◌, ◌++◌, Option, Some, None}
use Rattle.gd_base.specs.declared.offer.Offer.{Offer}
use Rattle.gd_base.specs.declared.offer.Offer.TheVariants.{Next, Repeat, Gap, Backdated}
use Rattle.gd_base.specs.declared.refusal.FrameFault.{FrameFault}
use Rattle.gd_effects.specs.Effects.{Effect, Work}
use Rattle.gd_events.specs.Events.{Event}
use Rattle.gd_grammar.specs.FrameBytes.{Frame}
use Rattle.gd_lines.specs.declared.reply.Reply.{Reply}
use Rattle.gd_lines.specs.declared.reply.Reply.TheVariants as reply
use Rattle.gd_model.specs.Arrivals.{cost_of}
use Rattle.gd_reference.specs.Said.{all_said}
use Rattle.gd_reference.specs.SiteEffects.{offer_replies}
use Rattle.gd_viewing.specs.SlowViewer.{SlowViewer, viewer_arrived, viewer_offer, viewer_refusal}

-- what is said of an event that arrives
abbrev pub viewer_event_replies : SlowViewer → Event → List Reply
viewer_event_replies v e = offer_replies v.held e (viewer_offer v e)

-- the steps of an event with that offer, where it is taken
abbrev pub viewing : List Event → Event → Offer → List Effect
viewing held e Next = Work (cost_of held e) ∷ []
viewing held e Repeat = []
viewing held e Gap = []
viewing held e (Backdated clock sure) = []

-- of an event that arrives
abbrev pub of_viewer_event : SlowViewer → Event → List Effect
of_viewer_event v e = viewing v.held e (viewer_offer v e) ++ all_said (viewer_event_replies v e)

-- of events that arrive one after the other
unfoldable pub of_viewer_events : SlowViewer → List Event → List Effect
of_viewer_events v [] = []
of_viewer_events v (e ∷ es) = of_viewer_event v e ++ of_viewer_events (viewer_arrived v e) es

abbrev pub of_viewer_frame_unless : SlowViewer → Frame → Option FrameFault → List Effect
of_viewer_frame_unless v f None = of_viewer_events v f.events
of_viewer_frame_unless v f (Some why) = all_said (reply.NotTaken why ∷ [])

-- of a frame
abbrev pub of_viewer_frame : SlowViewer → Frame → List Effect
of_viewer_frame v f = of_viewer_frame_unless v f (viewer_refusal v f.head)
