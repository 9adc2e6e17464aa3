use Rattle.std.proofs.Common.{List, ℕ, ◌++◌, refl, sym, ap, subst}
use Rattle.std.specs.Prelude.{Err, Result}
use Rattle.gd_effects.proofs.Doing.{does_as, does_nothing}
use Rattle.gd_effects.proofs.OneRecord.{none_done, torn_record}
use Rattle.gd_effects.specs.Done.{Does}
use Rattle.gd_effects.specs.Outside.{outside}
use Rattle.gd_grammar.specs.Chains.{AreChains}
use Rattle.gd_grammar.specs.Drawings.{drawings}
use Rattle.gd_logs.specs.declared.writer.AppendFault.{AppendFault}
use Rattle.gd_node.proofs.Logs.{all_place, crash_torn, does_record, has_more, left_torn, none_more, none_recorded}
use Rattle.gd_node.proofs.Logs.{some_recorded, standing}
use Rattle.gd_outside.specs.Seen.{SeenJournal}
use Rattle.gd_outside.specs.declared.end.End.TheVariants.{NoMemory}
use Rattle.gd_reference.specs.SiteEffects.{recording}
use Rattle.gd_reference.specs.SlowSite.{journal_header, log_end}
use Rattle.gd_node.proofs.journalling.record_all.Goals as goal

abbrev failed_as : AppendFault → Result (Unit {0}) AppendFault
failed_as fault = Err fault

pub returns-then-is_empty-clause-does : goal.returns-then-is_empty-clause-does
returns-then-is_empty-clause-does g c slow es are ruled has input output link steps =
    does_as (none_recorded slow es c.args.records are (sym c.if-is_empty.ensures)) (does_nothing _)

pub returns-then-is_empty-clause-log : goal.returns-then-is_empty-clause-log
returns-then-is_empty-clause-log g c slow es are ruled has
    = none_more slow es c.args.records are (sym c.if-is_empty.ensures) has

pub append_all-requires-clause-log : goal.append_all-requires-clause-log
append_all-requires-clause-log g c t = let r = c.requires in standing (journal_header r.0) r.0.held _ _ r.2 t

pub returns-in-Ok-clause-does : goal.returns-in-Ok-clause-does
returns-in-Ok-clause-does g c slow es are ruled has input output link steps =
    let append = c.in-Ok.ensures in
    does_as (some_recorded slow es c.args.records are (sym c.if-is_empty.ensures))
    (does_record slow es _ _ _ has ruled append.called.was (λ t. append.adds t slow.held es are) append.called
    (λ t. append.added t slow.held es are) input output link steps)

pub returns-in-Ok-clause-log : goal.returns-in-Ok-clause-log
returns-in-Ok-clause-log g c slow es are ruled has =
    let append = c.in-Ok.ensures in
    has_more slow es _ _ _ has ruled append.called.was (λ t. append.adds t slow.held es are) _
    (all_place slow.held es c.args.records _ _ are append.place)
    (subst (λ (chains : List ℕ). AreChains drawings chains (slow.held ++ es)) (sym append.chained) are.chained)

pub returns-in-Err-Memory-clause-does : goal.returns-in-Err-Memory-clause-does
returns-in-Err-Memory-clause-does g c slow es are ruled has input output link steps =
    let same = c.in-Err-Memory.ensures.memory (ap failed_as c.in-Err-Memory.field-0-is) in
    let old = g.J.Journal.seen c.args.journal.now in
    subst (λ (new : SeenJournal). Does {T = Unit {0}} (Err NoMemory) (outside input output old link steps)
    (recording slow es)
    (outside input output new link steps)) (sym same) (none_done input output old link (recording slow es) refl)

pub returns-in-Err-Journal-clause-does : goal.returns-in-Err-Journal-clause-does
returns-in-Err-Journal-clause-does g c slow es are ruled has input output link steps =
    let append = c.in-Err-Journal.ensures in
    let failed = ap failed_as c.in-Err-Journal.field-0-is in
    does_as (some_recorded slow es c.args.records are (sym c.if-is_empty.ensures))
    (torn_record _ _ append.called failed input output link steps (log_end slow) slow.held es
    (left_torn slow es _ _ _ has ruled append.called.was (λ t. append.torn failed t slow.held es are))
    (crash_torn slow es _ _ _ has ruled append.called.was (λ t. append.torn failed t slow.held es are)))
