use Rattle.std.proofs.Common.{[], ◌∷◌, refl}
use Rattle.gd_effects.proofs.OneRecord.{torn_record}
use Rattle.gd_node.proofs.Logs.{crash_torn, does_record, has_more, left_torn, one_place, standing}
use Rattle.gd_reference.specs.SlowSite.{journal_header, log_end}
use Rattle.gd_node.proofs.journalling.record.Goals as goal

pub append-requires-clause-log : goal.append-requires-clause-log
append-requires-clause-log g c t = let r = c.requires in standing (journal_header r.0) r.0.held _ _ r.2 t

pub returns-in-Ok-clause-does : goal.returns-in-Ok-clause-does
returns-in-Ok-clause-does g c slow ruled has input output link steps =
    let append = c.in-Ok.ensures in
    does_record slow (c.args.event.now ∷ []) _ _ _ has ruled append.called.was
    (λ t. append.adds t slow.held has.chained)
    append.called (λ t. append.added t slow.held has.chained) input output link steps

pub returns-in-Ok-clause-log : goal.returns-in-Ok-clause-log
returns-in-Ok-clause-log g c slow ruled has =
    let append = c.in-Ok.ensures in
    has_more slow (c.args.event.now ∷ []) _ _ _ has ruled append.called.was (λ t. append.adds t slow.held has.chained) _
    (one_place slow.held c.args.event.now _ _ (append.place slow.held has.chained))
    (append.chained slow.held has.chained)

pub returns-in-Err-clause-does : goal.returns-in-Err-clause-does
returns-in-Err-clause-does g c slow ruled has input output link steps =
    let append = c.in-Err.ensures in
    let es = c.args.event.now ∷ [] in
    torn_record _ _ append.called refl input output link steps (log_end slow) slow.held es
    (left_torn slow es _ _ _ has ruled append.called.was (λ t. append.torn t slow.held has.chained))
    (crash_torn slow es _ _ _ has ruled append.called.was (λ t. append.torn t slow.held has.chained))
