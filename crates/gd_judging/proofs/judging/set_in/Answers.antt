use Rattle.std.proofs.Common.{◌∙◌, Ok, ap, refl, sym}
use Rattle.std.proofs.lemmas.Result.{err_from_is_err_and}
use Rattle.gd_slots.specs.Slots.{board_of}
use Rattle.gd_model.specs.Board.{listed}
use Rattle.gd_reference.specs.Judging.{target}
use Rattle.gd_base.specs.declared.op.Op.TheVariants.{Set}
use Rattle.gd_judging.specs.Targets.{told}
use Rattle.gd_judging.proofs.SetParts.{set-other, setting}
use Rattle.gd_judging.proofs.judging.set_in.Goals as goal
use Rattle.gd_judging.proofs.judging.set_in.Goals.{
  in-ToEnds+in_ok-reconnect-in-ToEnds,
  in_default+in_ok-if_had-in_default,
}

pub returns-in_err-reconnect-in-ToEnds : goal.returns-in_err-reconnect-in-ToEnds
returns-in_err-reconnect-in-ToEnds c =
    let p =
    err_from_is_err_and c.from_residual-in_err-reconnect-in-ToEnds.result
    c.from_residual-in_err-reconnect-in-ToEnds.ensures.1 in
    rw (c.in-ToEnds.is, p.1, p.2) (sym (c.in_err-reconnect-in-ToEnds.ensures c.args.id))

pub returns-in_err-if_had-in_default : goal.returns-in_err-if_had-in_default
returns-in_err-if_had-in_default c =
    let p =
    err_from_is_err_and c.from_residual-in_err-if_had-in_default.result
    c.from_residual-in_err-if_had-in_default.ensures.1 in
    let other =
    set-other (target (listed (board_of c.args.canvas.now))) c.args.id c.args.content.now (told c.args.shown.now)
    c.in_default.not-ToPlace c.in_default.not-ToEnds in
    rw (p.1, p.2) (other ∙ sym (c.in_err-if_had-in_default.ensures (setting c.args.id c.args.content.now)))

pub returns-in_err-content : goal.returns-in_err-content
returns-in_err-content c =
    let p =
    err_from_is_err_and c.from_residual-in_err-content.result c.from_residual-in_err-content.ensures.1 in
    elim c.match-content.branch [
      | in-ToEnds+in_ok-reconnect-in-ToEnds w ↦
          rw (p.1, p.2, w.in-ToEnds.is, ← w.in_ok-reconnect-in-ToEnds.ensures c.args.id) refl
      | in_default+in_ok-if_had-in_default w ↦
          let other =
          set-other (target (listed (board_of c.args.canvas.now))) c.args.id c.args.content.now (told c.args.shown.now)
          w.in_default.not-ToPlace w.in_default.not-ToEnds in
          rw (p.1, p.2, other, ← w.in_ok-if_had-in_default.ensures (setting c.args.id c.args.content.now)) refl
    ]

pub returns : goal.returns
returns c =
    elim c.match-content.branch [
      | in-ToEnds+in_ok-reconnect-in-ToEnds w ↦
          rw (c.in_ok-content.ensures, w.in-ToEnds.is) (sym (w.in_ok-reconnect-in-ToEnds.ensures c.args.id))
      | in_default+in_ok-if_had-in_default w ↦
          let other =
          set-other (target (listed (board_of c.args.canvas.now))) c.args.id c.args.content.now (told c.args.shown.now)
          w.in_default.not-ToPlace w.in_default.not-ToEnds in
          other ∙ sym (w.in_ok-if_had-in_default.ensures (setting c.args.id c.args.content.now))
          ∙ ap (λ k. Ok (Set c.args.id k)) (sym c.in_ok-content.ensures)
    ]
