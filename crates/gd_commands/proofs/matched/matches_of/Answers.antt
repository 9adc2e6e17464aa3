use Rattle.std.proofs.Common.{◌≡◌, ◌∙◌, map}
use Rattle.clap.specs.Words.{app_of, fault_of, found_of, rows_of}
use Rattle.clap.specs.declared.error.kind.ErrorKind.TheVariants.{OutOfMemory}
use Rattle.gd_commands.proofs.Asked.{asked_where_refused, asked_where_taken, has_fault, simple_of}
use Rattle.gd_commands.proofs.matched.matches_of.Goals as goal

pub returns-in-Ok-clause-taken : goal.returns-in-Ok-clause-taken
returns-in-Ok-clause-taken g c = λ form is.
    let a = app_of c.args.command in
    asked_where_taken form a (map g.S.AsStr.text c.args.words.now) (rows_of (found_of c.in-Ok.matches)) is
    (c.in-Ok.ensures.kinds c.requires) (c.in-Ok.ensures.matches (simple_of a c.requires)).0

pub returns : goal.returns
returns g c =
    let a = app_of c.args.command in
    let words = map g.S.AsStr.text c.args.words.now in
    let other : c.kind.result ≡ OutOfMemory → ⊥ = c.in_default.not-OutOfMemory in
    record {
      taken = tt;
      refused = λ _ form is. asked_where_refused form a words is
          (has_fault (fault_of a words) c.in-Err.error (c.in-Err.ensures.kinds c.requires)
          (λ e. other (c.kind.ensures ∙ e)));
    }
