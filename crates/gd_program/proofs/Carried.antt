-- What the runs of the commands leave, and that the headline follows from it.
use Rattle.std.proofs.Common.{◌≡◌, ℕ, Bool, List, [], ◌∷◌, ◌⊎◌, inl, inr, ⊎_elim, refl, sym, ◌∙◌, ap, subst, arith}
use Rattle.std.specs.Prelude.{length, Option, Some, None, Result, Ok, Err, IsSome, ⊤}
use Rattle.gd_boarding.specs.Boarding.{board_end, boarded}
use Rattle.gd_commands.proofs.PlainForms.{plain_is_asked}
use Rattle.gd_commands.specs.Commands.{command_of}
use Rattle.gd_commands.specs.Plain.{IsPlain, Plain, plain_command, plain_words}
use Rattle.gd_effects.proofs.Doing.{did_nothing, none_fell, was_told}
use Rattle.gd_effects.proofs.RunEnds.{ends_most, ends_printed, ends_when}
use Rattle.gd_effects.specs.Done.{Journals}
use Rattle.gd_effects.specs.Effects.{Print}
use Rattle.gd_effects.specs.Endings.{Causes, EndsAs, IfUnopened, IsUncut, Unread, no_effects, early_status, status_of}
use Rattle.gd_effects.specs.Outside.{IsTold, Outside, outside}
use Rattle.gd_effects.specs.Prints.{Prints}
use Rattle.gd_lines.specs.Replies.{usage_line}
use Rattle.gd_node.specs.Configs.{ConfigValue}
use Rattle.gd_node.specs.Rejoining.{HoldsFound, IsRejoinEnd, IsRenamed, IsToldAll, KeepsFound, OnceFound, OnlySynced}
use Rattle.gd_node.specs.Rejoining.{found_in, left_found, rejoins, rejoins_for_part}
use Rattle.gd_node.specs.Serving.{Holds, IsNamed, IsNodeEnd, KeepsBegun, OnceLogged, OnlyOpened, begun_site, header_of}
use Rattle.gd_node.specs.Serving.{left_by, served, served_of_part}
use Rattle.gd_asked.specs.declared.command.Command.{Command}
use Rattle.gd_asked.specs.declared.command.Command.TheVariants.{Replay, Upgrade, Snapshot, View, Board, Node, Rejoin}
use Rattle.gd_asked.specs.declared.command.Command.TheVariants.{Rehearse, Churn}
use Rattle.gd_options.specs.declared.format.Format.{Format}
use Rattle.gd_outside.proofs.ToldLemmas.{grows_nothing}
use Rattle.gd_outside.specs.Seen.{SeenSource, SeenSink, SeenJournal, SeenLink}
use Rattle.gd_outside.specs.Told.{told}
use Rattle.gd_outside.specs.declared.end.End.{End}
use Rattle.gd_outside.specs.declared.end.End.TheVariants as early
use Rattle.gd_outside.specs.declared.status.Status.{Status}
use Rattle.gd_outside.specs.declared.status.Status.TheVariants.{Done, Usage, ReadFault, WriteFault, JournalFault}
use Rattle.gd_outside.specs.declared.status.Status.TheVariants.{LinkFault, NoMemory}
use Rattle.gd_protocol.proofs.NodeJournals.{journal_of_node}
use Rattle.gd_reference.specs.InputLines.{whole_lines}
use Rattle.gd_reference.specs.NodeRun.{end_after, node_lines}
use Rattle.gd_reference.specs.Rejoin.{rejoined_end}
use Rattle.gd_reference.specs.SlowRun.{IsReaderEnd, ended_by, upgraded_log}
use Rattle.gd_reference.specs.UptoFault.{replayed_by}
use Rattle.gd_run.specs.Runs.{cut_of, effects_of, found_by}
use Rattle.gd_viewing.specs.Snapshotting.{snapshotted}
use Rattle.gd_viewing.specs.Viewing.{view_cut, view_effects, view_end}
use Rattle.gd_watch.specs.Ends.{IsViewEnd}
use Rattle.gd_world.specs.Rehearsing.{IsChurnEnd, IsRehearsalEnd}
use Rattle.gd_worlds.specs.Churn.{churn_effects}
use Rattle.gd_worlds.specs.Rehearsal.{rehearsal_effects, rehearsal_end, rehearsal_lines}
use Rattle.gd_program.proofs.Rejoined.{closes_found, is_unread}
use Rattle.gd_program.proofs.Sentences.{completes, did_whole, left_at, unopened_at}
use Rattle.gd_program.specs.Carrying.{Carried}
use Rattle.gd_program.specs.Commands.{HasLogOf, HoldsLogOf, IfBegun, IsEnd, IsSilentEnd, IsUnread, Keeps, Named}
use Rattle.gd_program.specs.Commands.{OpensFirst, Silent, Untouched, config}
use Rattle.gd_program.specs.Headline.{Headline}
use Rattle.gd_program.specs.Runs.{IsToldFor, Run, Told, Whole, asked, contents, entries, input, owed, owed_for_part}
use Rattle.gd_program.specs.Runs.{owed_status}

-- a node's header begins its journal anew, so nothing counts that stood in it; one that goes on keeps what it has found
log_of : (run : Run) → Whole run → Carried (asked run) run.status run.before run.after
    → Journals run.before.journal (owed run) run.after.journal
    → HasLogOf (asked run) (contents run) (input run) (entries run) run.after.journal
log_of run w h journal = go (asked run) w.0 h.keeps journal
  where
    go : (k : Option Command) → IsToldFor k run.after → Keeps k run.status run.before run.after
        → Journals run.before.journal (effects_of k (contents run) (input run) (entries run)) run.after.journal
        → HasLogOf k (contents run) (input run) (entries run) run.after.journal
    go (Some (Node session site journal addresses)) told keeps is = λ some.
        is.now some ∙ journal_of_node
        (record {
          me = site;
          sites = length addresses;
          session = session;
          entries = entries run;
          lines
              = node_lines (input run);
        })
    go (Some (Rejoin session site journal addresses)) told keeps is =
        closes_found (config session site journal addresses) (found_by session site addresses (contents run))
        (entries run) (input run) run.status run.before run.after w.1 told keeps
    go other told keeps is = tt

-- a command isn't refused
not_refused : (command : Command) → IsEnd (Some command) Usage → ⊥
not_refused View end = end
not_refused (Node session site journal addresses) end = end
not_refused (Rejoin session site journal addresses) end = end
not_refused (Rehearse sites) end = end
not_refused (Churn seed steps) end = end
not_refused other end = end

not_usage : (run : Run) → IsEnd (asked run) run.status → (p : Plain) → IsPlain p → run.words ≡ plain_words p
    → run.status ≡ Usage → ⊥
not_usage run kind p is words usage =
    let same : asked run ≡ Some (plain_command p) = ap command_of words ∙ plain_is_asked p is in
    not_refused (plain_command p) (subst (λ k. IsEnd k Usage) same (subst (IsEnd (asked run)) usage kind))

module _ (run : Run) (h : Carried (asked run) run.status run.before run.after) where
  -- the run did what it owes, or a part of it
  headline_done : EndsAs (Told run) (owed run) (owed_for_part run) (owed_status run) run.status run.before run.after
      → Headline run
  headline_done ends = record {
    status = λ w. (did_whole run.status ends w.0 w.1).1;
    output = λ w. (did_whole run.status ends w.0 w.1).0.output;
    journal = λ w. (did_whole run.status ends w.0 w.1).0.journal;
    log = λ w. log_of run w h (did_whole run.status ends w.0 w.1).0.journal;
    frames = λ w. (did_whole run.status ends w.0 w.1).0.tried;
    left = λ w. h.left w.0 w.1;
    steps = λ w. (did_whole run.status ends w.0 w.1).0.steps;
    memory = λ t is. left_at ends NoMemory is t;
    read = λ t is. left_at ends ReadFault is t;
    write = λ t is. left_at ends WriteFault is t;
    torn = λ t is. inl (left_at ends JournalFault is t);
    unopened = unopened_at ends;
    opens_first = h.opens_first;
    keeps = h.keeps;
    holds = h.holds;
    most_steps = λ t. ends_most run.status _ ends t;
    cause = ends.cause;
    counts = ends.counts;
    complete = completes run.status ends;
    ends = h.kind;
    plain = not_usage run h.kind;
    untouched = h.untouched;
    silent = h.silent;
    named = h.named;
  }

  -- its journal failed before anything was found in it
  headline_unread : IsUnread (asked run) run.status run.before run.after → Headline run
  headline_unread is =
      let u = is_unread (asked run) run.status run.before run.after is in
      let cut : IsUncut run.status → ⊥ = λ uncut. subst IsUncut u.failed uncut in
      record {
        status = λ w. absurd (cut w.1);
        output = λ w. absurd (cut w.1);
        journal = λ w. absurd (cut w.1);
        log = λ w. absurd (cut w.1);
        frames = λ w. absurd (cut w.1);
        left = λ w. absurd (cut w.1);
        steps = λ w. absurd (cut w.1);
        memory = λ t e. absurd (let no : JournalFault ≡ NoMemory = sym u.failed ∙ e in cc);
        read = λ t e. absurd (let no : JournalFault ≡ ReadFault = sym u.failed ∙ e in cc);
        write = λ t e. absurd (let no : JournalFault ≡ WriteFault = sym u.failed ∙ e in cc);
        torn = λ t e. inr is;
        unopened = λ e. absurd (let no : JournalFault ≡ LinkFault = sym u.failed ∙ e in cc);
        opens_first = h.opens_first;
        keeps = h.keeps;
        holds = h.holds;
        most_steps = λ t. omega (arith, u.did.steps);
        cause = subst (λ s. Causes s run.before run.after) (sym u.failed) u.cause;
        counts = u.counts;
        complete = λ t i o j l. absurd (j u.cause);
        ends = h.kind;
        plain = not_usage run h.kind;
        untouched = h.untouched;
        silent = h.silent;
        named = h.named;
      }

pub headline : (run : Run) → Carried (asked run) run.status run.before run.after → Headline run
headline run h = ⊎_elim (headline_done run h) (headline_unread run h) h.ends

pub headline_for : (run : Run) {known : Option Command} → command_of run.words ≡ known
    → Carried known run.status run.before run.after → Headline run
headline_for run e h = headline run (subst (λ k. Carried k run.status run.before run.after) (sym e) h)

-- ---- memory ran out before anything was done

-- so the link is opened at most, and the journal read
opened_none : (o : Outside) → OnlyOpened o o
opened_none o =
    record { input = refl; output = refl; entries = grows_nothing o.link.entries; tried = grows_nothing o.link.tried }

synced_none : (j : SeenJournal) → OnlySynced j j
synced_none j = record { contents = grows_nothing j.contents; images = λ t. inl refl }

unmoved : (asked : Option Command) (o : Outside)
    → IsEnd asked NoMemory × Untouched asked o o × Silent asked NoMemory o o × Named asked NoMemory o o
    × Keeps asked NoMemory o o × HoldsLogOf asked NoMemory o o
unmoved None o = (tt, (refl, refl, refl, refl), (λ s. refl, λ s. refl), tt, tt, tt)
unmoved (Some View) o = (tt, (refl, refl), tt, tt, tt, tt)
unmoved (Some (Node session site journal addresses)) o =
    (tt, tt, tt, inl refl, inl (opened_none o, refl, refl), inl (opened_none o, refl, refl))
unmoved (Some (Rejoin session site journal addresses)) o =
    (tt, tt, tt, inl refl, inl (opened_none o, synced_none o.journal), inl (opened_none o, synced_none o.journal))
unmoved (Some (Rehearse sites)) o = (tt, (refl, refl), tt, tt, tt, tt)
unmoved (Some (Churn seed steps)) o = (tt, (refl, refl, refl), (λ s. refl, λ s. refl), tt, tt, tt)
unmoved (Some other) o = (tt, (refl, refl), (λ s. refl, λ s. refl), tt, tt, tt)

pub carried_not : (asked : Option Command) (o : Outside) → Carried asked NoMemory o o
carried_not asked o =
    let same = unmoved asked o in
    record {
      ends = inl (record {
        counts = none_fell o;
        cause = tt;
        unopened = tt;
        was = was_told o;
        leaves
            = λ t. record { front = []; back = _; split = refl; did = did_nothing o };
      });
      kind = same.0;
      untouched = same.1;
      silent = same.2;
      named = same.3;
      keeps = same.4;
      holds = same.5;
      left = λ t u. absurd u;
      opens_first = tt;
    }

-- ---- it was said how the program is called

-- its status isn't one of memory, a read or the link
abbrev IsRefusal : Outside → Outside → Status → Type 0
IsRefusal a b s = IsEnd None s × ¬ IsSilentEnd s × OpensFirst s a b

is_refusal : (a b : Outside) (r : Result ⊤ End) → ((e : End) → r ≡ Err e → e ≡ early.WriteFault)
    → IsRefusal a b (status_of r Usage)
is_refusal a b (Ok x) only = (tt, λ s. s, tt)
is_refusal a b (Err e) only = subst (λ z. IsRefusal a b (early_status z)) (sym (only e refl)) (tt, λ s. s, tt)

pub carried_refused : {old new : SeenSink} (line : List ℕ) (r : Result ⊤ End) → line ≡ usage_line
    → ((e : End) → r ≡ Err e → e ≡ early.WriteFault) → Prints old (Print line ∷ []) r new
    → (input : SeenSource) (journal : SeenJournal) (link : SeenLink) (steps : ℕ)
    → Carried None (status_of r Usage) (outside input old journal link steps) (outside input new journal link steps)
carried_refused {old} {new} line r is only p input journal link steps =
    let kind = is_refusal (outside input old journal link steps) (outside input new journal link steps) r only in
    record {
      ends = inl (ends_when (λ t. t) (λ t. (ap (λ (l : List ℕ). Print l ∷ []) (sym is), refl))
          (ends_printed (cut_of None (told journal.contents) (told link.entries)) (omega arith) (λ t. t) r Usage tt
          (λ input journal link. p input journal link steps)));
      kind = kind.0;
      untouched = (refl, refl, refl, refl);
      silent = (λ s. absurd (kind.1 s), λ s. refl);
      named = tt;
      keeps = tt;
      holds = tt;
      left = λ t u. refl;
      opens_first = kind.2;
    }

-- ---- a log was read

silent_by : (s : Status) → IsSilentEnd s → (s ≡ ReadFault) ⊎ (s ≡ NoMemory)
silent_by ReadFault silent = inl refl
silent_by NoMemory silent = inr refl
silent_by other silent = absurd silent

opens_none : (a b : Outside) (s : Status) → ¬ (s ≡ LinkFault) → OpensFirst s a b
opens_none a b LinkFault not = absurd (not refl)
opens_none a b other not = tt

module _ {input input' : SeenSource} {output output' : SeenSink} (journal : SeenJournal) (link : SeenLink) (s : Status)
    (kind : IsReaderEnd s)
    (silent : (s ≡ ReadFault) ⊎ (s ≡ NoMemory) → output' ≡ output) where
  pub carried_replay : {steps steps' : ℕ} (format : Format) (counts upto : Bool) → (s ≡ ReadFault → steps' ≡ steps)
      → EndsAs (IsSome input'.left) (replayed_by upto format counts (told input.left)) no_effects
      (ended_by (told input.left)) s (outside input output journal link steps)
      (outside input' output' journal link steps')
      → Carried (Some (Replay format counts upto)) s (outside input output journal link steps)
      (outside input' output' journal link steps')
  carried_replay format counts upto unread ends = record {
    ends = inl ends;
    kind = kind;
    untouched = (refl, refl);
    silent = (λ q. silent (silent_by s q), unread);
    named = tt;
    keeps = tt;
    holds = tt;
    left = λ t u. refl;
    opens_first = opens_none _ _ s (λ e. subst IsReaderEnd e kind);
  }

  pub carried_upgrade : {steps : ℕ}
      → EndsAs (IsSome input'.left) (upgraded_log (told input.left)) no_effects (ended_by (told input.left)) s
      (outside input output journal link steps) (outside input' output' journal link steps)
      → Carried (Some Upgrade) s (outside input output journal link steps) (outside input' output' journal link steps)
  carried_upgrade ends = record {
    ends = inl ends;
    kind = kind;
    untouched = (refl, refl);
    silent = (λ q. silent (silent_by s q), λ q. refl);
    named = tt;
    keeps = tt;
    holds = tt;
    left = λ t u. refl;
    opens_first = opens_none _ _ s (λ e. subst IsReaderEnd e kind);
  }

  pub carried_snapshot : {steps steps' : ℕ} → (s ≡ ReadFault → steps' ≡ steps)
      → EndsAs (IsSome input'.left) (snapshotted (told input.left)) no_effects (ended_by (told input.left)) s
      (outside input output journal link steps) (outside input' output' journal link steps')
      → Carried (Some Snapshot) s (outside input output journal link steps) (outside input' output' journal link steps')
  carried_snapshot unread ends = record {
    ends = inl ends;
    kind = kind;
    untouched = (refl, refl);
    silent = (λ q. silent (silent_by s q), unread);
    named = tt;
    keeps = tt;
    holds = tt;
    left = λ t u. refl;
    opens_first = opens_none _ _ s (λ e. subst IsReaderEnd e kind);
  }

  pub carried_board : {steps steps' : ℕ} (counts : Bool) → (s ≡ ReadFault → steps' ≡ steps)
      → EndsAs (IsSome input'.left) (boarded counts (told input.left)) no_effects (board_end (told input.left)) s
      (outside input output journal link steps) (outside input' output' journal link steps')
      → Carried (Some (Board counts)) s (outside input output journal link steps)
      (outside input' output' journal link steps')
  carried_board counts unread ends = record {
    ends = inl ends;
    kind = kind;
    untouched = (refl, refl);
    silent = (λ q. silent (silent_by s q), unread);
    named = tt;
    keeps = tt;
    holds = tt;
    left = λ t u. refl;
    opens_first = opens_none _ _ s (λ e. subst IsReaderEnd e kind);
  }

-- ---- a snapshot was looked at

module _ {input input' : SeenSource} {output output' : SeenSink} (journal : SeenJournal) (link : SeenLink)
    {steps steps' : ℕ} (s : Status) where
  pub carried_view : IsViewEnd s
      → EndsAs (IsSome input'.left) (view_effects (told input.left)) view_cut (view_end (told input.left)) s
      (outside input output journal link steps) (outside input' output' journal link steps')
      → Carried (Some View) s (outside input output journal link steps) (outside input' output' journal link steps')
  carried_view kind ends = record {
    ends = inl ends;
    kind = kind;
    untouched = (refl, refl);
    silent = tt;
    named = tt;
    keeps = tt;
    holds = tt;
    left = λ t u. refl;
    opens_first = opens_none _ _ s (λ e. subst IsViewEnd e kind);
  }

-- ---- a node ran

abbrev node_of : ConfigValue → Command
node_of c = Node c.session c.me c.journal c.addresses

abbrev rejoin_of : ConfigValue → Command
rejoin_of c = Rejoin c.session c.me c.journal c.addresses

module _ (a b : Outside) where
  begun : {P : Type 0} (s : Status) → P → IfBegun s a b P
  begun NoMemory p = inr p
  begun other p = p

  -- where the link wasn't opened, no step was taken either
  opens_first : (s : Status) → (s ≡ LinkFault → (b.input ≡ a.input) × (b.output ≡ a.output) × (b.journal ≡ a.journal))
      → IfUnopened s a b → OpensFirst s a b
  opens_first LinkFault same h = let kept = same refl in (kept.0, kept.1, kept.2, omega (arith, h.did.steps))
  opens_first other same h = tt

  pub carried_node : (c : ConfigValue) (s : Status) → IsNodeEnd s → IsNamed c s a b
      → OnceLogged s a b (KeepsBegun c (told a.link.entries) (told a.input.left) s a b)
      → OnceLogged s a b (Holds (header_of c) [] b.journal)
      → (IsUncut s → IsTold b → told b.link.entries ≡ left_by (begun_site c) (told a.link.entries) (told a.input.left))
      → (s ≡ LinkFault → (b.input ≡ a.input) × (b.output ≡ a.output) × (b.journal ≡ a.journal))
      → EndsAs (IsTold b) (served c (told a.link.entries) (told a.input.left)) (served_of_part c (told a.link.entries))
      (end_after (node_lines (told a.input.left))) s a b
      → Carried (Some (node_of c)) s a b
  carried_node c s kind named keeps holds left untouched ends = record {
    ends = inl ends;
    kind = kind;
    untouched = tt;
    silent = tt;
    named = begun s named;
    keeps = keeps;
    holds = holds;
    left = λ t u. left u t;
    opens_first = opens_first s untouched ends.unopened;
  }

  pub carried_rejoin : (c : ConfigValue) (s : Status) → IsRejoinEnd s
      → let there = found_in c (told a.journal.contents) in let entries = told a.link.entries
      in let bytes = told a.input.left in
      IsRenamed c there s a b
      → OnceFound s a b (IsToldAll b → KeepsFound c there entries bytes s a b)
      → OnceFound s a b (IsSome b.journal.contents → HoldsFound c there b.journal)
      → (IsUncut s → IsToldAll b → told b.link.entries ≡ left_found c there entries bytes)
      → (s ≡ LinkFault → (b.input ≡ a.input) × (b.output ≡ a.output) × (b.journal ≡ a.journal))
      → EndsAs (IsToldAll b) (rejoins c there entries bytes) (rejoins_for_part c there entries)
      (rejoined_end there (node_lines bytes)) s a b ⊎ Unread s a b
      → Carried (Some (rejoin_of c)) s a b
  carried_rejoin c s kind named keeps holds left untouched ends = record {
    ends = ends;
    kind = kind;
    untouched = tt;
    silent = tt;
    named = begun s named;
    keeps = keeps;
    holds = holds;
    left = λ t u. left u t;
    opens_first = ⊎_elim (λ done. opens_first s untouched done.unopened)
        (λ unread. subst (λ z. OpensFirst z a b) (sym unread.failed) tt) ends;
  }

-- ---- a session was played

-- a churn reads nothing
unread : (s : Status) → IsChurnEnd s → ¬ (s ≡ ReadFault)
unread s kind e = subst IsChurnEnd e kind

churn_silent : (s : Status) → IsChurnEnd s → IsSilentEnd s → s ≡ NoMemory
churn_silent ReadFault kind silent = absurd kind
churn_silent NoMemory kind silent = refl
churn_silent other kind silent = absurd silent

module _ {input input' : SeenSource} {output output' : SeenSink} (journal : SeenJournal) (link : SeenLink)
    {steps steps' : ℕ} (s : Status) where
  pub carried_rehearse : (sites : ℕ) → IsRehearsalEnd s
      → EndsAs (IsSome input'.left) (rehearsal_effects sites (rehearsal_lines (told input.left)))
      (λ taken. rehearsal_effects sites (rehearsal_lines (whole_lines taken)))
      (rehearsal_end (rehearsal_lines (told input.left))) s (outside input output journal link steps)
      (outside input' output' journal link steps')
      → Carried (Some (Rehearse sites)) s (outside input output journal link steps)
      (outside input' output' journal link steps')
  carried_rehearse sites kind ends = record {
    ends = inl ends;
    kind = kind;
    untouched = (refl, refl);
    silent = tt;
    named = tt;
    keeps = tt;
    holds = tt;
    left = λ t u. refl;
    opens_first = opens_none _ _ s (λ e. subst IsRehearsalEnd e kind);
  }

module _ (input : SeenSource) {output output' : SeenSink} (journal : SeenJournal) (link : SeenLink) {steps steps' : ℕ}
    (s : Status) where
  pub carried_churn : (seed count : ℕ) → IsChurnEnd s → (s ≡ NoMemory → output' ≡ output)
      → EndsAs (Unit {0}) (churn_effects seed count) no_effects Done s (outside input output journal link steps)
      (outside input output' journal link steps')
      → Carried (Some (Churn seed count)) s (outside input output journal link steps)
      (outside input output' journal link steps')
  carried_churn seed count kind silent ends = record {
    ends = inl ends;
    kind = kind;
    untouched = (refl, refl, refl);
    silent = (λ q. silent (churn_silent s kind q), λ q. absurd (unread s kind q));
    named = tt;
    keeps = tt;
    holds = tt;
    left = λ t u. refl;
    opens_first = opens_none _ _ s (λ e. subst IsChurnEnd e kind);
  }

-- ---- by the command

-- a command in other words
pub carried_as : {command known : Command} {s : Status} {a b : Outside} → command ≡ known → Carried (Some known) s a b
    → Carried (Some command) s a b
carried_as {s = s} {a = a} {b = b} e h = subst (λ (k : Command). Carried (Some k) s a b) (sym e) h

-- the node of a config
pub named_node : {c : ConfigValue} {command : Command} (session site : ℕ) (journal : List ℕ) (addresses : List (List ℕ))
    → command ≡ Node session site journal addresses
    → c ≡ record { session = session; me = site; journal = journal; addresses = addresses } → command ≡ node_of c
named_node session site journal addresses e same = e ∙ sym (ap node_of same)

pub named_rejoin : {c : ConfigValue} {command : Command} (session site : ℕ) (journal : List ℕ)
    (addresses : List (List ℕ)) → command ≡ Rejoin session site journal addresses
    → c ≡ record { session = session; me = site; journal = journal; addresses = addresses } → command ≡ rejoin_of c
named_rejoin session site journal addresses e same = e ∙ sym (ap rejoin_of same)
