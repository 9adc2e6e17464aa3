-- How the logs in a journal are kept by calls, one behind the other, and by what the effects of a call do.
use Rattle.std.proofs.Common.{◌≡◌, ℕ, List, [], ◌∷◌, ◌++◌, sym, ◌∙◌, ap, subst, append_assoc}
use Rattle.std.specs.Prelude.{Result, Ok, Err, IsSome}
use Rattle.gd_dialogue.specs.Keeping.{HoldsLog, IsLogFrom, KeepsLogs, LogStays}
use Rattle.gd_effects.proofs.Crashing.{no_head_both, no_head_front}
use Rattle.gd_effects.specs.Crashes.{Adds, AddsTorn, IsReadWith, Stands}
use Rattle.gd_effects.specs.Done.{DidTornRecord, DidUntil, Does, HasNoHead, Journals}
use Rattle.gd_effects.specs.Effects.{Effect, Print, gestures, records}
use Rattle.gd_effects.specs.Gestures.{events_of}
use Rattle.gd_effects.specs.Outside.{IsTold, Outside}
use Rattle.gd_events.specs.Events.{Event}
use Rattle.gd_grammar.specs.Drawings.{drawings, log}
use Rattle.gd_grammar.specs.HeaderBytes.{Header}
use Rattle.gd_grammar.specs.LogBytes.{LogMisread}
use Rattle.gd_outside.proofs.DiskLemmas.{leaves_as, leaves_both, leaves_now}
use Rattle.gd_outside.specs.Seen.{SeenJournal}
use Rattle.gd_outside.specs.Told.{told}
use Rattle.gd_outside.specs.declared.end.End.{End}
use Rattle.gd_outside.specs.declared.end.End.TheVariants.{WriteFault, JournalFault}

-- ---- one behind the other

-- a journal that isn't touched
pub keeps_same : (journal : SeenJournal) → KeepsLogs journal journal
keeps_same journal = record {
  was = λ t. t;
  stays = λ t h first holds. record
      { holds = holds; moments = leaves_now journal.disk (IsLogFrom h first) holds.images };
}

pub keeps_then : {a b c : SeenJournal} → KeepsLogs a b → KeepsLogs b c → KeepsLogs a c
keeps_then {a} {b} {c} p q = record {
  was = λ t. p.was (q.was t);
  stays = λ t h first holds.
      let one = p.stays (q.was t) h first holds in
      let two = q.stays t h first one.holds in
      record {
        holds = two.holds;
        moments
            = leaves_both a.disk b.disk c.disk (IsLogFrom h first) one.moments two.moments;
      };
}

-- ---- by what was added

abbrev log_or : Header × List Event → Result (Header × List Event) LogMisread → Header × List Event
log_or other (Ok found) = found
log_or other (Err fault) = other

module _ {header : Header} {held : List Event} {old : SeenJournal} (stands : Stands drawings header held old)
    {h : Header} {first : List Event} (holds : HoldsLog h first old) where
  -- what is read as the log that it stood for, with more behind it
  read_on : (bytes : List ℕ) (more : List Event) → log bytes ≡ Ok (header, held ++ more) → IsLogFrom h first bytes
  read_on bytes more read =
      let same = ap (log_or (h, [])) (sym stands.contents.read ∙ holds.contents.read) in
      record {
        more = holds.contents.more ++ more;
        read = read ∙ ap (λ (found : Header × List Event). Ok (found.0, found.1 ++ more)) same
            ∙ ap (λ es. Ok (h, es)) (append_assoc first holds.contents.more more);
      }

  stays_added : {new : SeenJournal} (added : List (List Event)) → Adds drawings header held added old new
      → LogStays h first old new
  stays_added {new} added adds = record {
    holds = record {
      contents = read_on (told new.contents) (events_of added) adds.stands.contents.read;
      images = λ image is. read_on image (events_of added) (adds.stands.images image is).read;
    };
    moments = leaves_as old.disk new.disk (IsReadWith drawings header held added) (IsLogFrom h first)
        (λ image r. read_on image (events_of r.front) r.read) adds.moments;
  }

  read_torn : (surely perhaps : List (List Event)) (bytes : List ℕ)
      → IsReadWith drawings header (held ++ events_of surely) perhaps bytes → IsLogFrom h first bytes
  read_torn surely perhaps bytes r =
      read_on bytes (events_of surely ++ events_of r.front)
      (r.read ∙ ap (λ es. Ok (header, es)) (append_assoc held (events_of surely) (events_of r.front)))

  stays_torn : {new : SeenJournal} (surely perhaps : List (List Event))
      → AddsTorn drawings header held surely perhaps old new → LogStays h first old new
  stays_torn {new} surely perhaps adds = record {
    holds = record {
      contents = read_torn surely perhaps (told new.contents) adds.contents;
      images = λ image is. read_torn surely perhaps image (adds.images image is);
    };
    moments = leaves_as old.disk new.disk (IsReadWith drawings header held (surely ++ perhaps)) (IsLogFrom h first)
        (λ image r. read_on image (events_of r.front) r.read) adds.moments;
  }

-- ---- by the effects of a call

module _ {header : Header} {held : List Event} {old : SeenJournal}
    (stands : IsSome old.contents → Stands drawings header held old) where
  keeps_journals : {new : SeenJournal} (xs : List Effect) → HasNoHead xs → Journals old xs new → KeepsLogs old new
  keeps_journals xs none did = record {
    was = did.was;
    stays = λ t h first holds.
        let stood = stands (did.was t) in
        stays_added stood holds (gestures xs) (did.crash t none header held stood);
  }

module _ {header : Header} {held : List Event} (a b : Outside)
    (stands : IsSome a.journal.contents → Stands drawings header held a.journal) where
  keeps_torn : (xs : List Effect) → HasNoHead xs → DidTornRecord a xs b → KeepsLogs a.journal b.journal
  keeps_torn xs none did = record {
    was = did.was;
    stays = λ t h first holds.
        let stood = stands (did.was t) in
        let front : HasNoHead (did.front ++ did.next ∷ []) = no_head_front (did.front ++ did.next ∷ []) did.back
        (subst HasNoHead (did.split ∙ sym (append_assoc did.front (did.next ∷ []) did.back)) none) in
        stays_torn stood holds (gestures did.front) (records did.next) (did.crash t front header held stood);
  }

  keeps_until : (e : End) (xs : List Effect) → HasNoHead xs → DidUntil e a xs b → KeepsLogs a.journal b.journal
  keeps_until WriteFault xs none did =
      let front = no_head_front did.front (Print (did.half ++ did.rest) ∷ did.back) (subst HasNoHead did.split none) in
      keeps_journals stands (did.front ++ Print did.half ∷ []) (no_head_both did.front (Print did.half ∷ []) front tt)
      did.did.journal
  keeps_until JournalFault xs none did = keeps_torn xs none did
  keeps_until e xs none did
      = keeps_journals stands did.front (no_head_front did.front did.back (subst HasNoHead did.split none))
      did.did.journal

  -- it began no journal anew where it stood for a log
  pub keeps_done : {T : Type 0} (r : Result T End) (xs : List Effect) → HasNoHead xs → Does r a xs b → IsTold b
      → KeepsLogs a.journal b.journal
  keeps_done (Ok v) xs none does t = keeps_journals stands xs none (does.done t).journal
  keeps_done (Err e) xs none does t = keeps_until e xs none (does.done t)
