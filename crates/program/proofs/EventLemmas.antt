-- How the events of a run are put together.
use Rattle.std.proofs.Common.{◌≡◌, ℕ, Bool, true, false, List, [], ◌∷◌, Option, None, Some, Ok, Err, refl, subst, sym}
use Rattle.program_lines.specs.declared.fault.LineFault.{LineFault}
use Rattle.program.specs.declared.device.FileFault.{FileFault}
use Rattle.program.specs.declared.device.FileFault.TheVariants.{Missing, Failed, NoMemory}
use Rattle.program.specs.declared.device.Stream.{Stream}
use Rattle.program.specs.declared.device.Stream.TheVariants.{Answers, Faults}
use Rattle.program.specs.Events.{Event, read, stored, wrote, printed, connected, opened, Does, Runs}
use Rattle.program.specs.Reports.{ended, status_after, IsReported, IsFileReported, IsFailureReported, IsPrinted}
use Rattle.program.specs.Courses.{Course, Reads, ReadsIfNamed, ReadsIfThere, GoesOnIfThere, Stores, Connects, OpensIfNamed, Announces, WarnsIf}
use Rattle.program.specs.inner.Served.{IsWarned}
use Rattle.program.specs.inner.FileReads.{IsFound, IsUnread, IsUnreadIfNamed, IsFailedRead, found_as}

pub failed_there : Failed ≡ Missing → ⊥
failed_there e = absurd cc

pub memory_there : NoMemory ≡ Missing → ⊥
memory_there e = absurd cc

module _ {L G N H : Type 0} (does : H → Event L G N → H → Type 0) where
  -- a line is written
  pub told : (old new : H) (stream : Stream) (line : List ℕ) (done : Bool) (status end : ℕ)
      → does old (wrote stream (ended line) done) new → end ≡ status_after done status
      → Runs does old new (λ events. IsReported stream line status events end)
  told old new stream line done status end step is = (wrote stream (ended line) done ∷ [], (new, step, refl), (done, refl, is))

  -- help or a fault of the words is written
  pub printed_as : (old new : H) (stream : Stream) (fault : LineFault) (done : Bool) (status end : ℕ)
      → does old (printed stream fault done) new → end ≡ status_after done status
      → Runs does old new (λ events. IsPrinted stream fault status events end)
  printed_as old new stream fault done status end step is = (printed stream fault done ∷ [], (new, step, refl), (done, refl, is))

  -- the same, described in another way
  pub runs_as : (old new : H) (P Q : List (Event L G N) → Type 0) → ((events : List (Event L G N)) → P events → Q events) → Runs does old new P → Runs does old new Q
  runs_as old new P Q f run = (run.0, run.1, f run.0 run.2)

  -- one event more, before the others
  step_on : (old next new : H) (event : Event L G N) (P : List (Event L G N) → Type 0) → does old event next → Runs does next new P
      → Runs does old new (λ events. (rest : List (Event L G N)) × (events ≡ event ∷ rest) × P rest)
  step_on old next new event P step run = (event ∷ run.0, (next, step, run.1), (run.0, refl, run.2))

  -- a file is read, and the run goes on
  pub reads_on : (old next new : H) (name bytes : List ℕ) (goes_on : List ℕ → Course L G N) (end : ℕ)
      → does old (read name (Ok bytes)) next → Runs does next new (λ events. goes_on bytes events end)
      → Runs does old new (λ events. Reads name goes_on events end)
  reads_on old next new name bytes goes_on end step run =
      (read name (Ok bytes) ∷ run.0, (next, step, run.1), (Ok bytes, run.0, refl, run.2))

  -- a file was not read
  pub reads_none : (old new : H) (name : List ℕ) (goes_on : List ℕ → Course L G N) (end : ℕ)
      → Runs does old new (λ events. IsUnread name events end)
      → Runs does old new (λ events. Reads name goes_on events end)
  reads_none old new name goes_on end run = (run.0, run.1, (Err run.2.0, run.2.1, run.2.2, run.2.3))

  -- the same, of a file that need not be named
  pub named_on : (old next new : H) (name found : Option (List ℕ)) (goes_on : Option (List ℕ) → Course L G N) (end : ℕ)
      → IsFound does name found old next → Runs does next new (λ events. goes_on found events end)
      → Runs does old new (λ events. ReadsIfNamed name goes_on events end)
  named_on old next new None None goes_on end step run = subst (λ (h : H). Runs does h new (λ events. goes_on None events end)) step run
  named_on old next new None (Some bytes) goes_on end step run = absurd step
  named_on old next new (Some name) None goes_on end step run = absurd step
  named_on old next new (Some name) (Some bytes) goes_on end step run = reads_on old next new name bytes (λ held. goes_on (Some held)) end step run

  pub named_none : (old new : H) (name : Option (List ℕ)) (goes_on : Option (List ℕ) → Course L G N) (end : ℕ)
      → Runs does old new (λ events. IsUnreadIfNamed name events end)
      → Runs does old new (λ events. ReadsIfNamed name goes_on events end)
  named_none old new None goes_on end run = absurd run.2
  named_none old new (Some name) goes_on end run = reads_none old new name (λ held. goes_on (Some held)) end run

  -- why a file was not read is told
  pub unread : (old next new : H) (name : List ℕ) (fault : FileFault) (end : ℕ) → does old (read name (Err fault)) next
      → Runs does next new (λ events. IsFileReported name fault events end) → Runs does old new (λ events. IsUnread name events end)
  unread old next new name fault end step run =
      (read name (Err fault) ∷ run.0, (next, step, run.1), (fault, run.0, refl, run.2))

  pub unread_there : (old next new : H) (name : List ℕ) (fault : FileFault) (end : ℕ) → (fault ≡ Missing → ⊥) → does old (read name (Err fault)) next
      → Runs does next new (λ events. IsFileReported name fault events end) → Runs does old new (λ events. IsFailedRead name events end)
  unread_there old next new name fault end there step run =
      (read name (Err fault) ∷ run.0, (next, step, run.1), (fault, run.0, there, refl, run.2))

  pub unread_as : (old next new : H) (name : List ℕ) (field fault : FileFault) (end : ℕ) → field ≡ fault → (fault ≡ Missing → ⊥)
      → does old (read name (Err field)) next → Runs does next new (λ events. IsFileReported name fault events end)
      → Runs does old new (λ events. IsFailedRead name events end)
  unread_as old next new name field fault end is there step run =
      unread_there old next new name fault end there (subst (λ (f : FileFault). does old (read name (Err f)) next) is step) run

  -- a file that need not be there is read, or is not there, and the run goes on
  pub there_on : (old next new : H) (name : List ℕ) (found : Option (List ℕ)) (goes_on : Option (List ℕ) → Course L G N) (end : ℕ)
      → does old (read name (found_as found)) next → Runs does next new (λ events. goes_on found events end)
      → Runs does old new (λ events. ReadsIfThere name goes_on events end)
  there_on old next new name None goes_on end step run =
      (read name (Err Missing) ∷ run.0, (next, step, run.1), (Err Missing, run.0, refl, run.2))
  there_on old next new name (Some bytes) goes_on end step run =
      (read name (Ok bytes) ∷ run.0, (next, step, run.1), (Ok bytes, run.0, refl, run.2))

  unread_goes : (name : List ℕ) (goes_on : Option (List ℕ) → Course L G N) (fault : FileFault) (events : List (Event L G N)) (end : ℕ)
      → (fault ≡ Missing → ⊥) → IsFileReported name fault events end → GoesOnIfThere name goes_on (Err fault) events end
  unread_goes name goes_on Missing events end there told = absurd (there refl)
  unread_goes name goes_on Failed events end there told = told
  unread_goes name goes_on NoMemory events end there told = told

  pub there_none : (old new : H) (name : List ℕ) (goes_on : Option (List ℕ) → Course L G N) (end : ℕ)
      → Runs does old new (λ events. IsFailedRead name events end)
      → Runs does old new (λ events. ReadsIfThere name goes_on events end)
  there_none old new name goes_on end run =
      (run.0, run.1, (Err run.2.0, run.2.1, run.2.3, unread_goes name goes_on run.2.0 run.2.1 end run.2.2 run.2.4))

  -- a file is written, and the run goes on, or it was not
  pub stores_on : (old next new : H) (name bytes : List ℕ) (done : Unit {0}) (goes_on : Course L G N) (end : ℕ)
      → does old (stored name bytes (Ok done)) next → Runs does next new (λ events. goes_on events end)
      → Runs does old new (λ events. Stores name bytes goes_on events end)
  stores_on old next new name bytes done goes_on end step run =
      (stored name bytes (Ok done) ∷ run.0, (next, step, run.1), (Ok done, run.0, refl, run.2))

  pub stores_none : (old next new : H) (name bytes : List ℕ) (fault : FileFault) (goes_on : Course L G N) (end : ℕ)
      → does old (stored name bytes (Err fault)) next → Runs does next new (λ events. IsFileReported name fault events end)
      → Runs does old new (λ events. Stores name bytes goes_on events end)
  stores_none old next new name bytes fault goes_on end step run =
      (stored name bytes (Err fault) ∷ run.0, (next, step, run.1), (Err fault, run.0, refl, run.2))

  -- a connection is opened, and the run goes on, or it could not be
  pub connects_on : (old next new : H) (address : List ℕ) (link : L) (goes_on : L → Course L G N) (end : ℕ)
      → does old (connected address (Some link)) next → Runs does next new (λ events. goes_on link events end)
      → Runs does old new (λ events. Connects address goes_on events end)
  connects_on old next new address link goes_on end step run =
      (connected address (Some link) ∷ run.0, (next, step, run.1), (Some link, run.0, refl, run.2))

  pub connects_none : (old next new : H) (address : List ℕ) (goes_on : L → Course L G N) (end : ℕ)
      → does old (connected address None) next → Runs does next new (λ events. IsFailureReported address events end)
      → Runs does old new (λ events. Connects address goes_on events end)
  connects_none old next new address goes_on end step run =
      (connected address None ∷ run.0, (next, step, run.1), (None, run.0, refl, run.2))

  -- a log is opened, and the run goes on with it, or it could not be, or none is named
  pub opened_on : (old next new : H) (named : Option (List ℕ)) (name : List ℕ) (log : G) (goes_on : Option G → Course L G N) (end : ℕ)
      → named ≡ Some name → does old (opened name (Some log)) next → Runs does next new (λ events. goes_on (Some log) events end)
      → Runs does old new (λ events. OpensIfNamed named goes_on events end)
  opened_on old next new named name log goes_on end is step run =
      subst (λ (o : Option (List ℕ)). Runs does old new (λ events. OpensIfNamed o goes_on events end)) (sym is)
      (opened name (Some log) ∷ run.0, (next, step, run.1), (Some log, run.0, refl, run.2))

  pub not_opened : (old next new : H) (named : Option (List ℕ)) (name : List ℕ) (goes_on : Option G → Course L G N) (end : ℕ)
      → named ≡ Some name → does old (opened name None) next → Runs does next new (λ events. IsFailureReported name events end)
      → Runs does old new (λ events. OpensIfNamed named goes_on events end)
  not_opened old next new named name goes_on end is step run =
      subst (λ (o : Option (List ℕ)). Runs does old new (λ events. OpensIfNamed o goes_on events end)) (sym is)
      (opened name None ∷ run.0, (next, step, run.1), (None, run.0, refl, run.2))

  pub none_opened : (old new : H) (named : Option (List ℕ)) (goes_on : Option G → Course L G N) (end : ℕ) → named ≡ None
      → Runs does old new (λ events. goes_on None events end) → Runs does old new (λ events. OpensIfNamed named goes_on events end)
  none_opened old new named goes_on end is run =
      subst (λ (o : Option (List ℕ)). Runs does old new (λ events. OpensIfNamed o goes_on events end)) (sym is) run

  -- a line could not be written, and the run ends
  pub announces_none : (old new : H) (line : List ℕ) (goes_on : Course L G N) (end : ℕ)
      → does old (wrote Answers (ended line) false) new → end ≡ 3
      → Runs does old new (λ events. Announces line goes_on events end)
  announces_none old new line goes_on end step is =
      (wrote Answers (ended line) false ∷ [], (new, step, refl), (false, [], refl, (refl, is)))

  -- a warning is written where it is due, whether or not the stream takes it, and the run goes on
  pub warned_on : (old next new : H) (due : Bool) (line : List ℕ) (goes_on : Course L G N) (end : ℕ)
      → Runs does old next (λ events. IsWarned due line events) → Runs does next new (λ events. goes_on events end)
      → Runs does old new (λ events. WarnsIf due line goes_on events end)
  warned_on old next new false line goes_on end warned run =
      let same = subst (λ (es : List (Event L G N)). Does does es old next) warned.2 warned.1 in
      subst (λ (h : H). Runs does h new (λ events. goes_on events end)) same run
  warned_on old next new true line goes_on end warned run =
      let step = subst (λ (es : List (Event L G N)). Does does es old next) warned.2.1 warned.1 in
      let event = wrote Faults (ended line) warned.2.0 in (
        event ∷ run.0,
        (step.0, step.1, subst (λ (h : H). Does does run.0 h new) step.2 run.1),
        (warned.2.0, run.0, refl, run.2),
      )

  -- one was due, or none
  pub warned_of : (old new : H) (due done : Bool) (line : List ℕ) → due ≡ true → does old (wrote Faults (ended line) done) new
      → Runs does old new (λ events. IsWarned due line events)
  warned_of old new false done line due step = absurd (cc)
  warned_of old new true done line due step = (wrote Faults (ended line) done ∷ [], (new, step, refl), (done, refl))

  pub not_warned_of : (old : H) (due : Bool) (line : List ℕ) → due ≡ false → Runs does old old (λ events. IsWarned due line events)
  not_warned_of old false line due = ([], refl, refl)
  not_warned_of old true line due = absurd (cc)
