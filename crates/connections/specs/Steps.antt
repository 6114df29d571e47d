-- Defines the steps of the one service and of the one log, as the entries of all connections take them.
-- Source: RFC 9112, section 9.3 (one after another, in order); docs/formats.md, "The log of a served site".
-- Rules of this product: all answered requests, of all connections, are one chain of steps of the service, which
-- commits the replies of a round before the log gets any of their lines; the log gets the lines in the order of the
-- answers.
use Rattle.std.specs.Prelude.{◌≡◌, ◌<◌, ◌⊎◌, ℕ, Bool, List, [], ◌∷◌, ◌++◌, length}
use Rattle.connections.specs.Connections.{AreChanges, Change, Connection, Entry, IsChange, MayAnswer}
use Rattle.connections.specs.Connections.{At, Committed, Uncommitted}
use Rattle.connections.specs.Connections.{Opened, Reserved, Came, Ended, Asked, Lacked}
use Rattle.connections.specs.Connections.{Answered, Logged, CutOff, Took, Gone}
use Rattle.connections.specs.Framing.{StaysUnfinished}

-- An `Answering S` relates a state of a service, the bytes of a request, whether the reply ends the connection, the
-- reply, and the state afterwards.
abbrev pub Answering : Type 0 → Type 1
Answering S = S → List ℕ → Bool → List ℕ → S → Type 0

-- A `LineRelation` relates a request, whether its reply ends the connection, the reply, and the line that the log may
-- get for them.
abbrev pub LineRelation : Type 1
LineRelation = List ℕ → Bool → List ℕ → List ℕ → Type 0

-- `answers` and `lines` are the relations of a service; `commits` and `commit_fails` relate its states around a commit
-- that succeeded, and around one that failed.
module _ {S : Type 0} (answers : Answering S) (lines : LineRelation) (commits commit_fails : S → S → Type 0) where
  -- `StepsAt old change new` holds if the service goes from `old` to `new` at a change of a connection: by an answer if
  -- the change is one, else it stays.
  abbrev pub StepsAt : S → Change → S → Type 0
  StepsAt old (Opened now) new = new ≡ old
  StepsAt old (Reserved now) new = new ≡ old
  StepsAt old (Came bytes now) new = new ≡ old
  StepsAt old Ended new = new ≡ old
  StepsAt old (Asked now) new = new ≡ old
  StepsAt old (Lacked needed) new = new ≡ old
  StepsAt old (Answered request closes reply line) new =
      answers old request closes reply new × lines request closes reply line
  StepsAt old (Logged line) new = new ≡ old
  StepsAt old (CutOff line) new = new ≡ old
  StepsAt old (Took bytes now) new = new ≡ old
  StepsAt old (Gone why) new = new ≡ old

  -- `Steps old e new` holds if the service goes from `old` to `new` at the entry `e`.
  abbrev pub Steps : S → Entry → S → Type 0
  Steps old (At at change) new = StepsAt old change new
  Steps old Committed new = commits old new
  Steps old Uncommitted new = commit_fails old new

  -- `IsTurn a old b new` holds if the service, going from `old` to `new`, answered one request of the connection `a`,
  -- which became `b`.
  pub record IsTurn (a : Connection) (old : S) (b : Connection) (new : S) : Type 0 where
    pub request : List ℕ
    pub closes : Bool
    pub reply : List ℕ
    pub line : List ℕ
    pub answered : StepsAt old (Answered request closes reply line) new
    pub changed : IsChange (Answered request closes reply line) a b

-- `IsIdle is_unfinished a b` holds if the connection `a` may not have a request answered, or has no whole one; and `b`
-- is `a`, which is known to have none; or the service found how many bytes it needs, which gives `b`.
pub record IsIdle (is_unfinished : List ℕ → Type 0) (a b : Connection) : Type 0 where
  pub none : MayAnswer a → is_unfinished a.input
  pub change : ((b ≡ a) × (MayAnswer a → length a.input < a.needed))
      ⊎ (IsChange (Lacked b.needed) a b × StaysUnfinished is_unfinished a.input b.needed)

-- `writes` and `cuts` relate the states of a log around a call that wrote a whole line, and around one that wrote only
-- a proper prefix of it.
module _ {L : Type 0} (writes cuts : L → List ℕ → L → Type 0) where
  -- `NotesAt old change new` holds if the log goes from `old` to `new` at a change of a connection: by a line or a
  -- prefix of one if the change is that, else it stays.
  abbrev pub NotesAt : L → Change → L → Type 0
  NotesAt old (Opened now) new = new ≡ old
  NotesAt old (Reserved now) new = new ≡ old
  NotesAt old (Came bytes now) new = new ≡ old
  NotesAt old Ended new = new ≡ old
  NotesAt old (Asked now) new = new ≡ old
  NotesAt old (Lacked needed) new = new ≡ old
  NotesAt old (Answered request closes reply line) new = new ≡ old
  NotesAt old (Logged line) new = writes old line new
  NotesAt old (CutOff line) new = cuts old line new
  NotesAt old (Took bytes now) new = new ≡ old
  NotesAt old (Gone why) new = new ≡ old

  -- `Notes old e new` holds if the log goes from `old` to `new` at the entry `e`.
  abbrev pub Notes : L → Entry → L → Type 0
  Notes old (At at change) new = NotesAt old change new
  Notes old Committed new = new ≡ old
  Notes old Uncommitted new = new ≡ old

-- `IsChain step entries old new` holds if `step` leads from the state `old` to `new`, by one step for each entry.
abbrev pub IsChain : {X : Type 0} → (X → Entry → X → Type 0) → List Entry → X → X → Type 0
IsChain step [] old new = new ≡ old
IsChain {X} step (e ∷ entries) old new = (mid : X) × step old e mid × IsChain step entries mid new

-- A `Line` is what the log is to get for the last reply at the slot `at`.
pub record Line : Type 0 where
  pub at : ℕ
  pub text : List ℕ

-- `NotesNext at line lines more` holds if the first of `lines` is `line`, of the slot `at`, and `more` are the rest.
abbrev pub NotesNext : ℕ → List ℕ → List Line → List Line → Type 0
NotesNext at line lines more = lines ≡ record { at = at; text = line } ∷ more

-- `IsLoggedAt at change lines more` holds if the log, which is to get `lines`, is to get `more` after the change at the
-- slot `at`: an answer adds its line; a whole line, or a proper prefix of it, is the next one.
abbrev pub IsLoggedAt : ℕ → Change → List Line → List Line → Type 0
IsLoggedAt at (Opened now) lines more = more ≡ lines
IsLoggedAt at (Reserved now) lines more = more ≡ lines
IsLoggedAt at (Came bytes now) lines more = more ≡ lines
IsLoggedAt at Ended lines more = more ≡ lines
IsLoggedAt at (Asked now) lines more = more ≡ lines
IsLoggedAt at (Lacked needed) lines more = more ≡ lines
IsLoggedAt at (Answered request closes reply line) lines more = more ≡ lines ++ record { at = at; text = line } ∷ []
IsLoggedAt at (Logged line) lines more = NotesNext at line lines more
IsLoggedAt at (CutOff line) lines more = NotesNext at line lines more
IsLoggedAt at (Took bytes now) lines more = more ≡ lines
IsLoggedAt at (Gone why) lines more = more ≡ lines

-- `IsLoggedNext e lines more` holds if the log, which is to get `lines`, is to get `more` after the entry `e`: nothing
-- after a commit that failed.
abbrev pub IsLoggedNext : Entry → List Line → List Line → Type 0
IsLoggedNext (At at change) lines more = IsLoggedAt at change lines more
IsLoggedNext Committed lines more = more ≡ lines
IsLoggedNext Uncommitted lines more = more ≡ []

-- `AreLogged entries lines more` holds if the log, which is to get `lines`, gets the lines in the order of the answers,
-- and is to get `more` after the entries.
abbrev pub AreLogged : List Entry → List Line → List Line → Type 0
AreLogged [] lines more = more ≡ lines
AreLogged (e ∷ entries) lines more =
    (mid : List Line) × IsLoggedNext e lines mid × AreLogged entries mid more

-- `Leads steps notes entries table old first table2 new last` holds if the entries lead from the table `table`, the
-- service `old` and the log `first` to `table2`, `new` and `last`, where the service takes `steps` and the log `notes`;
-- and each answered request has its line, or a proper prefix of it, in the log, in the order of the answers, unless its
-- commit failed.
pub record Leads {S L : Type 0} (steps : S → Entry → S → Type 0) (notes : L → Entry → L → Type 0)
    (entries : List Entry) (table : List Connection) (old : S) (first : L)
    (table2 : List Connection) (new : S) (last : L)
    : Type 0 where
  pub changes : AreChanges entries table table2
  pub chain : IsChain steps entries old new
  pub log : IsChain notes entries first last
  pub logged : AreLogged entries [] []
