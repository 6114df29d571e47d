-- Defines what a loop over many connections does from its start to its end.
-- Source: RFC 9112, sections 9.3 and 9.6 (persistence, tear-down).
-- Rules of this product: it ends as soon as so many connections as it is given were accepted and are gone, or if a wait
-- or a commit fails: a later turn would answer from changes that are not recorded. The failure of a connection, or of
-- accepting one, ends no other.
use Rattle.std.specs.Prelude.{◌≡◌, ◌+◌, ◌⊎◌, ℕ, true, false, List, [], ◌∷◌, ◌++◌, Some, Result, Ok, Err}
use Rattle.std.specs.Prelude.{slice_get}
use Rattle.connections.specs.Bounds.{AreAtMost, IsBounded}
use Rattle.connections.specs.Connections.{AreChanges, Connection, Entry}
use Rattle.connections.specs.Stories.{AllFit}
use Rattle.connection_loop.specs.Acts.{Act, Accepted}
use Rattle.connection_loop.specs.Happenings.{calls_of, entries_of}
use Rattle.connection_loop.specs.Phases.{AtEach, Goes, Phase, State, Then}
use Rattle.connection_loop.specs.Turns.{IsTurn}
use Rattle.connection_loop.specs.declared.TheConstants.{MOST}
use Rattle.connection_loop.specs.declared.course.Course.{Course}
use Rattle.connection_loop.specs.declared.limits.Limits.{Limits}
use Rattle.connection_loop.specs.declared.turn.LoopFault.{LoopFault}
use Rattle.connection_loop.specs.declared.turn.LoopFault.TheVariants as faults

-- `beginning` is what a loop remembers before its first turn, which is not to sleep.
abbrev pub beginning : Course
beginning = record {
  clock = 0;
  busy = true;
  nobody = false;
  failed = false;
  sought = false;
  from = 0;
  pause = 0;
  resume = 0;
  accepted = 0;
}

-- `accepts act` is 1 if the act accepted a connection, else 0.
abbrev pub accepts : Act → ℕ
accepts (Accepted at) = 1
accepts _ = 0

-- `accepted_in acts` is the number of connections that the acts accepted.
abbrev pub accepted_in : List Act → ℕ
accepted_in [] = 0
accepted_in (act ∷ acts) = accepts act + accepted_in acts

-- `IsEmpty table` holds if no slot of the table has a connection.
abbrev pub IsEmpty : List Connection → Type 0
IsEmpty table = (at : ℕ) (c : Connection) → slice_get table at ≡ Some c → c.is_open ≡ false

-- `AreAllGone limits c table` holds if a number of connections was given, and so many were accepted and are gone.
abbrev pub AreAllGone : Limits → Course → List Connection → Type 0
AreAllGone limits c table = (limits.connections ≡ Some c.accepted) × IsEmpty table

-- `IsNext limits is_unfinished result` is the phase of a turn with this result, which begins only if not all are gone.
abbrev pub IsNext : Limits → (List ℕ → Type 0) → Result (Unit {0}) LoopFault → Phase
IsNext limits is_unfinished result c table hs =
    (AreAllGone limits c table → ⊥) × IsTurn limits is_unfinished result c table hs

-- `AreTurns limits is_unfinished turns` is the phase of so many turns without an error.
abbrev pub AreTurns : Limits → (List ℕ → Type 0) → ℕ → Phase
AreTurns limits is_unfinished turns = AtEach (λ turn. IsNext limits is_unfinished (Ok tt)) turns

-- `IsRun limits is_unfinished turns result` is the phase of so many turns, with this result; if it is an error, one
-- more turn ended with it, or there were more turns than any run can reach.
abbrev pub IsRun : Limits → (List ℕ → Type 0) → ℕ → Result (Unit {0}) LoopFault → Phase
IsRun limits is_unfinished turns (Ok done) c table hs = AreTurns limits is_unfinished turns c table hs
IsRun limits is_unfinished turns (Err fault) c table hs =
    Then (AreTurns limits is_unfinished turns) (IsNext limits is_unfinished (Err fault)) c table hs
    ⊎ ((fault ≡ faults.Network) × (turns ≡ MOST) × AreTurns limits is_unfinished turns c table hs)

-- `IsEnd limits acts table result` holds if a loop with this result ended as it should: without an error only if a
-- number of connections was given, and so many were accepted and are gone.
abbrev pub IsEnd : Limits → List Act → List Connection → Result (Unit {0}) LoopFault → Type 0
IsEnd limits acts table (Ok done) = (limits.connections ≡ Some (accepted_in acts)) × IsEmpty table
IsEnd limits acts table (Err fault) = Unit {0}

-- `IsServedTogether steps notes does is_unfinished limits old new result` holds if a loop over many connections led
-- from the state `old` to `new`, with this result:
-- - goes: one list has all that happened, turn after turn.
-- - fit: at every moment, each connection fits its story.
-- - bounded: at every moment, the table is bounded.
-- - ends: without an error it ended only after the connections that it was given.
pub record IsServedTogether {S L N : Type 0} (steps : S → Entry → S → Type 0) (notes : L → Entry → L → Type 0)
    (does : N → Act → N → Type 0) (is_unfinished : List ℕ → Type 0) (limits : Limits) (old new : State S L N)
    (result : Result (Unit {0}) LoopFault) : Type 0 where
  pub turns : ℕ
  pub goes : Goes steps notes does (IsRun limits is_unfinished turns result) old new
  pub fit : (front rest : List Entry) (table : List Connection) → entries_of old.course goes.happenings ≡ front ++ rest
      → AreChanges front old.table table → AllFit front table
  pub bounded : (front rest : List Entry) (table : List Connection) (most : ℕ)
      → entries_of old.course goes.happenings ≡ front ++ rest → AreChanges front old.table table → AreAtMost most front
      → IsBounded most table
  pub ends : IsEnd limits (calls_of goes.happenings) new.table result
