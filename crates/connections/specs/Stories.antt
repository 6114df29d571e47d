-- Defines the story of a connection, which a list of entries tells, and how the connection fits it.
-- Source: RFC 9112, sections 9.3 and 9.6 (replies in the order of the requests; none after one that closes).
use Rattle.std.specs.Prelude.{◌≡◌, ◌≤◌, ◌+◌, ◌==◌, ◌⊎◌, ℕ, Bool, false, List, [], ◌∷◌, ◌++◌, length, Some, slice_get}
use Rattle.std.specs.Prelude.{if◌then◌else◌}
use Rattle.std.specs.List.{flat_map}
use Rattle.connections.specs.Connections.{AreChanges, Change, Connection, Entry, fresh}
use Rattle.connections.specs.Connections.{At, Committed, Uncommitted}
use Rattle.connections.specs.Connections.{Opened, Reserved, Came, Ended, Asked, Lacked}
use Rattle.connections.specs.Connections.{Answered, Logged, CutOff, Took, Gone}
use Rattle.connections.specs.declared.TheConstants.{MAX_INPUT}
use Rattle.connections.specs.declared.slot.Stage.{Stage}
use Rattle.connections.specs.declared.slot.Stage.TheVariants as Stages

-- A `Turn` is a request with its reply, and whether the reply ends the connection.
pub record Turn : Type 0 where
  pub request : List ℕ
  pub closes : Bool
  pub reply : List ℕ

-- A `Story` of a connection has the bytes that came, the turns that were answered, and the bytes that its writer took.
pub record Story : Type 0 where
  pub came : List ℕ
  pub turns : List Turn
  pub took : List ℕ

-- `no_story` is the story of a connection that was just opened, and of a free slot.
abbrev pub no_story : Story
no_story = record { came = []; turns = []; took = [] }

-- `continued st change` is the story `st` followed by a change of the same connection.
abbrev pub continued : Story → Change → Story
continued st (Opened now) = no_story
continued st (Reserved now) = st
continued st (Came bytes now) = record st { came = st.came ++ bytes }
continued st Ended = st
continued st (Asked now) = st
continued st (Lacked needed) = st
continued st (Answered request closes reply line) =
    record st { turns = st.turns ++ record { request = request; closes = closes; reply = reply } ∷ [] }
continued st (Logged line) = st
continued st (CutOff line) = st
continued st (Took bytes now) = record st { took = st.took ++ bytes }
continued st (Gone why) = no_story

-- `story_from at st entries` is the story `st` followed by the entries of the slot `at`.
abbrev pub story_from : ℕ → Story → List Entry → Story
story_from at st [] = st
story_from at st (At slot change ∷ entries) =
    story_from at (if slot == at then continued st change else st) entries
story_from at st (Committed ∷ entries) = story_from at st entries
story_from at st (Uncommitted ∷ entries) = story_from at st entries

-- `story_at at entries` is the story of the connection at the slot `at`: of the entries there since it was opened. The
-- whole story of one that is closed is that of the entries before.
abbrev pub story_at : ℕ → List Entry → Story
story_at at entries = story_from at no_story entries

-- `IsOneStream turns closing` holds if at most the last turn ends the connection, and `closing` is whether it does.
abbrev pub IsOneStream : List Turn → Bool → Type 0
IsOneStream [] closing = closing ≡ false
IsOneStream (t ∷ []) closing = closing ≡ t.closes
IsOneStream (t ∷ u ∷ turns) closing = (t.closes ≡ false) × IsOneStream (u ∷ turns) closing

-- `IsLeftOfLast unsent turns` holds if `unsent` is empty, or a suffix of the reply of the last turn.
abbrev pub IsLeftOfLast : List ℕ → List Turn → Type 0
IsLeftOfLast unsent turns =
    (unsent ≡ [])
    ⊎ ((before : List Turn) × (last : Turn) × (sent : List ℕ) × (turns ≡ before ++ last ∷ [])
    × (last.reply ≡ sent ++ unsent))

-- `IsWhole unsent turns` holds if `unsent` is the whole reply of the last turn.
abbrev pub IsWhole : List ℕ → List Turn → Type 0
IsWhole unsent turns = (before : List Turn) × (last : Turn) × (turns ≡ before ++ last ∷ []) × (last.reply ≡ unsent)

-- `IsHeldBack s unsent turns` holds if the last reply is at the stage `s`, and nothing of it was taken unless its whole
-- line is in the log.
abbrev pub IsHeldBack : Stage → List ℕ → List Turn → Type 0
IsHeldBack Stages.Made unsent turns = IsWhole unsent turns
IsHeldBack Stages.Committed unsent turns = IsWhole unsent turns
IsHeldBack Stages.Logged unsent turns = Unit {0}
IsHeldBack Stages.Uncommitted unsent turns = IsWhole unsent turns
IsHeldBack Stages.Unlogged unsent turns = IsWhole unsent turns

-- `Fits st c` holds if the connection `c` fits its story `st`:
-- - came: the bytes that came are the answered requests, in order, each once, followed by what is not answered.
-- - took: the replies, in order, are what the writer took followed by what it has not taken.
-- - unsent: what the writer has not taken is a suffix of the last reply.
-- - held_back: nothing of a reply was taken before its commit, or before its whole line was in the log.
-- - one_stream: nothing is answered after a reply that ends the connection.
-- - small: at most `MAX_INPUT` bytes wait for an answer, with those for which memory is reserved.
pub record Fits (st : Story) (c : Connection) : Type 0 where
  pub came : st.came ≡ flat_map (λ t. t.request) st.turns ++ c.input
  pub took : flat_map (λ t. t.reply) st.turns ≡ st.took ++ c.output
  pub unsent : IsLeftOfLast c.output st.turns
  pub held_back : IsHeldBack c.stage c.output st.turns
  pub one_stream : IsOneStream st.turns c.closing
  pub small : length c.input + c.spare ≤ MAX_INPUT

-- `AllFit entries table` holds if each connection of the table fits its story.
abbrev pub AllFit : List Entry → List Connection → Type 0
AllFit entries table = (at : ℕ) (c : Connection) → slice_get table at ≡ Some c → Fits (story_at at entries) c

-- `AreFree table` holds if each slot of the table is free, and has no bytes.
abbrev pub AreFree : List Connection → Type 0
AreFree [] = Unit {0}
AreFree (c ∷ table) = (c ≡ fresh false 0) × AreFree table

-- `StoriesFit` holds if each connection fits its story in each table to which entries lead from a free one.
abbrev pub StoriesFit : Type 0
StoriesFit =
    (entries : List Entry) (old new : List Connection) → AreFree old → AreChanges entries old new → AllFit entries new
