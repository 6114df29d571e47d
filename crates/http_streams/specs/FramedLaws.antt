-- Defines the theorems about requests of HTTP on many connections: all are answered, in order, in whatever pieces their
-- bytes came.
-- Source: RFC 9112, sections 9.3 and 9.6.
use Rattle.std.specs.Prelude.{◌≡◌, ℕ, false, List, [], ◌++◌, All, Some, map, slice_get}
use Rattle.std.specs.List.{flat_map}
use Rattle.connections.specs.Connections.{AreChanges, Connection, Entry, IsLacking, MayAnswer, MayRead}
use Rattle.connections.specs.Rounds.{IsQuiet}
use Rattle.connections.specs.Steps.{IsChain, Steps}
use Rattle.connections.specs.Stories.{AreFree, Story, Turn, story_at}
use Rattle.http.specs.declared.status.StatusCode.{StatusCode}
use Rattle.http_streams.specs.FramedRequests.{AnswersBytes, IsLineOf}
use Rattle.http_streams.specs.Logs.{LineRelation}
use Rattle.http_streams.specs.Request.{IsUnfinished}
use Rattle.http_streams.specs.Stream.{Answering, Exchanges}

-- `answers` relates the requests of a service to their replies.
module _ {S : Type 0} (answers : Answering S) where
  -- `IsReplied t` holds if the service, in some state, answered the bytes of the turn `t` by its reply.
  abbrev pub IsReplied : Turn → Type 0
  IsReplied t = (old new : S) × AnswersBytes answers old t.request t.closes t.reply new

  -- `IsExchanged t` holds if the turn `t` is moreover one request and its reply.
  abbrev pub IsExchanged : Turn → Type 0
  IsExchanged t = (old new : S) × Exchanges answers old t.request t.closes t.reply new []

  -- `HasReplies st c` holds for the story `st` of the connection `c` if the bytes that came are the requests that were
  -- answered, in order, and then less than a request; the writer took exactly their replies, in order; and more may be
  -- read, unless the client has ended, once what is left is known to be less than a request.
  pub record HasReplies (st : Story) (c : Connection) : Type 0 where
    pub exchanges : All IsExchanged st.turns
    pub came : st.came ≡ flat_map (λ t. t.request) st.turns ++ c.input
    pub unfinished : IsUnfinished c.input
    pub took : st.took ≡ flat_map (λ t. t.reply) st.turns
    pub goes_on : c.ended ≡ false → IsLacking c → MayRead c

  -- `PiecesMakeNoDifference` holds if on two connections that have their replies, and on which the same bytes came, the
  -- same requests were answered.
  abbrev pub PiecesMakeNoDifference : Type 0
  PiecesMakeNoDifference =
      (st st2 : Story) (c c2 : Connection) → HasReplies st c → HasReplies st2 c2 → st.came ≡ st2.came
      → (map (λ t. t.request) st.turns ≡ map (λ t. t.request) st2.turns) × (c.input ≡ c2.input)

-- `lines` relates requests and replies to their lines; `refusal` gives the line of a rejection by its status; `commits`
-- and `commit_fails` relate the states of the service around a commit that succeeded, and around one that failed.
module _ {S : Type 0} (answers : Answering S) (lines : LineRelation) (refusal : StatusCode → List ℕ)
    (commits commit_fails : S → S → Type 0) where
  -- `AreSteps entries old last` holds if the entries lead the service from the state `old` to `last`.
  abbrev pub AreSteps : List Entry → S → S → Type 0
  AreSteps = IsChain (Steps (AnswersBytes answers) (IsLineOf lines refusal) commits commit_fails)

  -- `TurnsAreReplied` holds if, wherever entries lead, each turn of a story is a reply of the service.
  abbrev pub TurnsAreReplied : Type 0
  TurnsAreReplied =
      (entries : List Entry) (old last : S) (at : ℕ) → AreSteps entries old last
      → All (IsReplied answers) (story_at at entries).turns

  -- `QuietHaveReplies` holds if, in each quiet table to which entries lead from a free one, each connection that may
  -- have a request answered has all its replies.
  abbrev pub QuietHaveReplies : Type 0
  QuietHaveReplies =
      (entries : List Entry) (table new : List Connection) (old last : S) → AreFree table
      → AreChanges entries table new → AreSteps entries old last → IsQuiet IsUnfinished new
      → (at : ℕ) (c : Connection) → slice_get new at ≡ Some c → MayAnswer c → HasReplies answers (story_at at entries) c
