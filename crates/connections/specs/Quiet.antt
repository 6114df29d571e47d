-- Defines what holds of the connections of a quiet table: all their requests are answered.
-- Source: RFC 9112, sections 9.3 and 9.6 (pipelined requests are answered in order).
use Rattle.std.specs.Prelude.{◌≡◌, ℕ, false, List, map, Some, slice_get}
use Rattle.std.specs.List.{flat_map}
use Rattle.connections.specs.Connections.{AreChanges, Connection, Entry, IsLacking, MayAnswer, MayRead}
use Rattle.connections.specs.Framing.{IsCut}
use Rattle.connections.specs.Rounds.{IsQuiet}
use Rattle.connections.specs.Steps.{Answering, IsChain, LineRelation, Steps}
use Rattle.connections.specs.Stories.{AreFree, Story, story_at}

module _ (is_request is_unfinished : List ℕ → Type 0) where
  -- `IsAnswered st c` holds if the bytes that came are cut into the requests that were answered and less than one more;
  -- the writer took exactly their replies; and more may be read, unless the client has ended, once what is left is
  -- known to be less than a request, as it is after a round that answered nothing.
  pub record IsAnswered (st : Story) (c : Connection) : Type 0 where
    pub cut : IsCut is_request is_unfinished st.came (map (λ t. t.request) st.turns) c.input
    pub took : st.took ≡ flat_map (λ t. t.reply) st.turns
    pub goes_on : c.ended ≡ false → IsLacking c → MayRead c

  -- `AllAnswered entries table` holds if each connection that may have a request answered `IsAnswered`.
  abbrev pub AllAnswered : List Entry → List Connection → Type 0
  AllAnswered entries table =
      (at : ℕ) (c : Connection) → slice_get table at ≡ Some c → MayAnswer c → IsAnswered (story_at at entries) c

-- `QuietAreAnswered answers lines commits commit_fails is_request is_unfinished` holds if `AllAnswered` holds in each
-- quiet table to which entries lead from a free one.
abbrev pub QuietAreAnswered : {S : Type 0} → Answering S → LineRelation → (S → S → Type 0) → (S → S → Type 0)
    → (List ℕ → Type 0) → (List ℕ → Type 0) → Type 0
QuietAreAnswered {S} answers lines commits commit_fails is_request is_unfinished =
    (entries : List Entry) (table new : List Connection) (old last : S) → AreFree table → AreChanges entries table new
    → IsChain (Steps answers lines commits commit_fails) entries old last → IsQuiet is_unfinished new
    → AllAnswered is_request is_unfinished entries new
