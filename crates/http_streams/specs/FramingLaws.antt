-- Defines the theorem that a stream has at most one reply at its front, however the stream is split into reads.
use Rattle.std.specs.Prelude.{◌≡◌, ℕ, List, ◌++◌}
use Rattle.http_streams.specs.Reply.{IsBadReply, IsUnfinishedReply, ReadsReply}

-- `BeginsWithReply stream status body` holds if a prefix of `stream` is parsed as a reply with this status and body.
abbrev pub BeginsWithReply : List ℕ → ℕ → List ℕ → Type 0
BeginsWithReply stream status body =
    (front : List ℕ) × (after : List ℕ) × (rest : List ℕ) × (stream ≡ front ++ after)
    × ReadsReply front status body rest

-- `BeginsBadly stream` holds if a prefix of `stream` is rejected as a reply.
abbrev pub BeginsBadly : List ℕ → Type 0
BeginsBadly stream = (front : List ℕ) × (after : List ℕ) × (stream ≡ front ++ after) × IsBadReply front

-- `HasOneReply stream` holds if prefixes of `stream` are parsed as at most one reply, and at most one of three cases
-- applies. The cases are: a prefix is parsed as a reply; a prefix is rejected; `stream` is less than a reply.
pub record HasOneReply (stream : List ℕ) : Type 0 where
  pub replies :
      (s t : ℕ) (a b : List ℕ) → BeginsWithReply stream s a → BeginsWithReply stream t b → (s ≡ t) × (a ≡ b)
  pub not_bad : (s : ℕ) (a : List ℕ) → BeginsWithReply stream s a → BeginsBadly stream → ⊥
  pub not_cut_off : (s : ℕ) (a : List ℕ) → BeginsWithReply stream s a → IsUnfinishedReply stream → ⊥
  pub bad_or_cut_off : BeginsBadly stream → IsUnfinishedReply stream → ⊥
