-- Defines the requests of HTTP as those of one of many connections: which bytes are one, its answer, and its line.
-- Source: RFC 9112, sections 2.2, 6.3, 9.3 and 9.6.
-- Rules of this product: a rejection is the answer to all bytes that came, and ends the connection.
use Rattle.std.specs.Prelude.{◌≡◌, ◌⊎◌, ℕ, Bool, true, List, []}
use Rattle.httparse.specs.Grammar.{RequestHead}
use Rattle.http_streams.specs.Logs.{LineRelation}
use Rattle.http_streams.specs.ReplyText.{error_line, reply_text}
use Rattle.http_streams.specs.Request.{IsRefused, ReadsWhole}
use Rattle.http_streams.specs.Stream.{Answering, Exchanges, Refuses}
use Rattle.http.specs.declared.status.StatusCode.{StatusCode}

-- `IsRequest bytes` holds if `bytes` are one whole request, and nothing else.
abbrev pub IsRequest : List ℕ → Type 0
IsRequest bytes = (head : RequestHead) × (body : List ℕ) × ReadsWhole bytes head body []

-- `answers` relates the requests of a service to their replies.
module _ {S : Type 0} (answers : Answering S) where
  -- `AnswersBytes old bytes closes reply new` holds if `bytes` are one request, `reply` is its reply, and `closes` is
  -- whether the request closes the connection; or `bytes` are rejected by `reply`, which closes it. The service goes
  -- from `old` to `new`.
  abbrev pub AnswersBytes : S → List ℕ → Bool → List ℕ → S → Type 0
  AnswersBytes old bytes closes reply new =
      Exchanges answers old bytes closes reply new [] ⊎ ((closes ≡ true) × Refuses answers old bytes reply new)

-- `lines` relates requests and replies to their lines; `refusal` gives the line of a rejection by its status.
module _ (lines : LineRelation) (refusal : StatusCode → List ℕ) where
  -- `has_line line` is the relation of the requests and replies whose line is `line`, without a state.
  abbrev pub has_line : List ℕ → Answering (Unit {0})
  has_line line _ method target body status text _ = lines method target body status text line

  -- `RefusesByLine bytes reply line` holds if `bytes` are rejected by `reply`, and `line` is the line of the rejection.
  abbrev pub RefusesByLine : List ℕ → List ℕ → List ℕ → Type 0
  RefusesByLine bytes reply line =
      (status : StatusCode) × IsRefused bytes status × (reply ≡ reply_text true status (error_line status))
      × (line ≡ refusal status)

  -- `IsLineOf bytes closes reply line` holds if `line` is the line of the one request that `bytes` are, and of its
  -- reply; or of the rejection of `bytes`.
  abbrev pub IsLineOf : List ℕ → Bool → List ℕ → List ℕ → Type 0
  IsLineOf bytes closes reply line =
      Exchanges (has_line line) tt bytes closes reply tt [] ⊎ ((closes ≡ true) × RefusesByLine bytes reply line)
