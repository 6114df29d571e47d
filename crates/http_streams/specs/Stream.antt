-- Defines the replies to a stream of requests.
-- Source: RFC 9112, sections 2.2, 6.3 and 9.3 (one after another, in order).
use Rattle.std.specs.Prelude.{◌≡◌, ◌<◌, ℕ, suc, zero, ◌⊎◌, Bool, true, false, Option, List, [], ◌++◌, length}
use Rattle.httparse.specs.Grammar.{RequestHead}
use Rattle.http_streams.specs.Reads.{EndsByOneRead}
use Rattle.http_streams.specs.ReplyText.{error_line, reply_text}
use Rattle.http_streams.specs.Request.{ReadsWhole, IsRefused, IsUnfinished, closes_of}
use Rattle.http.specs.declared.status.StatusCode.{StatusCode}

-- An `Answering S` is a relation between a state, the method, target and body of a request, the status and body of its
-- reply, and the state afterwards.
abbrev pub Answering : Type 0 → Type 1
Answering S = S → List ℕ → List ℕ → List ℕ → StatusCode → List ℕ → S → Type 0

-- `answers` relates the requests of a service to their replies; `old` and `new` are the states of the service before
-- and after.
module _ {S : Type 0} (answers : Answering S) where
  -- `Exchanges old bytes last out new rest` holds if `bytes` are a request and then `rest`, and `out` is the reply to
  -- the request; `last` is whether the request closes the stream.
  pub record Exchanges (old : S) (bytes : List ℕ) (last : Bool) (out : List ℕ) (new : S) (rest : List ℕ) : Type 0 where
    pub head : RequestHead
    pub body : List ℕ
    pub status : StatusCode
    pub text : List ℕ
    pub reads : ReadsWhole bytes head body rest
    pub answered : answers old head.method head.target body status text new
    pub last_is : last ≡ closes_of head
    pub out_is : out ≡ reply_text last status text

  -- `Serves n old bytes rest out new` holds if `bytes` are `n` requests and then `rest`, none closes the stream, and
  -- `out` are their replies.
  abbrev pub Serves : ℕ → S → List ℕ → List ℕ → List ℕ → S → Type 0
  Serves zero old bytes rest out new = (bytes ≡ rest) × (out ≡ []) × (new ≡ old)
  Serves (suc n) old bytes rest out new =
      (mid : S) × (after : List ℕ) × (first : List ℕ) × (later : List ℕ)
      × Exchanges old bytes false first mid after × Serves n mid after rest later new × (out ≡ first ++ later)

  -- `Refuses old bytes out new` holds if `bytes` are rejected, and `out` is the reply with the status of the rejection.
  abbrev pub Refuses : S → List ℕ → List ℕ → S → Type 0
  Refuses old bytes out new =
      (status : StatusCode) × IsRefused bytes status
      × (out ≡ reply_text true status (error_line status)) × (new ≡ old)

  -- `Closes old bytes out new` holds if `out` is the reply to a prefix of `bytes`, and this reply ends the stream.
  abbrev pub Closes : S → List ℕ → List ℕ → S → Type 0
  Closes old bytes out new = ((rest : List ℕ) × Exchanges old bytes true out new rest) ⊎ Refuses old bytes out new

  -- `AnswersAllRequests old bytes out new` holds if `out` are the replies to all requests in `bytes`, and the bytes
  -- after these requests are less than a request.
  pub record AnswersAllRequests (old : S) (bytes : List ℕ) (out : List ℕ) (new : S) : Type 0 where
    pub count : ℕ
    pub rest : List ℕ
    pub serves : Serves count old bytes rest out new
    pub unfinished : IsUnfinished rest

  -- `EndsByReply old bytes out new` holds if `out` are the replies to requests in `bytes`, and the last reply ends the
  -- stream.
  pub record EndsByReply (old : S) (bytes : List ℕ) (out : List ℕ) (new : S) : Type 0 where
    pub count : ℕ
    pub mid : S
    pub rest : List ℕ
    pub before : List ℕ
    pub last : List ℕ
    pub serves : Serves count old bytes rest before mid
    pub closes : Closes mid rest last new
    pub joined : out ≡ before ++ last

  -- `RepliesInPart old bytes out new` holds if `out` is a proper prefix of the reply to a prefix of `bytes`.
  abbrev pub RepliesInPart : S → List ℕ → List ℕ → S → Type 0
  RepliesInPart old bytes out new =
      (back : List ℕ) × (0 < length back)
      × (((rest : List ℕ) × (last : Bool) × Exchanges old bytes last (out ++ back) new rest)
      ⊎ Refuses old bytes (out ++ back) new)

  -- `StopsWithinReply old bytes out new` holds if `out` are the replies to some requests in `bytes`, the last one cut
  -- off.
  pub record StopsWithinReply (old : S) (bytes : List ℕ) (out : List ℕ) (new : S) : Type 0 where
    pub count : ℕ
    pub mid : S
    pub rest : List ℕ
    pub before : List ℕ
    pub last : List ℕ
    pub serves : Serves count old bytes rest before mid
    pub replies_in_part : RepliesInPart mid rest last new
    pub joined : out ≡ before ++ last

-- `left` gives the bytes left to a reader, if they are known. `reads` relates the state before a call, the length of
-- its buffer, the bytes that it read, and the state afterwards.
module _ {S R : Type 0} (answers : Answering S) (left : R → Option (List ℕ)) (reads : R → ℕ → List ℕ → R → Type 0) where
  -- `RepliesPromptly old first last bytes out` holds if a reader went from the state `first` to `last` by reading
  -- `bytes`, and `out` begins with the replies to all requests that were complete before the last read. None of these
  -- replies ended the stream.
  pub record RepliesPromptly (old : S) (first last : R) (bytes out : List ℕ) : Type 0 where
    pub front : List ℕ
    pub sent : List ℕ
    pub more : List ℕ
    pub state : S
    pub answered : AnswersAllRequests answers old front sent state
    pub read : EndsByOneRead left reads first last bytes front
    pub joined : out ≡ sent ++ more
