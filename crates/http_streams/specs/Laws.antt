-- Defines the theorems that a stream has one answer, however the stream is split into reads, and about what was sent if
-- a device failed.
-- Source: RFC 9112, section 9.3.
use Rattle.std.specs.Prelude.{◌≡◌, ◌≢◌, ◌≤◌, ℕ, ◌⊎◌, Bool, List, [], ◌++◌, length, true}
use Rattle.httparse.specs.Grammar.{EndsInTarget, NeverHasRequest}
use Rattle.http_streams.specs.ReplyText.{error_line, reply_text}
use Rattle.http_streams.specs.Stream.{Answering, EndsByReply, Exchanges, AnswersAllRequests, Serves, StopsWithinReply}
use Rattle.http_streams.specs.declared.TheConstants.{MAX_HEAD}
use Rattle.http.specs.declared.status.StatusCode.{StatusCode}

-- `EndsInBadTarget rest` holds if the bytes `rest` end inside a request target that is not UTF-8. Depending on how a
-- stream is split into reads, such bytes at its end get the reply 400 or none.
pub record EndsInBadTarget (rest : List ℕ) : Type 0 where
  pub target : EndsInTarget rest
  pub never : NeverHasRequest rest
  pub short : length rest ≤ MAX_HEAD

-- `answers` relates the requests of a service to their replies; `old` and `new` are states of the service before and
-- after.
module _ {S : Type 0} (answers : Answering S) where
  -- `in_memory` is the relation `answers` without replies of the status 503 (out of memory).
  abbrev pub in_memory : Answering S
  in_memory old m t b status x new = answers old m t b status x new × (status ≢ 503)

  -- `HasOneAnswer same` holds if states that are the same by `same` have one answer to each request, and are the same
  -- afterwards.
  abbrev pub HasOneAnswer : (S → S → Type 0) → Type 0
  HasOneAnswer same =
      (old old2 : S) (m t b : List ℕ) (st st2 : StatusCode) (x x2 : List ℕ) (new new2 : S) → same old old2
      → answers old m t b st x new → answers old2 m t b st2 x2 new2 → (st ≡ st2) × (x ≡ x2) × same new new2

  -- `AnswersAll old stream out new` holds if `out` are the replies to the stream, up to its end or up to a reply that
  -- ends it.
  abbrev pub AnswersAll : S → List ℕ → List ℕ → S → Type 0
  AnswersAll old stream out new =
      AnswersAllRequests answers old stream out new
      ⊎ ((front : List ℕ) × (rest : List ℕ) × (stream ≡ front ++ rest) × EndsByReply answers old front out new)

  -- `DiffersInBadTarget old stream out more new` holds if `out` are the replies to some requests, and `more` is `out`
  -- followed by the reply 400 to the rest of the stream. This rest ends inside a target that is not UTF-8
  -- (`EndsInBadTarget`).
  abbrev pub DiffersInBadTarget : S → List ℕ → List ℕ → List ℕ → S → Type 0
  DiffersInBadTarget old stream out more new =
      (n : ℕ) × (rest : List ℕ) × Serves answers n old stream rest out new × EndsInBadTarget rest
      × (more ≡ out ++ reply_text true 400 (error_line 400))

  -- `AgreeOn same old old2 stream out more new new2` holds if two answers to one stream, from the states `old` and
  -- `old2`, agree. The states afterwards, `new` and `new2`, are the same by `same`. The sent bytes, `out` and `more`,
  -- are equal, unless the stream ends inside a target that is not UTF-8.
  abbrev pub AgreeOn : (S → S → Type 0) → S → S → List ℕ → List ℕ → List ℕ → S → S → Type 0
  AgreeOn same old old2 stream out more new new2 =
      same new new2
      × ((out ≡ more) ⊎ DiffersInBadTarget old stream out more new ⊎ DiffersInBadTarget old2 stream more out new2)

  -- `StopsIn old stream out new` holds if `out` are the replies to all requests in a prefix of the stream, or to some
  -- requests in the prefix, the last reply cut off.
  abbrev pub StopsIn : S → List ℕ → List ℕ → S → Type 0
  StopsIn old stream out new =
      (front : List ℕ) × (rest : List ℕ) × (stream ≡ front ++ rest)
      × (AnswersAllRequests answers old front out new ⊎ StopsWithinReply answers old front out new)

  -- `BeginsAnswer old stream out more new` holds if `out` is a prefix of `more`, or, if the stream ends inside a target
  -- that is not UTF-8, of `more` followed by the reply 400 to the rest.
  abbrev pub BeginsAnswer : S → List ℕ → List ℕ → List ℕ → S → Type 0
  BeginsAnswer old stream out more new =
      ((back : List ℕ) × (more ≡ out ++ back))
      ⊎ ((n : ℕ) × (rest : List ℕ) × Serves answers n old stream rest more new × EndsInBadTarget rest
      × (back : List ℕ) × (out ++ back ≡ more ++ reply_text true 400 (error_line 400)))

-- `HasFirst503 answers old stream out unsent` holds if `out` are the replies to some requests, none of them 503, then a
-- 503 to the next, without its last bytes `unsent`. If `unsent` is empty, more may follow.
pub record HasFirst503 {S : Type 0} (answers : Answering S) (old : S) (stream out unsent : List ℕ) : Type 0 where
  pub count : ℕ
  pub mid : S
  pub rest : List ℕ
  pub before : List ℕ
  pub served : Serves (in_memory answers) count old stream rest before mid
  pub last : Bool
  pub sent : List ℕ
  pub new : S
  pub later : List ℕ
  pub refused : Exchanges answers mid rest last (sent ++ unsent) new later
  pub is : refused.status ≡ 503
  pub back : List ℕ
  pub joined : out ≡ before ++ sent ++ back
  pub whole_or_last : (unsent ≡ []) ⊎ (back ≡ [])
