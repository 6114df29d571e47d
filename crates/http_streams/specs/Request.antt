-- Defines where the requests of a stream end, and which of them are rejected.
-- Source: RFC 9112, sections 2 to 6, 9.3 and 9.6.
-- Rules of this product: the limits, and the order of the errors.
use Rattle.std.specs.Prelude.{◌≡◌, ℕ, ◌<◌, ◌≤◌, ◌⊎◌, Bool, ◌||◌, List, [], ◌∷◌, ◌++◌, length, map, drop}
use Rattle.std.specs.Prelude.{if◌then◌else◌, ◌==◌, codes, bytes_eq}
use Rattle.std.specs.List.{list_any}
use Rattle.httparse.specs.Grammar.{RequestHead, print_request, ReadsRequest, HasNoRequest, NeverHasRequest}
use Rattle.httparse.specs.Grammar.{MayBecomeRequest}
use Rattle.httparse.specs.Spans.{span_bytes, name_and_value}
use Rattle.http_streams.specs.Fields.{Field, announced, is_close, is_named, values_named}
use Rattle.http_streams.specs.declared.fields.Announced.{Announced}
use Rattle.http_streams.specs.declared.fields.Announced.TheVariants.{Size, TooLong, NoNumber}
use Rattle.http_streams.specs.declared.cut.Framing.{Framing}
use Rattle.http_streams.specs.declared.cut.Framing.TheVariants.{Body, Refused}
use Rattle.http_streams.specs.declared.cut.Parts.{Parts}
use Rattle.http_streams.specs.declared.cut.Cut.{Cut}
use Rattle.http_streams.specs.declared.cut.Cut.TheVariants as Cuts
use Rattle.http.specs.declared.status.StatusCode.{StatusCode}
use Rattle.http_streams.specs.declared.TheConstants.{MAX_HEAD, MAX_FIELDS, MAX_BODY}

-- `needs_length method` tests whether a request with the method `method` must announce the length of its body.
abbrev pub needs_length : List ℕ → Bool
needs_length method = bytes_eq method (codes "PUT") || bytes_eq method (codes "POST")

-- `framing_by length` is the framing by one announced length: 413 if the length is over the limit, 400 if it is not a
-- number.
abbrev pub framing_by : Announced → Framing
framing_by (Size n) = Body n
framing_by TooLong = Refused 413
framing_by NoNumber = Refused 400

-- `framing_by_lengths method vs` is the framing by the values `vs` of Content-Length: 411 if `vs` is empty and `method`
-- needs a length, 400 if there are several values.
abbrev pub framing_by_lengths : List ℕ → List (List ℕ) → Framing
framing_by_lengths method [] = if needs_length method then Refused 411 else Body 0
framing_by_lengths method (v ∷ []) = framing_by (announced MAX_BODY v)
framing_by_lengths method (v ∷ w ∷ vs) = Refused 400

-- `framing method ps` is the length of the body of a request with the method `method` and the fields `ps`, or the
-- status with which its head is rejected. It is 501 if there is a field Transfer-Encoding; otherwise the announced
-- lengths decide (`framing_by_lengths`).
abbrev pub framing : List ℕ → List Field → Framing
framing method ps =
    if list_any (is_named (codes "transfer-encoding")) ps then Refused 501
    else framing_by_lengths method (values_named (codes "content-length") ps)

-- `pairs h` is the list of the names and values of the fields of the head `h`.
abbrev pub pairs : RequestHead → List Field
pairs h = map name_and_value h.fields

-- `framing_of h` is the framing of the head `h`.
abbrev pub framing_of : RequestHead → Framing
framing_of h = framing h.method (pairs h)

-- `closes minor ps` tests whether the connection ends after a request of HTTP version 1.`minor` with the fields `ps`.
abbrev pub closes : ℕ → List Field → Bool
closes minor ps = (minor == 0) || list_any is_close ps

-- `closes_of h` tests whether the connection ends after a request with the head `h`.
abbrev pub closes_of : RequestHead → Bool
closes_of h = closes h.minor (pairs h)

-- `Admits bytes h rest` holds if `bytes` are the head `h` of a request and then `rest`, and `h` is within the limits.
pub record Admits (bytes : List ℕ) (h : RequestHead) (rest : List ℕ) : Type 0 where
  pub reads : ReadsRequest bytes h rest
  pub short : length (print_request h) ≤ MAX_HEAD
  pub few : length h.fields ≤ MAX_FIELDS

-- `HasNoAdmitted bytes` holds if `bytes` do not begin with a head within the limits.
abbrev pub HasNoAdmitted : List ℕ → Type 0
HasNoAdmitted bytes = (h : RequestHead) (rest : List ℕ) → Admits bytes h rest → ⊥

-- `ReadsWhole bytes h body rest` holds if `bytes` are the request with the head `h` and this body, and then `rest`.
pub record ReadsWhole (bytes : List ℕ) (h : RequestHead) (body rest : List ℕ) : Type 0 where
  pub head : Admits bytes h (body ++ rest)
  pub framed : framing_of h ≡ Body (length body)

-- `RefusesHead bytes status` holds if `bytes` begin with a head within the limits that is rejected with `status`.
pub record RefusesHead (bytes : List ℕ) (status : StatusCode) : Type 0 where
  pub head : RequestHead
  pub rest : List ℕ
  pub admits : Admits bytes head rest
  pub framed : framing_of head ≡ Refused status

-- `IsTooLarge bytes` holds if `bytes` begin with a whole head of too many fields, or are more bytes than a head may
-- have. If such bytes do not begin with an admitted head, neither does any continuation of them.
abbrev pub IsTooLarge : List ℕ → Type 0
IsTooLarge bytes =
    ((h : RequestHead) × (rest : List ℕ) × ReadsRequest bytes h rest × (MAX_FIELDS < length h.fields))
    ⊎ (MAX_HEAD < length bytes)

-- `IsBadHead bytes` holds if `bytes` do not begin with an admitted head, and cannot, whatever follows.
abbrev pub IsBadHead : List ℕ → Type 0
IsBadHead bytes = HasNoAdmitted bytes × (IsTooLarge bytes ⊎ NeverHasRequest bytes)

-- `IsRefused bytes status` holds if `bytes` are rejected with `status`.
abbrev pub IsRefused : List ℕ → StatusCode → Type 0
IsRefused bytes status = RefusesHead bytes status ⊎ ((status ≡ 400) × IsBadHead bytes)

-- `IsCutOff bytes` holds if `bytes` begin with an admitted head whose body is incomplete.
pub record IsCutOff (bytes : List ℕ) : Type 0 where
  pub head : RequestHead
  pub rest : List ℕ
  pub size : ℕ
  pub admits : Admits bytes head rest
  pub framed : framing_of head ≡ Body size
  pub short : length rest < size

-- `IsPartOfHead bytes` holds if `bytes` are at most `MAX_HEAD` bytes, have no whole head at the front, and begin a head
-- or end inside a request target.
pub record IsPartOfHead (bytes : List ℕ) : Type 0 where
  pub none : HasNoRequest bytes
  pub short : length bytes ≤ MAX_HEAD
  pub open_still : MayBecomeRequest bytes

-- `IsUnfinished bytes` holds if `bytes` are less than a request: an admitted head with an incomplete body, or a part of
-- a head.
abbrev pub IsUnfinished : List ℕ → Type 0
IsUnfinished bytes = IsCutOff bytes ⊎ IsPartOfHead bytes

-- `IsWholeAt bytes p` holds if `bytes` begin with a request whose parts are at `p`.
pub record IsWholeAt (bytes : List ℕ) (p : Parts) : Type 0 where
  pub head : RequestHead
  pub ordered : (p.body ≤ p.end) × (p.end ≤ length bytes) × (0 < p.end)
  pub method_in : (p.method.start ≤ p.method.end) × (p.method.end ≤ p.body)
  pub target_in : (p.target.start ≤ p.target.end) × (p.target.end ≤ p.body)
  pub reads : ReadsWhole bytes head (span_bytes bytes (record { start = p.body; end = p.end })) (drop p.end bytes)
  pub method : span_bytes bytes p.method ≡ head.method
  pub target : span_bytes bytes p.target ≡ head.target
  pub closes : p.closes ≡ closes_of head

-- `StaysUnfinished bytes needed` holds if `bytes` followed by any bytes, fewer than `needed` in all, are less than a
-- request.
abbrev pub StaysUnfinished : List ℕ → ℕ → Type 0
StaysUnfinished bytes needed = (more : List ℕ) → length (bytes ++ more) < needed → IsUnfinished (bytes ++ more)

-- `IsUnfinishedBelow bytes needed` holds if `bytes` are less than a request, and stay so below `needed` bytes in all;
-- if their head is whole, `needed` bytes are enough for the request.
pub record IsUnfinishedBelow (bytes : List ℕ) (needed : ℕ) : Type 0 where
  pub unfinished : IsUnfinished bytes
  pub below : StaysUnfinished bytes needed
  pub enough : (more : List ℕ) → IsCutOff bytes → needed ≤ length (bytes ++ more) → IsUnfinished (bytes ++ more) → ⊥

-- `IsCut bytes cut` holds if `cut` describes the front of `bytes` correctly: a request with its parts, a rejection, or
-- less than a request.
abbrev pub IsCut : List ℕ → Cut → Type 0
IsCut bytes (Cuts.Whole p) = IsWholeAt bytes p
IsCut bytes (Cuts.Refused status) = IsRefused bytes status
IsCut bytes (Cuts.Unfinished needed) = IsUnfinishedBelow bytes needed
