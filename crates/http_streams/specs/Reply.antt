-- Defines where a reply ends, and which replies are rejected.
-- Source: RFC 9112, sections 4 to 6; RFC 9110, section 8.6.
use Rattle.std.specs.Prelude.{◌≡◌, ℕ, ◌<◌, ◌≤◌, ◌⊎◌, List, [], ◌∷◌, ◌++◌, length, map, drop}
use Rattle.std.specs.Prelude.{if◌then◌else◌, codes}
use Rattle.std.specs.List.{list_any}
use Rattle.httparse.specs.Grammar.{ResponseHead, print_response, ReadsResponse, HasNoResponse}
use Rattle.httparse.specs.Grammar.{NeverHasResponse, MayBecomeResponse, status_code}
use Rattle.httparse.specs.Spans.{name_and_value, span_bytes}
use Rattle.http_streams.specs.Fields.{Field, announced, is_named, values_named}
use Rattle.http_streams.specs.declared.fields.Announced.{Announced}
use Rattle.http_streams.specs.declared.fields.Announced.TheVariants.{Size, TooLong, NoNumber}
use Rattle.http_streams.specs.declared.reply_cut.ReplyParts.{ReplyParts}
use Rattle.http_streams.specs.declared.reply_cut.ReplyCut.{ReplyCut}
use Rattle.http_streams.specs.declared.reply_cut.ReplyCut.TheVariants as Variants
use Rattle.http_streams.specs.declared.TheConstants.{MAX_HEAD, MAX_FIELDS, MAX_REPLY}

-- `length_by vs` is the length that the values `vs` of Content-Length announce; it is `NoNumber` unless there is
-- exactly one value.
abbrev pub length_by : List (List ℕ) → Announced
length_by [] = NoNumber
length_by (v ∷ []) = announced MAX_REPLY v
length_by (v ∷ w ∷ vs) = NoNumber

-- `reply_length ps` is the length of the body of a reply with the fields `ps`; `NoNumber` if there is a field
-- Transfer-Encoding, which would define the length in another way.
abbrev pub reply_length : List Field → Announced
reply_length ps =
    if list_any (is_named (codes "transfer-encoding")) ps then NoNumber
    else length_by (values_named (codes "content-length") ps)

-- `length_of h` is the length of the body of a reply with the head `h`.
abbrev pub length_of : ResponseHead → Announced
length_of h = reply_length (map name_and_value h.fields)

-- `AdmitsReply bytes h rest` holds if `bytes` are the head `h` of a reply and then `rest`, and `h` is within the
-- limits.
pub record AdmitsReply (bytes : List ℕ) (h : ResponseHead) (rest : List ℕ) : Type 0 where
  pub reads : ReadsResponse bytes h rest
  pub short : length (print_response h) ≤ MAX_HEAD
  pub few : length h.fields ≤ MAX_FIELDS

-- `HasNoAdmittedReply bytes` holds if `bytes` do not begin with a head of a reply within the limits.
abbrev pub HasNoAdmittedReply : List ℕ → Type 0
HasNoAdmittedReply bytes = (h : ResponseHead) (rest : List ℕ) → AdmitsReply bytes h rest → ⊥

-- `ReadsReply bytes status body rest` holds if `bytes` are a reply with this status and this body, and then `rest`.
pub record ReadsReply (bytes : List ℕ) (status : ℕ) (body rest : List ℕ) : Type 0 where
  pub head : ResponseHead
  pub admits : AdmitsReply bytes head (body ++ rest)
  pub framed : length_of head ≡ Size (length body)
  pub status_is : status ≡ status_code head

-- `HasNoLength bytes` holds if `bytes` begin with an admitted head, and the length of the reply's body is not valid or
-- is over the limit.
pub record HasNoLength (bytes : List ℕ) : Type 0 where
  pub head : ResponseHead
  pub rest : List ℕ
  pub admits : AdmitsReply bytes head rest
  pub framed : (length_of head ≡ NoNumber) ⊎ (length_of head ≡ TooLong)

-- `IsTooLargeReply bytes` holds if `bytes` begin with a whole head of too many fields, or are more bytes than a head
-- may have. If such bytes do not begin with an admitted head, neither does any continuation of them.
abbrev pub IsTooLargeReply : List ℕ → Type 0
IsTooLargeReply bytes =
    ((h : ResponseHead) × (rest : List ℕ) × ReadsResponse bytes h rest × (MAX_FIELDS < length h.fields))
    ⊎ (MAX_HEAD < length bytes)

-- `IsBadReply bytes` holds if `bytes` do not begin with a reply that has a valid length and is within the limits, and
-- cannot, whatever follows.
abbrev pub IsBadReply : List ℕ → Type 0
IsBadReply bytes =
    HasNoLength bytes ⊎ (HasNoAdmittedReply bytes × (IsTooLargeReply bytes ⊎ NeverHasResponse bytes))

-- `IsCutOffReply bytes` holds if `bytes` begin with an admitted head whose body is incomplete.
pub record IsCutOffReply (bytes : List ℕ) : Type 0 where
  pub head : ResponseHead
  pub rest : List ℕ
  pub size : ℕ
  pub admits : AdmitsReply bytes head rest
  pub framed : length_of head ≡ Size size
  pub short : length rest < size

-- `IsPartOfReplyHead bytes` holds if `bytes` are less than a head, and may become a head if more bytes follow.
pub record IsPartOfReplyHead (bytes : List ℕ) : Type 0 where
  pub none : HasNoResponse bytes
  pub short : length bytes ≤ MAX_HEAD
  pub open_still : MayBecomeResponse bytes

-- `IsUnfinishedReply bytes` holds if `bytes` are less than a reply: an admitted head with an incomplete body, or a part
-- of a head.
abbrev pub IsUnfinishedReply : List ℕ → Type 0
IsUnfinishedReply bytes = IsCutOffReply bytes ⊎ IsPartOfReplyHead bytes

-- `IsReplyAt bytes p` holds if `bytes` begin with a reply whose status is `p.code`, and whose body begins and ends at
-- the offsets in `p`.
pub record IsReplyAt (bytes : List ℕ) (p : ReplyParts) : Type 0 where
  pub ordered : (p.body ≤ p.end) × (p.end ≤ length bytes)
  pub reads : ReadsReply bytes p.code (span_bytes bytes (record { start = p.body; end = p.end })) (drop p.end bytes)

-- `StaysUnfinishedReply bytes needed` holds if `bytes` followed by any bytes, fewer than `needed` in all, are less than
-- a reply.
abbrev pub StaysUnfinishedReply : List ℕ → ℕ → Type 0
StaysUnfinishedReply bytes needed =
    (more : List ℕ) → length (bytes ++ more) < needed → IsUnfinishedReply (bytes ++ more)

-- `IsUnfinishedReplyBelow bytes needed` holds if `bytes` are less than a reply, and stay so below `needed` bytes in
-- all; if their head is whole, `needed` bytes are enough for the reply.
pub record IsUnfinishedReplyBelow (bytes : List ℕ) (needed : ℕ) : Type 0 where
  pub unfinished : IsUnfinishedReply bytes
  pub below : StaysUnfinishedReply bytes needed
  pub enough :
      (more : List ℕ) → IsCutOffReply bytes → needed ≤ length (bytes ++ more) → IsUnfinishedReply (bytes ++ more) → ⊥

-- `IsReplyCut bytes cut` holds if `cut` describes the front of `bytes` correctly: a reply with its parts, bytes that
-- cannot begin a reply (`IsBadReply`), or less than a reply.
abbrev pub IsReplyCut : List ℕ → ReplyCut → Type 0
IsReplyCut bytes (Variants.Whole p) = IsReplyAt bytes p
IsReplyCut bytes Variants.Bad = IsBadReply bytes
IsReplyCut bytes (Variants.Unfinished needed) = IsUnfinishedReplyBelow bytes needed
