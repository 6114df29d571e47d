-- Each answer to a stream is one in memory, or has a reply in it that memory was refused.
use Rattle.std.proofs.Common.{◌≡◌, ◌≢◌, ℕ, zero, suc, ◌⊎◌, inl, inr, Bool, List, [], ◌++◌, refl, sym, ap, ◌∙◌, subst}
use Rattle.std.proofs.Common.{append_assoc, append-nil}
use Rattle.http_streams.specs.Laws.{AnswersAll, HasFirst503, StopsIn, in_memory}
use Rattle.std.proofs.lemmas.Bool.Decides.{eqb_tells}
use Rattle.http.specs.declared.status.StatusCode.{StatusCode}
use Rattle.http_streams.specs.Stream.{Answering, Closes, EndsByReply, Exchanges, RepliesInPart, AnswersAllRequests, Serves, StopsWithinReply}
use Rattle.http_streams.proofs.StreamLemmas.{Exchanges-append, Serves-append, Serves-none, Serves-then, status-append}

decide : (s : StatusCode) → (s ≡ 503) ⊎ (s ≢ 503)
decide s = elim (eqb_tells s 503) [ inl same ↦ inl same.1 | inr other ↦ inr other.1 ]

module _ {S : Type 0} (answers : Answering S) where
  narrow : {old new : S} {bytes out rest : List ℕ} {last : Bool} (e : Exchanges answers old bytes last out new rest)
      → e.status ≢ 503 → Exchanges (in_memory answers) old bytes last out new rest
  narrow e other = record {
    head = e.head;
    body = e.body;
    status = e.status;
    text = e.text;
    reads = e.reads;
    answered = (e.answered, other);
    last_is = e.last_is;
    out_is = e.out_is;
  }

  -- the first request is answered by 503
  first : {old new : S} {bytes rest : List ℕ} {last : Bool} (sent unsent back : List ℕ)
      (e : Exchanges answers old bytes last (sent ++ unsent) new rest) → e.status ≡ 503 → (unsent ≡ []) ⊎ (back ≡ [])
      → HasFirst503 answers old bytes (sent ++ back) unsent
  first {old} {new} {bytes} {rest} {last} sent unsent back e is all = record {
    count = 0;
    mid = old;
    rest = bytes;
    before = [];
    served = Serves-none (in_memory answers) old bytes;
    last = last;
    sent = sent;
    new = new;
    later = rest;
    refused = e;
    is = is;
    back = back;
    joined = refl;
    whole_or_last = all;
  }

  -- all of the 503 went out
  first_whole : {old new : S} {bytes reply rest : List ℕ} {last : Bool} (e : Exchanges answers old bytes last reply new rest)
      → e.status ≡ 503 → (back : List ℕ) → HasFirst503 answers old bytes (reply ++ back) []
  first_whole {old} {new} {bytes} {reply} {rest} {last} e is back =
      let same : reply ++ [] ≡ reply = append-nil reply in
      first reply [] back (record {
        head = e.head;
        body = e.body;
        status = e.status;
        text = e.text;
        reads = e.reads;
        answered = e.answered;
        last_is = e.last_is;
        out_is = same ∙ e.out_is;
      }) is (inl refl)

  -- some requests before it are answered in memory
  behind : (n : ℕ) (old mid : S) (bytes rest before out unsent : List ℕ) → Serves (in_memory answers) n old bytes rest before mid
      → HasFirst503 answers mid rest out unsent → HasFirst503 answers old bytes (before ++ out) unsent
  behind n old mid bytes rest before out unsent x l =
      let all = Serves-then (in_memory answers) n l.count old mid l.mid bytes rest l.rest before l.before x l.served in
      record {
        count = all.0;
        mid = l.mid;
        rest = l.rest;
        before = before ++ l.before;
        served = all.1;
        last = l.last;
        sent = l.sent;
        new = l.new;
        later = l.later;
        refused = l.refused;
        is = l.is;
        back = l.back;
        joined =
            ap (λ (t : List ℕ). before ++ t) l.joined ∙ sym (append_assoc before (l.before ++ l.sent) l.back)
            ∙ ap (λ (t : List ℕ). t ++ l.back) (sym (append_assoc before l.before l.sent));
        whole_or_last = l.whole_or_last;
      }

  -- more goes out behind a whole one
  and_more : (old : S) (bytes out more : List ℕ) → HasFirst503 answers old bytes out [] → HasFirst503 answers old bytes (out ++ more) []
  and_more old bytes out more l = record {
    count = l.count;
    mid = l.mid;
    rest = l.rest;
    before = l.before;
    served = l.served;
    last = l.last;
    sent = l.sent;
    new = l.new;
    later = l.later;
    refused = l.refused;
    is = l.is;
    back = l.back ++ more;
    joined =
        ap (λ (t : List ℕ). t ++ more) l.joined ∙ append_assoc (l.before ++ l.sent) l.back more;
    whole_or_last = inl refl;
  }

  -- more comes
  in_front : (old : S) (bytes more out unsent : List ℕ) → HasFirst503 answers old bytes out unsent
      → HasFirst503 answers old (bytes ++ more) out unsent
  in_front old bytes more out unsent l = record {
    count = l.count;
    mid = l.mid;
    rest = l.rest ++ more;
    before = l.before;
    served = Serves-append (in_memory answers) l.count old l.mid bytes l.rest l.before more l.served;
    last = l.last;
    sent = l.sent;
    new = l.new;
    later = l.later ++ more;
    refused = Exchanges-append answers l.refused more;
    is = status-append answers l.refused more ∙ l.is;
    back = l.back;
    joined = l.joined;
    whole_or_last = l.whole_or_last;
  }

  lacks_at : (old : S) (bytes unsent : List ℕ) {out same : List ℕ} → same ≡ out → HasFirst503 answers old bytes out unsent
      → HasFirst503 answers old bytes same unsent
  lacks_at old bytes unsent e l = subst (λ (t : List ℕ). HasFirst503 answers old bytes t unsent) (sym e) l

  served : (n : ℕ) (old new : S) (bytes rest out : List ℕ) → Serves answers n old bytes rest out new
      → Serves (in_memory answers) n old bytes rest out new ⊎ HasFirst503 answers old bytes out []
  served zero old new bytes rest out x = inl x
  served (suc n) old new bytes rest out x =
      elim (decide x.4.status) [
        | inl is ↦ inr (lacks_at old bytes [] x.6 (first_whole x.4 is x.3))
        | inr other ↦ elim (served n x.0 new x.1 rest x.3 x.5) [
          | inl y ↦ inl (x.0, x.1, x.2, x.3, narrow x.4 other, y, x.6)
          | inr l ↦ inr (lacks_at old bytes [] x.6 (behind 1 old x.0 bytes x.1 x.2 x.3 []
              (x.0, x.1, x.2, [], narrow x.4 other, (refl, refl, refl), sym (append-nil x.2)) l))
        ]
      ]

  closes : (old new : S) (bytes out : List ℕ) → Closes answers old bytes out new
      → Closes (in_memory answers) old bytes out new ⊎ HasFirst503 answers old bytes out []
  closes old new bytes out (inl (rest, e)) =
      elim (decide e.status) [
        | inl is ↦ inr (lacks_at old bytes [] (sym (append-nil out)) (first_whole e is []))
        | inr other ↦ inl (inl (rest, narrow e other))
      ]
  closes old new bytes out (inr refused) = inl (inr refused)

  rests : (old new : S) (bytes out : List ℕ) → AnswersAllRequests answers old bytes out new
      → AnswersAllRequests (in_memory answers) old bytes out new ⊎ HasFirst503 answers old bytes out []
  rests old new bytes out x =
      elim (served x.count old new bytes x.rest out x.serves) [
        | inl y ↦ inl (record { count = x.count; rest = x.rest; serves = y; unfinished = x.unfinished })
        | inr l ↦ inr l
      ]

  ends : (old new : S) (bytes out : List ℕ) → EndsByReply answers old bytes out new
      → EndsByReply (in_memory answers) old bytes out new ⊎ HasFirst503 answers old bytes out []
  ends old new bytes out x =
      elim (served x.count old x.mid bytes x.rest x.before x.serves) [
        | inl y ↦ elim (closes x.mid new x.rest x.last x.closes) [
          | inl e ↦ inl (record { count = x.count; mid = x.mid; rest = x.rest; before = x.before; last = x.last; serves = y; closes = e; joined = x.joined })
          | inr l ↦ inr (lacks_at old bytes [] x.joined (behind x.count old x.mid bytes x.rest x.before x.last [] y l))
        ]
        | inr l ↦ inr (lacks_at old bytes [] x.joined (and_more old bytes x.before x.last l))
      ]

  at_stream : (old : S) (front rest stream out unsent : List ℕ) → stream ≡ front ++ rest → HasFirst503 answers old front out unsent
      → HasFirst503 answers old stream out unsent
  at_stream old front rest stream out unsent is l =
      subst (λ (t : List ℕ). HasFirst503 answers old t out unsent) (sym is) (in_front old front rest out unsent l)

  pub whole : (old new : S) (stream out : List ℕ) → AnswersAll answers old stream out new
      → AnswersAll (in_memory answers) old stream out new ⊎ HasFirst503 answers old stream out []
  whole old new stream out (inl x) =
      elim (rests old new stream out x) [ inl y ↦ inl (inl y) | inr l ↦ inr l ]
  whole old new stream out (inr (front, rest, is, x)) =
      elim (ends old new front out x) [
        | inl y ↦ inl (inr (front, rest, is, y))
        | inr l ↦ inr (at_stream old front rest stream out [] is l)
      ]

  -- ---- where it broke off

  breaks : (old new : S) (bytes out back rest : List ℕ) (last : Bool) (e : Exchanges answers old bytes last (out ++ back) new rest)
      → e.status ≡ 503 → HasFirst503 answers old bytes out back
  breaks old new bytes out back rest last e is =
      lacks_at old bytes back (sym (append-nil out)) (first out back [] e is (inr refl))

  replies_in_part : (old new : S) (bytes out : List ℕ) → RepliesInPart answers old bytes out new
      → RepliesInPart (in_memory answers) old bytes out new ⊎ ((unsent : List ℕ) × HasFirst503 answers old bytes out unsent)
  replies_in_part old new bytes out (back, some, inl (rest, last, e)) =
      elim (decide e.status) [
        | inl is ↦ inr (back, breaks old new bytes out back rest last e is)
        | inr other ↦ inl (back, some, inl (rest, last, narrow e other))
      ]
  replies_in_part old new bytes out (back, some, inr refused) = inl (back, some, inr refused)

  stops : (old new : S) (bytes out : List ℕ) → StopsWithinReply answers old bytes out new
      → StopsWithinReply (in_memory answers) old bytes out new ⊎ ((unsent : List ℕ) × HasFirst503 answers old bytes out unsent)
  stops old new bytes out x =
      elim (served x.count old x.mid bytes x.rest x.before x.serves) [
        | inl y ↦ elim (replies_in_part x.mid new x.rest x.last x.replies_in_part) [
          | inl e ↦ inl (record { count = x.count; mid = x.mid; rest = x.rest; before = x.before; last = x.last; serves = y; replies_in_part = e; joined = x.joined })
          | inr b ↦ inr (b.0, lacks_at old bytes b.0 x.joined (behind x.count old x.mid bytes x.rest x.before x.last b.0 y b.1))
        ]
        | inr l ↦ inr ([], lacks_at old bytes [] x.joined (and_more old bytes x.before x.last l))
      ]

  pub broken : (old new : S) (stream out : List ℕ) → StopsIn answers old stream out new
      → StopsIn (in_memory answers) old stream out new ⊎ ((unsent : List ℕ) × HasFirst503 answers old stream out unsent)
  broken old new stream out (front, rest, is, inl x) =
      elim (rests old new front out x) [
        | inl y ↦ inl (front, rest, is, inl y)
        | inr l ↦ inr ([], at_stream old front rest stream out [] is l)
      ]
  broken old new stream out (front, rest, is, inr x) =
      elim (stops old new front out x) [
        | inl y ↦ inl (front, rest, is, inr y)
        | inr l ↦ inr (l.0, at_stream old front rest stream out l.0 is l.1)
      ]
