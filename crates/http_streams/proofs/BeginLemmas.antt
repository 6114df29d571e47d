-- What went out before a fault is a beginning of what goes out without it.
use Rattle.std.proofs.Common.{◌≡◌, ℕ, zero, suc, ◌⊎◌, inl, inr, true, false, List, [], ◌++◌, refl, sym, ap, ◌∙◌, subst}
use Rattle.std.proofs.Common.{append_assoc, append-nil}
use Rattle.http_streams.specs.Laws.{AnswersAll, BeginsAnswer, HasOneAnswer, StopsIn}
use Rattle.http_streams.specs.ReplyText.{error_line, reply_text}
use Rattle.http_streams.specs.Request.{IsUnfinished}
use Rattle.http_streams.specs.Stream.{Answering, Closes, EndsByReply, RepliesInPart, AnswersAllRequests, Serves}
use Rattle.http_streams.proofs.StreamLemmas.{Exchanges-append, Serves-append, Serves-push}
use Rattle.http_streams.proofs.UniqueLemmas.{agree_on, refuses-append, exchange_unique, open_not_ended, to_end}
use Rattle.http_streams.specs.RequestLaws.{whole_not_unfinished}

pub replies_in_part-append : {S : Type 0} (answers : Answering S) (old new : S) (bytes out more : List ℕ) → RepliesInPart answers old bytes out new
    → RepliesInPart answers old (bytes ++ more) out new
replies_in_part-append answers old new bytes out more (back, some, inl (rest, last, e)) =
    (back, some, inl (rest ++ more, last, Exchanges-append answers e more))
replies_in_part-append answers old new bytes out more (back, some, inr e) =
    (back, some, inr (refuses-append answers old new bytes (out ++ back) more e))

module _ {S : Type 0} (answers : Answering S) (same : S → S → Type 0) (one : HasOneAnswer answers same) where
  serves_rests : (k m : ℕ) (old old2 mid new : S) (s r r2 b out : List ℕ) → same old old2 → Serves answers k old s r b mid
      → Serves answers m old2 s r2 out new → IsUnfinished r2 → (back : List ℕ) × (out ≡ b ++ back)
  serves_rests zero m old old2 mid new s r r2 b out w x y t = (out, ap (λ (a : List ℕ). a ++ out) (sym x.1))
  serves_rests (suc k) zero old old2 mid new s r r2 b out w x y t = absurd (whole_not_unfinished x.4.reads (subst IsUnfinished (sym y.0) t))
  serves_rests (suc k) (suc m) old old2 mid new s r r2 b out w x y t =
      let first = exchange_unique answers same one w x.4 y.4 in
      let moved = subst (λ (a : List ℕ). Serves answers m y.0 a r2 y.3 new) (sym first.3) y.5 in
      let later = serves_rests k m x.0 y.0 mid new x.1 r r2 x.3 y.3 first.2 x.5 moved t in (
        later.0,
        y.6 ∙ ap (λ (a : List ℕ). a ++ y.3) (sym first.1) ∙ ap (λ (a : List ℕ). x.2 ++ a) later.1 ∙ sym (append_assoc x.2 x.3 later.0)
            ∙ ap (λ (a : List ℕ). a ++ later.0) (sym x.6),
      )

  serves_ends : (k m : ℕ) (old old2 mid mid2 new : S) (s r r2 b out last : List ℕ) → same old old2 → Serves answers k old s r b mid
      → Serves answers m old2 s r2 out mid2 → Closes answers mid2 r2 last new → (back : List ℕ) × (out ++ last ≡ b ++ back)
  serves_ends zero m old old2 mid mid2 new s r r2 b out last w x y e = (out ++ last, ap (λ (a : List ℕ). a ++ (out ++ last)) (sym x.1))
  serves_ends (suc k) zero old old2 mid mid2 new s r r2 b out last w x y e = absurd (open_not_ended answers x.4 y e)
  serves_ends (suc k) (suc m) old old2 mid mid2 new s r r2 b out last w x y e =
      let first = exchange_unique answers same one w x.4 y.4 in
      let moved = subst (λ (a : List ℕ). Serves answers m y.0 a r2 y.3 mid2) (sym first.3) y.5 in
      let later = serves_ends k m x.0 y.0 mid mid2 new x.1 r r2 x.3 y.3 last first.2 x.5 moved e in (
        later.0,
        ap (λ (a : List ℕ). a ++ last) y.6 ∙ append_assoc y.2 y.3 last ∙ ap (λ (a : List ℕ). a ++ (y.3 ++ last)) (sym first.1)
            ∙ ap (λ (a : List ℕ). x.2 ++ a) later.1 ∙ sym (append_assoc x.2 x.3 later.0) ∙ ap (λ (a : List ℕ). a ++ later.0) (sym x.6),
      )

  serves_all : (k : ℕ) (old old2 mid new : S) (s r b more : List ℕ) → same old old2 → Serves answers k old s r b mid
      → AnswersAllRequests answers old2 s more new ⊎ EndsByReply answers old2 s more new → (back : List ℕ) × (more ≡ b ++ back)
  serves_all k old old2 mid new s r b more w x (inl y) = serves_rests k y.count old old2 mid new s r y.rest b more w x y.serves y.unfinished
  serves_all k old old2 mid new s r b more w x (inr y) =
      let found = serves_ends k y.count old old2 mid y.mid new s r y.rest b y.before y.last w x y.serves y.closes in
      (found.0, y.joined ∙ found.1)

  -- a reply that ends the stream, of which a first part went out
  closing : (k : ℕ) (old old2 mid other new : S) (s r b front back more : List ℕ) → same old old2 → Serves answers k old s r b mid
      → Closes answers mid r (front ++ back) new → AnswersAll answers old2 s more other → BeginsAnswer answers old2 s (b ++ front) more other
  closing k old old2 mid other new s r b front back more w x e y =
      let refusal = reply_text true 400 (error_line 400) in
      let ends : EndsByReply answers old s (b ++ (front ++ back)) new = record {
        count = k;
        mid = mid;
        rest = r;
        before = b;
        last = front ++ back;
        serves = x;
        closes = e;
        joined = refl;
      } in
      let agreed = agree_on answers same one old old2 new other s (b ++ (front ++ back)) more w (inr (s, [], sym (append-nil s), ends)) y in
      elim agreed.1 [
        | inl equal ↦ inl (back, sym equal ∙ sym (append_assoc b front back))
        | inr corner ↦ elim corner [
          | inl short ↦ inl (back ++ refusal, short.4 ∙ ap (λ (a : List ℕ). a ++ refusal) (sym (append_assoc b front back)) ∙ append_assoc (b ++ front) back refusal)
          | inr long ↦ inr (long.0, long.1, long.2, long.3, back, append_assoc b front back ∙ long.4)
        ]
      ]

  halting : (k : ℕ) (old old2 mid other new : S) (s r b last more : List ℕ) → same old old2 → Serves answers k old s r b mid
      → RepliesInPart answers mid r last new → AnswersAll answers old2 s more other → BeginsAnswer answers old2 s (b ++ last) more other
  halting k old old2 mid other new s r b last more w x (back, some, inl (rest, true, e)) y =
      closing k old old2 mid other new s r b last back more w x (inl (rest, e)) y
  halting k old old2 mid other new s r b last more w x (back, some, inl (rest, false, e)) y =
      let pushed = Serves-push answers k old mid new s r rest b (last ++ back) x e in
      let found = serves_all pushed.0 old old2 new other s rest (b ++ (last ++ back)) more w pushed.1 (to_end answers old2 other s more y) in
      inl (
        back ++ found.0,
        found.1 ∙ ap (λ (a : List ℕ). a ++ found.0) (sym (append_assoc b last back)) ∙ append_assoc (b ++ last) back found.0,
      )
  halting k old old2 mid other new s r b last more w x (back, some, inr e) y =
      closing k old old2 mid other new s r b last back more w x (inr e) y

  pub begins_answer : (old old2 new other : S) (stream out more : List ℕ) → same old old2 → StopsIn answers old stream out new
      → AnswersAll answers old2 stream more other → BeginsAnswer answers old2 stream out more other
  begins_answer old old2 new other stream out more w (front, after, is, inl e) y =
      let serves = subst (λ (t : List ℕ). Serves answers e.count old t (e.rest ++ after) out new) (sym is)
      (Serves-append answers e.count old new front e.rest out after e.serves) in
      inl (serves_all e.count old old2 new other stream (e.rest ++ after) out more w serves (to_end answers old2 other stream more y))
  begins_answer old old2 new other stream out more w (front, after, is, inr e) y =
      let serves = subst (λ (t : List ℕ). Serves answers e.count old t (e.rest ++ after) e.before e.mid) (sym is)
      (Serves-append answers e.count old e.mid front e.rest e.before after e.serves) in
      let replies_in_part = replies_in_part-append answers e.mid new e.rest e.last after e.replies_in_part in
      subst (λ (t : List ℕ). BeginsAnswer answers old2 stream t more other) (sym e.joined)
      (halting e.count old old2 e.mid other new stream (e.rest ++ after) e.before e.last more w serves replies_in_part y)
