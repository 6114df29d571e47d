-- A stream of requests has one answer: its requests follow each other in one way, and each has one reply.
use Rattle.std.proofs.Common.{◌≡◌, ℕ, zero, suc, ◌⊎◌, inl, inr, Bool, true, false, List, [], ◌++◌, sym, ap, ◌∙◌, subst}
use Rattle.std.proofs.Common.{arith, append_assoc}
use Rattle.std.proofs.lemmas.Bool.{false≢true}
use Rattle.httparse.specs.Grammar.{RequestHead}
use Rattle.http_streams.specs.declared.cut.Framing.TheVariants.{Body, Refused}
use Rattle.http_streams.specs.Request.{IsRefused, IsUnfinished, framing_of, closes_of}
use Rattle.http_streams.specs.ReplyText.{reply_text, error_line}
use Rattle.http.specs.declared.status.StatusCode.{StatusCode}
use Rattle.http_streams.specs.Stream.{Answering, Closes, EndsByReply, Exchanges, Refuses, AnswersAllRequests, Serves}
use Rattle.http_streams.specs.Laws.{AgreeOn, AnswersAll, DiffersInBadTarget, HasOneAnswer, EndsInBadTarget}
use Rattle.http_streams.specs.RequestLaws.{admits_unique, whole_not_unfinished}
use Rattle.http_streams.proofs.OneRequest.{refused-append, refused_unique}
use Rattle.http_streams.specs.RequestLaws.{whole_unique}
use Rattle.http_streams.proofs.OneRequest.{whole_or_refused}
use Rattle.http_streams.proofs.StreamLemmas.{Exchanges-append, Serves-append}

refused_unfinished : (rest : List ℕ) (status : StatusCode) → IsRefused rest status → IsUnfinished rest
    → EndsInBadTarget rest × (status ≡ 400)
refused_unfinished rest status (inl head) (inl cut) =
    let same = admits_unique head.admits cut.admits in
    let framed : Refused status ≡ Body cut.size = sym head.framed ∙ ap framing_of same.0 ∙ cut.framed in
    absurd (cc)
refused_unfinished rest status (inl head) (inr part) = absurd (part.none head.head head.rest head.admits.reads)
refused_unfinished rest status (inr bad) (inl cut) = absurd (bad.1.0 cut.head cut.rest cut.admits)
refused_unfinished rest status (inr (is, (none, inl (inl (h, r, reads, over))))) (inr part) = absurd (part.none h r reads)
refused_unfinished rest status (inr (is, (none, inl (inr long)))) (inr part) = absurd (omega (arith, part.short))
refused_unfinished rest status (inr (is, (none, inr never))) (inr part) =
    elim part.open_still [
      | inl goes_on ↦ absurd (never goes_on.0 goes_on.1 [] goes_on.2)
      | inr target ↦ (record { target = target; never = never; short = part.short }, is)
    ]

pub refuses-append : {S : Type 0} (answers : Answering S) (old new : S) (bytes out more : List ℕ) → Refuses answers old bytes out new
    → Refuses answers old (bytes ++ more) out new
refuses-append answers old new bytes out more (status, refused, is, same) = (status, refused-append bytes more status refused, is, same)

pub closes-append : {S : Type 0} (answers : Answering S) (old new : S) (bytes out more : List ℕ) → Closes answers old bytes out new
    → Closes answers old (bytes ++ more) out new
closes-append answers old new bytes out more (inl (rest, x)) = inl (rest ++ more, Exchanges-append answers x more)
closes-append answers old new bytes out more (inr x) = inr (refuses-append answers old new bytes out more x)

pub ends-append : {S : Type 0} (answers : Answering S) (old new : S) (bytes out more : List ℕ) → EndsByReply answers old bytes out new
    → EndsByReply answers old (bytes ++ more) out new
ends-append answers old new bytes out more e = record {
  count = e.count;
  mid = e.mid;
  rest = e.rest ++ more;
  before = e.before;
  last = e.last;
  serves = Serves-append answers e.count old e.mid bytes e.rest e.before more e.serves;
  closes = closes-append answers e.mid new e.rest e.last more e.closes;
  joined = e.joined;
}

-- two readings of one request are alike but for what the service says
pub last_unique : {S : Type 0} (answers : Answering S) {old old2 new new2 : S} {bytes out out2 rest rest2 : List ℕ} {last last2 : Bool}
    → Exchanges answers old bytes last out new rest → Exchanges answers old2 bytes last2 out2 new2 rest2 → last ≡ last2
last_unique answers x y = let same = whole_unique x.reads y.reads in x.last_is ∙ ap closes_of same.0 ∙ sym y.last_is

pub open_not_closed : {S : Type 0} (answers : Answering S) {old old2 new new2 : S} {bytes out out2 rest : List ℕ}
    → Exchanges answers old bytes false out new rest → Closes answers old2 bytes out2 new2 → ⊥
open_not_closed answers x (inl y) = false≢true (last_unique answers x y.1)
open_not_closed answers x (inr y) = whole_or_refused x.reads y.1

-- an open request stands where the other reading has its last
pub open_not_ended : {S : Type 0} (answers : Answering S) {old old2 mid new new2 : S} {bytes first out rest after last : List ℕ}
    → Exchanges answers old bytes false first new after → Serves answers 0 old2 bytes rest out mid → Closes answers mid rest last new2 → ⊥
open_not_ended answers {mid = mid} {new2 = new2} {last = last} x y e =
    let a = subst (λ (t : List ℕ). Closes answers mid t last new2) (sym y.0) e in open_not_closed answers x a

corner_now : {S : Type 0} (answers : Answering S) (old new : S) (bytes last : List ℕ) → IsUnfinished bytes → Closes answers old bytes last new
    → (old ≡ new) × EndsInBadTarget bytes × (last ≡ reply_text true 400 (error_line 400))
corner_now answers old new bytes last rest (inl x) = absurd (whole_not_unfinished x.1.reads rest)
corner_now answers old new bytes last rest (inr (status, refused, is, kept)) =
    let corner = refused_unfinished bytes status refused rest in
    (sym kept, corner.0, is ∙ ap (λ (n : StatusCode). reply_text true n (error_line n)) corner.1)

module _ {S : Type 0} (answers : Answering S) (same : S → S → Type 0) (one : HasOneAnswer answers same) where
  same_at : {a b c d : S} → same a b → c ≡ a → d ≡ b → same c d
  same_at {a} {b} {c} {d} s e f = subst (λ (t : S). same t d) (sym e) (subst (λ (t : S). same a t) (sym f) s)

  pub exchange_unique : {old old2 new new2 : S} {bytes out out2 rest rest2 : List ℕ} {last last2 : Bool} → same old old2
      → Exchanges answers old bytes last out new rest → Exchanges answers old2 bytes last2 out2 new2 rest2
      → (last ≡ last2) × (out ≡ out2) × same new new2 × (rest ≡ rest2)
  exchange_unique {old} {old2} {new2 = new2} s x y =
      let alike = whole_unique x.reads y.reads in
      let last = last_unique answers x y in
      let moved = subst (λ (b : List ℕ). answers old2 y.head.method y.head.target b y.status y.text new2) (sym alike.1) y.answered in
      let moved_head = subst (λ (h : RequestHead). answers old2 h.method h.target x.body y.status y.text new2) (sym alike.0) moved in
      let reply = one old old2 _ _ _ _ _ _ _ _ _ s x.answered moved_head in (
        last,
        x.out_is ∙ cc (last, reply.0, reply.1) ∙ sym y.out_is,
        reply.2,
        alike.2,
      )

  -- two readings of the same bytes, each to a rest that gets nothing
  pub rests_unique : (n m : ℕ) (old old2 new new2 : S) (bytes rest rest2 out out2 : List ℕ) → same old old2
      → Serves answers n old bytes rest out new → IsUnfinished rest → Serves answers m old2 bytes rest2 out2 new2 → IsUnfinished rest2
      → (out ≡ out2) × same new new2
  rests_unique zero zero old old2 new new2 bytes rest rest2 out out2 s x q y r = (x.1 ∙ sym y.1, same_at s x.2 y.2)
  rests_unique zero (suc m) old old2 new new2 bytes rest rest2 out out2 s x q y r =
      absurd (whole_not_unfinished y.4.reads (subst IsUnfinished (sym x.0) q))
  rests_unique (suc n) zero old old2 new new2 bytes rest rest2 out out2 s x q y r =
      absurd (whole_not_unfinished x.4.reads (subst IsUnfinished (sym y.0) r))
  rests_unique (suc n) (suc m) old old2 new new2 bytes rest rest2 out out2 s x q y r =
      let first = exchange_unique s x.4 y.4 in
      let moved = subst (λ (b : List ℕ). Serves answers m y.0 b rest2 y.3 new2) (sym first.3) y.5 in
      let later = rests_unique n m x.0 y.0 new new2 x.1 rest rest2 x.3 y.3 first.2 x.5 q moved r in
      (x.6 ∙ ap (λ (a : List ℕ). a ++ x.3) first.1 ∙ ap (λ (a : List ℕ). y.2 ++ a) later.0 ∙ sym y.6, later.1)

  closes_unique : (old old2 new new2 : S) (bytes out out2 : List ℕ) → same old old2 → Closes answers old bytes out new
      → Closes answers old2 bytes out2 new2 → (out ≡ out2) × same new new2
  closes_unique old old2 new new2 bytes out out2 s (inl x) (inl y) = let found = exchange_unique s x.1 y.1 in (found.1, found.2)
  closes_unique old old2 new new2 bytes out out2 s (inl x) (inr y) = absurd (whole_or_refused x.1.reads y.1)
  closes_unique old old2 new new2 bytes out out2 s (inr x) (inl y) = absurd (whole_or_refused y.1.reads x.1)
  closes_unique old old2 new new2 bytes out out2 s (inr x) (inr y) =
      let status = refused_unique x.0 y.0 x.1 y.1 in
      (x.2 ∙ ap (λ (n : StatusCode). reply_text true n (error_line n)) status ∙ sym y.2, same_at s x.3 y.3)

  -- two readings of the same bytes, each to a reply that ends the stream
  pub ends_unique : (n m : ℕ) (old old2 mid mid2 new new2 : S) (bytes rest rest2 out out2 last last2 : List ℕ) → same old old2
      → Serves answers n old bytes rest out mid → Closes answers mid rest last new
      → Serves answers m old2 bytes rest2 out2 mid2 → Closes answers mid2 rest2 last2 new2
      → (out ++ last ≡ out2 ++ last2) × same new new2
  ends_unique zero zero old old2 mid mid2 new new2 bytes rest rest2 out out2 last last2 s x e y f =
      let b = subst (λ (t : List ℕ). Closes answers mid t last new) (sym x.0) e in
      let d = subst (λ (t : List ℕ). Closes answers mid2 t last2 new2) (sym y.0) f in
      let found = closes_unique mid mid2 new new2 bytes last last2 (same_at s x.2 y.2) b d in
      (ap (λ (t : List ℕ). t ++ last) (x.1 ∙ sym y.1) ∙ ap (λ (t : List ℕ). out2 ++ t) found.0, found.1)
  ends_unique zero (suc m) old old2 mid mid2 new new2 bytes rest rest2 out out2 last last2 s x e y f = absurd (open_not_ended answers y.4 x e)
  ends_unique (suc n) zero old old2 mid mid2 new new2 bytes rest rest2 out out2 last last2 s x e y f = absurd (open_not_ended answers x.4 y f)
  ends_unique (suc n) (suc m) old old2 mid mid2 new new2 bytes rest rest2 out out2 last last2 s x e y f =
      let first = exchange_unique s x.4 y.4 in
      let moved = subst (λ (b : List ℕ). Serves answers m y.0 b rest2 y.3 mid2) (sym first.3) y.5 in
      let later = ends_unique n m x.0 y.0 mid mid2 new new2 x.1 rest rest2 x.3 y.3 last last2 first.2 x.5 e moved f in (
        ap (λ (t : List ℕ). t ++ last) x.6 ∙ append_assoc x.2 x.3 last ∙ ap (λ (a : List ℕ). a ++ (x.3 ++ last)) first.1
            ∙ ap (λ (a : List ℕ). y.2 ++ a) later.0 ∙ sym (append_assoc y.2 y.3 last2) ∙ sym (ap (λ (t : List ℕ). t ++ last2) y.6),
        later.1,
      )

  -- a reading to a rest that gets nothing, and one to a reply that ends the stream
  rests_ends : (n m : ℕ) (old old2 new mid new2 : S) (bytes rest rest2 out out2 last : List ℕ) → same old old2
      → Serves answers n old bytes rest out new → IsUnfinished rest
      → Serves answers m old2 bytes rest2 out2 mid → Closes answers mid rest2 last new2
      → same new new2 × EndsInBadTarget rest × (out2 ++ last ≡ out ++ reply_text true 400 (error_line 400))
  rests_ends zero zero old old2 new mid new2 bytes rest rest2 out out2 last s x q y e =
      let b = subst (λ (t : List ℕ). Closes answers mid t last new2) (sym y.0 ∙ x.0) e in
      let found = corner_now answers mid new2 rest last q b in (
        same_at s x.2 (sym found.0 ∙ y.2),
        found.1,
        ap (λ (t : List ℕ). t ++ last) (y.1 ∙ sym x.1) ∙ ap (λ (t : List ℕ). out ++ t) found.2,
      )
  rests_ends zero (suc m) old old2 new mid new2 bytes rest rest2 out out2 last s x q y e =
      absurd (whole_not_unfinished y.4.reads (subst IsUnfinished (sym x.0) q))
  rests_ends (suc n) zero old old2 new mid new2 bytes rest rest2 out out2 last s x q y e = absurd (open_not_ended answers x.4 y e)
  rests_ends (suc n) (suc m) old old2 new mid new2 bytes rest rest2 out out2 last s x q y e =
      let first = exchange_unique s x.4 y.4 in
      let moved = subst (λ (b : List ℕ). Serves answers m y.0 b rest2 y.3 mid) (sym first.3) y.5 in
      let corner = reply_text true 400 (error_line 400) in
      let later = rests_ends n m x.0 y.0 new mid new2 x.1 rest rest2 x.3 y.3 last first.2 x.5 q moved e in (
        later.0,
        later.1,
        ap (λ (t : List ℕ). t ++ last) y.6 ∙ append_assoc y.2 y.3 last ∙ ap (λ (a : List ℕ). a ++ (y.3 ++ last)) (sym first.1)
            ∙ ap (λ (a : List ℕ). x.2 ++ a) later.2 ∙ sym (append_assoc x.2 x.3 corner) ∙ sym (ap (λ (t : List ℕ). t ++ corner) x.6),
      )

  mixed : (old old2 new new2 : S) (stream out more : List ℕ) → same old old2 → AnswersAllRequests answers old stream out new
      → EndsByReply answers old2 stream more new2 → same new new2 × DiffersInBadTarget answers old stream out more new
  mixed old old2 new new2 stream out more s x y =
      let found = rests_ends x.count y.count old old2 new y.mid new2 stream x.rest y.rest out y.before y.last s x.serves x.unfinished y.serves y.closes in
      (found.0, (x.count, x.rest, x.serves, found.1, y.joined ∙ found.2))

turned : {S : Type 0} (answers : Answering S) (same : S → S → Type 0) → HasOneAnswer answers same
    → HasOneAnswer answers (λ (a b : S). same b a)
turned answers same one old old2 m t b st st2 x x2 new new2 s first second =
    let found = one old2 old m t b st2 st x2 x new2 new s second first in (sym found.0, sym found.1, found.2)

pub to_end : {S : Type 0} (answers : Answering S) (old new : S) (stream out : List ℕ) → AnswersAll answers old stream out new
    → AnswersAllRequests answers old stream out new ⊎ EndsByReply answers old stream out new
to_end answers old new stream out (inl x) = inl x
to_end answers old new stream out (inr (front, rest, is, x)) =
    inr (subst (λ (t : List ℕ). EndsByReply answers old t out new) (sym is) (ends-append answers old new front out rest x))

module _ {S : Type 0} (answers : Answering S) (same : S → S → Type 0) (one : HasOneAnswer answers same) where
  agree : (old old2 new new2 : S) (stream out more : List ℕ) → same old old2
      → AnswersAllRequests answers old stream out new ⊎ EndsByReply answers old stream out new
      → AnswersAllRequests answers old2 stream more new2 ⊎ EndsByReply answers old2 stream more new2
      → AgreeOn answers same old old2 stream out more new new2
  agree old old2 new new2 stream out more s (inl x) (inl y) =
      let found = rests_unique answers same one x.count y.count old old2 new new2 stream x.rest y.rest out more s x.serves x.unfinished y.serves y.unfinished in
      (found.1, inl found.0)
  agree old old2 new new2 stream out more s (inr x) (inr y) =
      let found = ends_unique answers same one x.count y.count old old2 x.mid y.mid new new2 stream x.rest y.rest x.before y.before x.last y.last s x.serves x.closes y.serves y.closes in
      (found.1, inl (x.joined ∙ found.0 ∙ sym y.joined))
  agree old old2 new new2 stream out more s (inl x) (inr y) =
      let found = mixed answers same one old old2 new new2 stream out more s x y in (found.0, inr (inl found.1))
  agree old old2 new new2 stream out more s (inr x) (inl y) =
      let found = mixed answers (λ (a b : S). same b a) (turned answers same one) old2 old new2 new stream more out s y x in
      (found.0, inr (inr found.1))

  pub agree_on : (old old2 new new2 : S) (stream out more : List ℕ) → same old old2 → AnswersAll answers old stream out new
      → AnswersAll answers old2 stream more new2 → AgreeOn answers same old old2 stream out more new new2
  agree_on old old2 new new2 stream out more s x y =
      agree old old2 new new2 stream out more s (to_end answers old new stream out x) (to_end answers old2 new2 stream more y)
