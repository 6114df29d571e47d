-- What was answered of a stream stays answered when more comes, and each part follows the one before.
use Rattle.std.proofs.Common.{◌≡◌, ℕ, zero, suc, Bool, false, List, [], ◌++◌, drop, refl, sym, ap, ◌∙◌, subst}
use Rattle.std.proofs.Common.{append_assoc, append-nil}
use Rattle.httparse.specs.Spans.{span_bytes}
use Rattle.http_streams.specs.ReplyText.{reply_text}
use Rattle.http_streams.specs.Request.{IsUnfinished, IsWholeAt}
use Rattle.http_streams.specs.RequestLaws.{ReadsWhole-append}
use Rattle.http_streams.specs.declared.cut.Parts.{Parts}
use Rattle.http.specs.declared.status.StatusCode.{StatusCode}
use Rattle.http_streams.specs.Stream.{Answering, Closes, EndsByReply, Exchanges, RepliesInPart, AnswersAllRequests, Serves, StopsWithinReply}

module _ {S : Type 0} (answers : Answering S) where
  -- a whole request that was answered, with its reply
  pub exchanged : {old new : S} (bytes : List ℕ) (p : Parts) (m t : List ℕ) (status : StatusCode) (reply out : List ℕ) → IsWholeAt bytes p
      → m ≡ span_bytes bytes p.method → t ≡ span_bytes bytes p.target
      → answers old m t (span_bytes bytes (record { start = p.body; end = p.end })) status reply new
      → out ≡ reply_text p.closes status reply → Exchanges answers old bytes p.closes out new (drop p.end bytes)
  exchanged {old} {new} bytes p m t status reply out whole e f x g =
      let body = span_bytes bytes (record { start = p.body; end = p.end }) in
      let y = subst (λ (a : List ℕ). answers old a t body status reply new) (e ∙ whole.method) x in
      record {
        head = whole.head;
        body = body;
        status = status;
        text = reply;
        reads = whole.reads;
        answered = subst (λ (a : List ℕ). answers old whole.head.method a body status reply new) (f ∙ whole.target) y;
        last_is = whole.closes;
        out_is = g;
      }

  pub Exchanges-append : {old new : S} {bytes out rest : List ℕ} {last : Bool} → Exchanges answers old bytes last out new rest
      → (more : List ℕ) → Exchanges answers old (bytes ++ more) last out new (rest ++ more)
  Exchanges-append e more = record {
    head = e.head;
    body = e.body;
    status = e.status;
    text = e.text;
    reads = ReadsWhole-append e.reads more;
    answered = e.answered;
    last_is = e.last_is;
    out_is = e.out_is;
  }

  pub status-append : {old new : S} {bytes out rest : List ℕ} {last : Bool} (e : Exchanges answers old bytes last out new rest)
      (more : List ℕ) → (Exchanges-append e more).status ≡ e.status
  unfolding Exchanges-append
  status-append e more = refl

  pub Serves-append : (n : ℕ) (old new : S) (bytes rest out more : List ℕ) → Serves answers n old bytes rest out new
      → Serves answers n old (bytes ++ more) (rest ++ more) out new
  Serves-append zero old new bytes rest out more x = (ap (λ (t : List ℕ). t ++ more) x.0, x.1, x.2)
  Serves-append (suc n) old new bytes rest out more x =
      (x.0, x.1 ++ more, x.2, x.3, Exchanges-append x.4 more, Serves-append n x.0 new x.1 rest x.3 more x.5, x.6)

  -- some requests, and then some more
  pub Serves-then : (n m : ℕ) (old mid new : S) (bytes rest last out more : List ℕ) → Serves answers n old bytes rest out mid
      → Serves answers m mid rest last more new → (k : ℕ) × Serves answers k old bytes last (out ++ more) new
  Serves-then zero m old mid new bytes rest last out more x y = (
    m,
    (
        let a = subst (λ (t : List ℕ). Serves answers m mid t last more new) (sym x.0) y in
        let b = subst (λ (s : S). Serves answers m s bytes last more new) x.2 a in
        subst (λ (t : List ℕ). Serves answers m old bytes last (t ++ more) new) (sym x.1) b
        ),
  )
  Serves-then (suc n) m old mid new bytes rest last out more x y =
      let k = Serves-then n m x.0 mid new x.1 rest last x.3 more x.5 y in
      (suc k.0, (x.0, x.1, x.2, x.3 ++ more, x.4, k.1, ap (λ (t : List ℕ). t ++ more) x.6 ∙ append_assoc x.2 x.3 more))

  -- none yet
  pub Serves-none : (old : S) (bytes : List ℕ) → Serves answers 0 old bytes bytes [] old
  Serves-none old bytes = (refl, refl, refl)

  -- one more
  pub Serves-push : (n : ℕ) (old mid new : S) (bytes rest last out more : List ℕ) → Serves answers n old bytes rest out mid
      → Exchanges answers mid rest false more new last → (k : ℕ) × Serves answers k old bytes last (out ++ more) new
  Serves-push n old mid new bytes rest last out more x e =
      Serves-then n 1 old mid new bytes rest last out more x (new, last, more, [], e, (refl, refl, refl), sym (append-nil more))

  pub EndsByReply-after : (n : ℕ) (old mid new : S) (bytes rest out more : List ℕ) → Serves answers n old bytes rest out mid
      → EndsByReply answers mid rest more new → EndsByReply answers old bytes (out ++ more) new
  EndsByReply-after n old mid new bytes rest out more x e =
      let k = Serves-then n e.count old mid e.mid bytes rest e.rest out e.before x e.serves in
      record {
        count = k.0;
        mid = e.mid;
        rest = e.rest;
        before = out ++ e.before;
        last = e.last;
        serves = k.1;
        closes = e.closes;
        joined = ap (λ (t : List ℕ). out ++ t) e.joined ∙ sym (append_assoc out e.before e.last);
      }

  pub StopsWithinReply-after : (n : ℕ) (old mid new : S) (bytes rest out more : List ℕ) → Serves answers n old bytes rest out mid
      → StopsWithinReply answers mid rest more new → StopsWithinReply answers old bytes (out ++ more) new
  StopsWithinReply-after n old mid new bytes rest out more x e =
      let k = Serves-then n e.count old mid e.mid bytes rest e.rest out e.before x e.serves in
      record {
        count = k.0;
        mid = e.mid;
        rest = e.rest;
        before = out ++ e.before;
        last = e.last;
        serves = k.1;
        replies_in_part = e.replies_in_part;
        joined = ap (λ (t : List ℕ). out ++ t) e.joined ∙ sym (append_assoc out e.before e.last);
      }

  -- the first thing that stands there ends it
  pub EndsByReply-now : (old new : S) (bytes out : List ℕ) → Closes answers old bytes out new → EndsByReply answers old bytes out new
  EndsByReply-now old new bytes out x = record {
    count = 0;
    mid = old;
    rest = bytes;
    before = [];
    last = out;
    serves = Serves-none old bytes;
    closes = x;
    joined = refl;
  }

  pub StopsWithinReply-now : (old new : S) (bytes out : List ℕ) → RepliesInPart answers old bytes out new → StopsWithinReply answers old bytes out new
  StopsWithinReply-now old new bytes out x = record {
    count = 0;
    mid = old;
    rest = bytes;
    before = [];
    last = out;
    serves = Serves-none old bytes;
    replies_in_part = x;
    joined = refl;
  }

  -- the same facts at equal bytes
  pub Exchanges-at : {old new : S} {bytes same out rest : List ℕ} {last is : Bool} → bytes ≡ same → last ≡ is
      → Exchanges answers old bytes last out new rest → Exchanges answers old same is out new rest
  Exchanges-at {old} {new} {bytes} {same} {out} {rest} {last} {is} e f x =
      subst (λ (b : Bool). Exchanges answers old same b out new rest) f
      (subst (λ (t : List ℕ). Exchanges answers old t last out new rest) e x)

  pub RepliesInPart-at : (old new : S) {bytes same : List ℕ} (out : List ℕ) → bytes ≡ same → RepliesInPart answers old bytes out new → RepliesInPart answers old same out new
  RepliesInPart-at old new out e x = subst (λ (t : List ℕ). RepliesInPart answers old t out new) e x

  -- the state in which the loop reads on: how much was read and written, and what is left to answer
  pub AnswersAllRequests-from : (n : ℕ) (old new : S) (bytes rest out : List ℕ) → Serves answers n old bytes rest out new → IsUnfinished rest
      → AnswersAllRequests answers old bytes out new
  AnswersAllRequests-from n old new bytes rest out x unfinished = record { count = n; rest = rest; serves = x; unfinished = unfinished }

  -- after a read
  pub Serves-read : (n : ℕ) (old new : S) (bytes rest out more whole : List ℕ) → Serves answers n old bytes rest out new
      → whole ≡ rest ++ more → Serves answers n old (bytes ++ more) whole out new
  Serves-read n old new bytes rest out more whole x is =
      subst (λ (t : List ℕ). Serves answers n old (bytes ++ more) t out new) (sym is) (Serves-append n old new bytes rest out more x)
