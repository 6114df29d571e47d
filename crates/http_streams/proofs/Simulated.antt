-- Where each answer of one service is an answer of another, between states that belong to its own, so is each stream.
use Rattle.std.proofs.Common.{ℕ, zero, suc, Bool, true, false, Option, List, ◌++◌, Result, Ok, Err, refl, sym, subst}
use Rattle.std.proofs.Common.{inl, inr}
use Rattle.http.specs.declared.status.StatusCode.{StatusCode}
use Rattle.http_streams.specs.Stream.{Answering, Closes, EndsByReply, Exchanges, RepliesInPart, RepliesPromptly, AnswersAllRequests, Serves, StopsWithinReply}
use Rattle.http_streams.specs.Serving.{EndsAs, IsAnswered}
use Rattle.http_streams.specs.declared.serve.LoggedFault.{LoggedFault}
use Rattle.http_streams.specs.declared.serve.LoggedFault.TheVariants.{Stream, Log}
use Rattle.http_streams.specs.declared.serve.StreamFault.TheVariants as fault

module _ {S T : Type 0} (says : Answering S) (tells : Answering T) (Meets : S → T → Type 0)
    (lifts : (a b : S) (x : T) (m t body : List ℕ) (status : StatusCode) (line : List ℕ) → Meets a x
    → says a m t body status line b → (y : T) × tells x m t body status line y × Meets b y) where
  pub exchanges : (a b : S) (x : T) (bytes : List ℕ) (last : Bool) (out rest : List ℕ) → Meets a x
      → Exchanges says a bytes last out b rest → (y : T) × Exchanges tells x bytes last out y rest × Meets b y
  exchanges a b x bytes last out rest meets h =
      let one = lifts a b x h.head.method h.head.target h.body h.status h.text meets h.answered in (
        one.0,
        record {
          head = h.head;
          body = h.body;
          status = h.status;
          text = h.text;
          reads = h.reads;
          answered = one.1;
          last_is = h.last_is;
          out_is = h.out_is;
        },
        one.2,
      )

  serves : (n : ℕ) (a b : S) (x : T) (bytes rest out : List ℕ) → Meets a x → Serves says n a bytes rest out b
      → (y : T) × Serves tells n x bytes rest out y × Meets b y
  serves zero a b x bytes rest out meets h = (x, (h.0, h.1, refl), subst (λ (c : S). Meets c x) (sym h.2) meets)
  serves (suc n) a b x bytes rest out meets h =
      let one = exchanges a h.0 x bytes false h.2 h.1 meets h.4 in
      let more = serves n h.0 b one.0 h.1 rest h.3 one.2 h.5 in
      (more.0, (one.0, h.1, h.2, h.3, one.1, more.1, h.6), more.2)

  closes : (a b : S) (x : T) (bytes out : List ℕ) → Meets a x → Closes says a bytes out b
      → (y : T) × Closes tells x bytes out y × Meets b y
  closes a b x bytes out meets (inl h) =
      let one = exchanges a b x bytes true out h.0 meets h.1 in (one.0, inl (h.0, one.1), one.2)
  closes a b x bytes out meets (inr h) =
      (x, inr (h.0, h.1, h.2, refl), subst (λ (c : S). Meets c x) (sym h.3) meets)

  replies_in_part : (a b : S) (x : T) (bytes out : List ℕ) → Meets a x → RepliesInPart says a bytes out b
      → (y : T) × RepliesInPart tells x bytes out y × Meets b y
  replies_in_part a b x bytes out meets (back, some, inl h) =
      let one = exchanges a b x bytes h.1 (out ++ back) h.0 meets h.2 in
      (one.0, (back, some, inl (h.0, h.1, one.1)), one.2)
  replies_in_part a b x bytes out meets (back, some, inr h) =
      (x, (back, some, inr (h.0, h.1, h.2, refl)), subst (λ (c : S). Meets c x) (sym h.3) meets)

  rests : (a b : S) (x : T) (bytes out : List ℕ) → Meets a x → AnswersAllRequests says a bytes out b
      → (y : T) × AnswersAllRequests tells x bytes out y × Meets b y
  rests a b x bytes out meets h =
      let all = serves h.count a b x bytes h.rest out meets h.serves in
      (all.0, record { count = h.count; rest = h.rest; serves = all.1; unfinished = h.unfinished }, all.2)

  ends : (a b : S) (x : T) (bytes out : List ℕ) → Meets a x → EndsByReply says a bytes out b
      → (y : T) × EndsByReply tells x bytes out y × Meets b y
  ends a b x bytes out meets h =
      let all = serves h.count a h.mid x bytes h.rest h.before meets h.serves in
      let last = closes h.mid b all.0 h.rest h.last all.2 h.closes in (
        last.0,
        record {
          count = h.count;
          mid = all.0;
          rest = h.rest;
          before = h.before;
          last = h.last;
          serves = all.1;
          closes = last.1;
          joined = h.joined;
        },
        last.2,
      )

  stops : (a b : S) (x : T) (bytes out : List ℕ) → Meets a x → StopsWithinReply says a bytes out b
      → (y : T) × StopsWithinReply tells x bytes out y × Meets b y
  stops a b x bytes out meets h =
      let all = serves h.count a h.mid x bytes h.rest h.before meets h.serves in
      let last = replies_in_part h.mid b all.0 h.rest h.last all.2 h.replies_in_part in (
        last.0,
        record {
          count = h.count;
          mid = all.0;
          rest = h.rest;
          before = h.before;
          last = h.last;
          serves = all.1;
          replies_in_part = last.1;
          joined = h.joined;
        },
        last.2,
      )

  module _ {R W : Type 0} (left : R → Option (List ℕ)) (read_failures : R → ℕ) (reads : R → ℕ → List ℕ → R → Type 0)
      (read_fails : R → R → Type 0) (holds : W → Option (List ℕ)) (write_failures : W → ℕ)
      (write_fails : W → W → Type 0) where
    keeps_up : (a : S) (x : T) (first last : R) (bytes out : List ℕ) → Meets a x
        → RepliesPromptly says left reads a first last bytes out → RepliesPromptly tells left reads x first last bytes out
    keeps_up a x first last bytes out meets h =
        let all = rests a h.state x h.front h.sent meets h.answered in
        record {
          front = h.front;
          sent = h.sent;
          more = h.more;
          state = all.0;
          answered = all.1;
          read = h.read;
          joined = h.joined;
        }

    abbrev Says : R → R → W → W → S → S → List ℕ → List ℕ → Result (Unit {0}) LoggedFault → Type 0
    Says = EndsAs says left read_failures reads read_fails holds write_failures write_fails

    abbrev Tells : R → R → W → W → T → T → List ℕ → List ℕ → Result (Unit {0}) LoggedFault → Type 0
    Tells = EndsAs tells left read_failures reads read_fails holds write_failures write_fails

    ends_as : (first last : R) (before after : W) (a b : S) (x : T) (bytes out : List ℕ)
        (result : Result (Unit {0}) LoggedFault) → Meets a x → Says first last before after a b bytes out result
        → (y : T) × Tells first last before after x y bytes out result × Meets b y
    ends_as first last before after a b x bytes out (Ok done) meets (inl h, read, written) =
        let all = rests a b x bytes out meets h.0 in (all.0, (inl (all.1, h.1, h.2), read, written), all.2)
    ends_as first last before after a b x bytes out (Ok done) meets (inr h, read, written) =
        let all = ends a b x bytes out meets h.0 in
        (all.0, (inr (all.1, keeps_up a x first last bytes out meets h.1), read, written), all.2)
    ends_as first last before after a b x bytes out (Err (Stream fault.Read)) meets h =
        let all = rests a b x bytes out meets h.0 in (all.0, (all.1, h.1, h.2), all.2)
    ends_as first last before after a b x bytes out (Err (Stream fault.NoMemory)) meets h =
        let all = rests a b x bytes out meets h.0 in (all.0, (all.1, h.1, h.2), all.2)
    ends_as first last before after a b x bytes out (Err (Stream fault.Write)) meets h =
        let all = stops a b x bytes out meets h.0 in
        (all.0, (all.1, keeps_up a x first last bytes out meets h.1, h.2, h.3), all.2)
    ends_as first last before after a b x bytes out (Err Log) meets h =
        let all = stops a b x bytes out meets h.0 in
        (all.0, (all.1, keeps_up a x first last bytes out meets h.1, h.2, h.3), all.2)

    -- the same was read and written, and it ended the same way
    pub answered : (first last : R) (before after : W) (a b : S) (x : T) (result : Result (Unit {0}) LoggedFault)
        → Meets a x
        → IsAnswered says left read_failures reads read_fails holds write_failures write_fails first last before after a b
        result
        → (y : T)
        × IsAnswered tells left read_failures reads read_fails holds write_failures write_fails first last before after x
        y result
        × Meets b y
    answered first last before after a b x result meets h =
        let all = ends_as first last before after a b x h.bytes h.out result meets h.ended in (
          all.0,
          record { bytes = h.bytes; out = h.out; read = h.read; written = h.written; ended = all.1 },
          all.2,
        )
