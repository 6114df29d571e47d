-- What one call of a framed service does with the front of some bytes.
use Rattle.std.proofs.Common.{◌≡◌, ◌+◌, ℕ, max, Bool, List, [], ◌∷◌, ◌++◌, length, take, drop, sym, ap, ◌∙◌, subst, arith, append_assoc, append-nil, length-append}
use Rattle.std.proofs.lemmas.List.{append_cancel_right, take-append-drop, take_all}
use Rattle.httparse.specs.Grammar.{RequestHead, print_request}
use Rattle.http.specs.declared.status.StatusCode.{StatusCode}
use Rattle.http_streams.specs.Request.{IsRefused, IsUnfinished, IsUnfinishedBelow, ReadsWhole, StaysUnfinished}
use Rattle.http_streams.specs.Stream.{Answering, Exchanges}

-- a whole request, without what follows it
ReadsWhole-alone : (front rest body : List ℕ) (h : RequestHead) → ReadsWhole (front ++ rest) h body rest → ReadsWhole front h body []
ReadsWhole-alone front rest body h w =
    let split : front ++ rest ≡ (print_request h ++ body) ++ rest = w.head.reads.1 ∙ sym (append_assoc (print_request h) body rest) in
    let alone : front ≡ print_request h ++ body = append_cancel_right front (print_request h ++ body) rest split in
    record {
      head = record {
        reads = (w.head.reads.0, alone ∙ ap (λ (t : List ℕ). print_request h ++ t) (sym (append-nil body)));
        short = w.head.short;
        few = w.head.few;
      };
      framed = w.framed;
    }

-- an exchange over the bytes of its request, from the same state
pub Exchanges-alone : {S : Type 0} (answers : Answering S) {first old new : S} {last : Bool} {out : List ℕ} (bytes : List ℕ) (n : ℕ)
    → first ≡ old → Exchanges answers first bytes last out new (drop n bytes) → Exchanges answers old (take n bytes) last out new []
Exchanges-alone {S} answers {new = new} bytes n same it = record {
  head = it.head;
  body = it.body;
  status = it.status;
  text = it.text;
  reads = ReadsWhole-alone (take n bytes) (drop n bytes) it.body it.head (subst (λ (t : List ℕ). ReadsWhole t it.head it.body (drop n bytes)) (sym (take-append-drop n bytes)) it.reads);
  answered = subst (λ (s : S). answers s it.head.method it.head.target it.body it.status it.text new) same it.answered;
  last_is = it.last_is;
  out_is = it.out_is;
}

-- all bytes, rejected
pub refused_all : (bytes : List ℕ) (status : StatusCode) → IsRefused bytes status → IsRefused (take (length bytes) bytes) status
refused_all bytes status refused = subst (λ (t : List ℕ). IsRefused t status) (sym (take_all (length bytes) bytes (omega arith))) refused

-- what is unfinished below a number is so below any that is at most one more than there are bytes
pub unfinished_to : (bytes : List ℕ) (needed : ℕ) → IsUnfinishedBelow bytes needed → IsUnfinishedBelow bytes (max needed (length bytes + 1))
unfinished_to bytes needed it = record {
  unfinished = it.unfinished;
  below = stays;
  enough = λ more cut there. it.enough more cut (omega (arith, there));
} where
  stays : StaysUnfinished bytes (max needed (length bytes + 1))
  stays [] less = subst IsUnfinished (sym (append-nil bytes)) it.unfinished
  stays (b ∷ more) less = it.below (b ∷ more) (omega (arith, less, length-append bytes (b ∷ more)))
