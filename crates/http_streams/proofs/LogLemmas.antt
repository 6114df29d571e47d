-- Each line that a log gets follows the one before.
use Rattle.std.proofs.Common.{◌≡◌, ◌<◌, ℕ, Bool, List, [], ◌∷◌, ◌++◌, Option, length, refl, sym, ap, ◌∙◌, subst, inl, inr}
use Rattle.std.proofs.Common.{append_assoc, append-nil, arith, true, Result, Ok, Err}
use Rattle.http_streams.specs.declared.serve.LoggedFault.{LoggedFault}
use Rattle.std.specs.Prelude.{codes, decimal}
use Rattle.std.specs.Io.KnownBytes.{Appends}
use Rattle.std.proofs.KnownBytes.{Appends-nil}
use Rattle.http_streams.specs.ReplyText.{ending, error_line, length_lines, phrase, reply_text, status_line}
use Rattle.http_streams.specs.Request.{IsRefused}
use Rattle.http.specs.declared.status.StatusCode.{StatusCode}
use Rattle.http_streams.specs.Stream.{Exchanges, RepliesInPart, Serves, Answering}
use Rattle.http_streams.specs.Logs.{LineRelation, IsFront, notes, cuts, AreNoted, IsLastNoted}
use Rattle.http_streams.specs.inner.Sending.{IsSentInPart, fault_of}
use Rattle.http_streams.specs.declared.serve.Broken.{Broken}
use Rattle.http_streams.specs.declared.serve.Broken.TheVariants.{Log, Write}
use Rattle.http_streams.proofs.StreamLemmas.{Serves-then, Serves-none}

module _ {L : Type 0} (lines : LineRelation) (refusal : StatusCode → List ℕ) (logged : L → Option (List ℕ)) where
  -- the last reply stands at the front
  pub noted_now : (result : Result (Unit {0}) LoggedFault) (old new : L) (bytes out : List ℕ)
      → IsLastNoted lines refusal logged result old bytes out new → AreNoted lines refusal logged result old bytes out new
  noted_now result old new bytes out x = record {
    count = 0;
    mid = old;
    rest = bytes;
    before = [];
    last = out;
    serves = Serves-none (notes lines logged) old bytes;
    ended = x;
    joined = refl;
  }

  -- some requests, and then more
  pub noted_after : (result : Result (Unit {0}) LoggedFault) (n : ℕ) (old mid new : L) (bytes rest out more : List ℕ)
      → Serves (notes lines logged) n old bytes rest out mid → AreNoted lines refusal logged result mid rest more new
      → AreNoted lines refusal logged result old bytes (out ++ more) new
  noted_after result n old mid new bytes rest out more x e =
      let k = Serves-then (notes lines logged) n e.count old mid e.mid bytes rest e.rest out e.before x e.serves in
      record {
        count = k.0;
        mid = e.mid;
        rest = e.rest;
        before = out ++ e.before;
        last = e.last;
        serves = k.1;
        ended = e.ended;
        joined = ap (λ (t : List ℕ). out ++ t) e.joined ∙ sym (append_assoc out e.before e.last);
      }

  -- some requests, and nothing behind them
  pub noted_so_far : (result : Result (Unit {0}) LoggedFault) (n : ℕ) (old new : L) (bytes rest out : List ℕ)
      → Serves (notes lines logged) n old bytes rest out new → IsLastNoted lines refusal logged result new rest [] new
      → AreNoted lines refusal logged result old bytes out new
  noted_so_far result n old new bytes rest out x none = record {
    count = n;
    mid = new;
    rest = rest;
    before = out;
    last = [];
    serves = x;
    ended = none;
    joined = sym (append-nil out);
  }

  -- a whole reply behind its line
  pub whole_noted : (old new : L) (bytes rest out : List ℕ) (last : Bool) → Exchanges (notes lines logged) old bytes last out new rest
      → IsLastNoted lines refusal logged (Ok tt) old bytes out new
  whole_noted old new bytes rest out last x = inr (inl (rest, last, x))

  pub refusal_noted : (old new : L) (bytes : List ℕ) (status : StatusCode) → IsRefused bytes status
      → Appends (logged old) (logged new) (refusal status)
      → IsLastNoted lines refusal logged (Ok tt) old bytes (reply_text true status (error_line status)) new
  refusal_noted old new bytes status refused x = inr (inr (status, refused, refl, x))

  -- the same fact at equal bytes
  pub last_at : (result : Result (Unit {0}) LoggedFault) (old new : L) {bytes same : List ℕ} (out : List ℕ) → bytes ≡ same
      → IsLastNoted lines refusal logged result old bytes out new → IsLastNoted lines refusal logged result old same out new
  last_at result old new out e x = subst (λ (t : List ℕ). IsLastNoted lines refusal logged result old t out new) e x

-- a reply is not empty
one_some : (x : ℕ) (xs : List ℕ) → 0 < length (x ∷ xs)
one_some x xs = omega arith

pub reply_some : (last : Bool) (status : StatusCode) (body : List ℕ) → 0 < length (reply_text last status body)
unfolding reply_text status_line
reply_some last status body =
    one_some 72 (codes "TTP/1.1 " ++ decimal status ++ codes " " ++ phrase status ++ length_lines (length body) ++ ending last ++ body)

module _ {S L W : Type 0} (answers : Answering S) (lines : LineRelation) (refusal : StatusCode → List ℕ) (logged : L → Option (List ℕ))
    (holds : W → Option (List ℕ)) where
  -- the reply to a request broke off, or its line did
  pub broken_off : (broken : Broken) (a b : S) (l k : L) (v w : W) (bytes line reply rest : List ℕ) (last : Bool) → 0 < length reply
      → Exchanges answers a bytes last reply b rest
      → (Appends (logged l) (logged k) line → Exchanges (notes lines logged) l bytes last reply k rest)
      → (IsFront line (logged l) (logged k) → Exchanges (cuts lines logged) l bytes last reply k rest)
      → IsSentInPart broken logged holds line reply l k v w
      → (out : List ℕ) × Appends (holds v) (holds w) out × RepliesInPart answers a bytes out b
      × IsLastNoted lines refusal logged (Err (fault_of broken)) l bytes out k
  broken_off Log a b l k v w bytes line reply rest last some whole noted cut x = (
    [],
    subst (λ (u : W). Appends (holds v) (holds u) []) (sym x.1) (Appends-nil (holds v)),
    (reply, some, inl (rest, last, whole)),
    (refl, inl (reply, rest, last, cut x.0)),
  )
  broken_off Write a b l k v w bytes line reply rest last some whole noted cut x = (
    x.1.0,
    x.1.4,
    (x.1.1, x.1.2, inl (rest, last, subst (λ (o : List ℕ). Exchanges answers a bytes last o b rest) x.1.3 whole)),
    (
      x.1.1,
      x.1.2,
      inl (rest, last, subst (λ (o : List ℕ). Exchanges (notes lines logged) l bytes last o k rest) x.1.3 (noted x.0)),
    ),
  )

  -- that of a refusal broke off, or its line did
  pub refusal_broken : (broken : Broken) (a : S) (l k : L) (v w : W) (bytes : List ℕ) (status : StatusCode) → IsRefused bytes status
      → IsSentInPart broken logged holds (refusal status) (reply_text true status (error_line status)) l k v w
      → (out : List ℕ) × Appends (holds v) (holds w) out × RepliesInPart answers a bytes out a
      × IsLastNoted lines refusal logged (Err (fault_of broken)) l bytes out k
  refusal_broken Log a l k v w bytes status refused x = (
    [],
    subst (λ (u : W). Appends (holds v) (holds u) []) (sym x.1) (Appends-nil (holds v)),
    (reply_text true status (error_line status), reply_some true status (error_line status), inr (status, refused, refl, refl)),
    (refl, inr (status, refused, x.0)),
  )
  refusal_broken Write a l k v w bytes status refused x = (
    x.1.0,
    x.1.4,
    (x.1.1, x.1.2, inr (status, refused, sym x.1.3, refl)),
    (x.1.1, x.1.2, inr (status, refused, sym x.1.3, x.0)),
  )
