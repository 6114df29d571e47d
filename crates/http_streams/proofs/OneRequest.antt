-- What stands at the front of some bytes is one request, one refusal, or less than a request; and it stays so when more
-- comes. This file is meant to be imported by the crates above.
use Rattle.std.proofs.Common.{◌≡◌, ℕ, ◌+◌, ◌-◌, ◌<◌, ◌≤◌, ◌⊎◌, inl, inr, List, [], ◌∷◌, ◌++◌, length, take, sym, ap, ◌∙◌, subst, arith, rules, append_assoc, append-nil, length-append}
use Rattle.std.proofs.Math.Seq.{take-append_seam}
use Rattle.httparse.specs.Grammar.{RequestHead, lf, print_request, ReadsRequest, NeverHasRequest, IsRequestHead, is_token_byte, is_uri_byte}
use Rattle.std.specs.Prelude.{IsTrue}
use Rattle.std.proofs.lemmas.List.Elements.{All-cons, All-nil}
use Rattle.std.proofs.lemmas.Str.{IsUtf8-from_ascii}
use Rattle.std.proofs.lemmas.Str.Ascii.{IsAscii-from_all}
use Rattle.httparse.proofs.GrammarLemmas.{ReadsRequest-append, request_unique}
use Rattle.http_streams.specs.declared.cut.Framing.TheVariants.{Body, Refused}
use Rattle.http_streams.specs.Request.{Admits, HasNoAdmitted, ReadsWhole, RefusesHead, IsBadHead, IsTooLarge, IsRefused, IsPartOfHead, IsUnfinished, IsUnfinishedBelow, StaysUnfinished, framing_of}
use Rattle.http.specs.declared.status.StatusCode.{StatusCode}
use Rattle.http_streams.specs.RequestLaws.{Admits-append, admits_unique}
use Rattle.http_streams.proofs.CutLemmas.{length_head, short_front}

-- one head is framed in one way
whole_not_refused : {bytes body rest : List ℕ} {h : RequestHead} {status : StatusCode} → ReadsWhole bytes h body rest → RefusesHead bytes status → ⊥
whole_not_refused w r =
    let same = admits_unique w.head r.admits in
    let framed : Body _ ≡ Refused _ = sym w.framed ∙ ap framing_of same.0 ∙ r.framed in
    cc

nothing_read : (h : RequestHead) (rest : List ℕ) → ReadsRequest [] h rest → ⊥
nothing_read h rest x = omega (arith, length_head h, ap length x.1, length-append (print_request h) rest)

whole_not_bad : {bytes body rest : List ℕ} {h : RequestHead} → ReadsWhole bytes h body rest → IsBadHead bytes → ⊥
whole_not_bad {body = body} {rest = rest} {h = h} w bad = bad.0 h (body ++ rest) w.head

pub whole_or_refused : {bytes body rest : List ℕ} {h : RequestHead} {status : StatusCode} → ReadsWhole bytes h body rest → IsRefused bytes status → ⊥
whole_or_refused w r = elim r [ inl head ↦ whole_not_refused w head | inr bad ↦ whole_not_bad w bad.1 ]

pub refused_unique : {bytes : List ℕ} (m n : StatusCode) → IsRefused bytes m → IsRefused bytes n → m ≡ n
refused_unique m n (inl x) (inl y) =
    let same = admits_unique x.admits y.admits in
    let framed : Refused m ≡ Refused n = sym x.framed ∙ ap framing_of same.0 ∙ y.framed in
    cc
refused_unique m n (inl x) (inr y) = absurd (y.1.0 x.head x.rest x.admits)
refused_unique m n (inr x) (inl y) = absurd (x.1.0 y.head y.rest y.admits)
refused_unique m n (inr x) (inr y) = x.0 ∙ sym y.0

-- `G / HTTP/1.0` and an empty line
abbrev sample : RequestHead
sample = record { blank = []; method = 71 ∷ []; target = 47 ∷ []; minor = 0; line_end = lf; fields = []; last = lf }

sample_is : IsRequestHead sample
unfolding is_token_byte
sample_is = record {
  method = (omega arith, All-cons (λ (b : ℕ). IsTrue (is_token_byte b)) 71 [] (search rules) (All-nil _));
  target = (omega arith, All-cons (λ (b : ℕ). IsTrue (is_uri_byte b)) 47 [] (search rules) (All-nil _));
  target_text = IsUtf8-from_ascii (47 ∷ []) (IsAscii-from_all (47 ∷ []) (All-cons (λ (b : ℕ). b < 128) 47 [] (omega arith) (All-nil _)));
  minor = omega arith;
  fields = All-nil _;
}

-- no bytes are less than a request
pub nothing_unfinished : IsUnfinished []
nothing_unfinished = inr (record {
  none = nothing_read;
  short = omega arith;
  open_still = inl (print_request sample, sample, (sample_is, sym (append-nil (print_request sample))));
})

-- no bytes are not rejected
pub refused_some : (bytes : List ℕ) (status : StatusCode) → IsRefused bytes status → 0 < length bytes
refused_some [] status (inl head) = absurd (nothing_read head.head head.rest head.admits.reads)
refused_some [] status (inr (is, (none, inl (inl (h, rest, reads, over))))) = absurd (nothing_read h rest reads)
refused_some [] status (inr (is, (none, inl (inr long)))) = absurd (omega (arith, long))
refused_some [] status (inr (is, (none, inr never))) =
    absurd (never (print_request sample) sample [] (sample_is, sym (append-nil (print_request sample))))
refused_some (b ∷ bytes) status refused = omega arith

-- ---- what is refused stays refused when more comes

bad_none : (bytes more : List ℕ) → IsBadHead bytes → HasNoAdmitted (bytes ++ more)
bad_none bytes more (none, inl (inl (h, r, reads, over))) k q a =
    let same = request_unique (bytes ++ more) h k (r ++ more) q (ReadsRequest-append bytes h r more reads) a.reads in
    let n : length h.fields ≡ length k.fields = ap (λ (t : RequestHead). length t.fields) same.0 in
    omega (arith, a.few, over, n)
bad_none bytes more (none, inl (inr long)) k q a =
    let fits : length (print_request k) ≤ length bytes = omega (arith, a.short, long) in
    let front = short_front (bytes ++ more) (length bytes) k q a.reads fits in
    let reads = subst (λ (t : List ℕ). ReadsRequest t k (take (length bytes - length (print_request k)) q)) (take-append_seam bytes more) front in
    none k _ (record { reads = reads; short = a.short; few = a.few })
bad_none bytes more (none, inr never) k q a = never more k q a.reads

bad_cause : (bytes more : List ℕ) → IsTooLarge bytes ⊎ NeverHasRequest bytes → IsTooLarge (bytes ++ more) ⊎ NeverHasRequest (bytes ++ more)
bad_cause bytes more (inl (inl (h, r, reads, over))) = inl (inl (h, r ++ more, ReadsRequest-append bytes h r more reads, over))
bad_cause bytes more (inl (inr long)) = inl (inr (omega (arith, long, length-append bytes more)))
bad_cause bytes more (inr never) =
    inr (λ x h rest reads. never (more ++ x) h rest (subst (λ (t : List ℕ). ReadsRequest t h rest) (append_assoc bytes more x) reads))

pub refused-append : (bytes more : List ℕ) (status : StatusCode) → IsRefused bytes status → IsRefused (bytes ++ more) status
refused-append bytes more status (inl head) =
    inl (record { head = head.head; rest = head.rest ++ more; admits = Admits-append head.admits more; framed = head.framed })
refused-append bytes more status (inr (is, bad)) = inr (is, (bad_none bytes more bad, bad_cause bytes more bad.1))

-- ---- a whole head says where its request ends

enough_came : {bytes rest : List ℕ} {h : RequestHead} (size : ℕ) → Admits bytes h rest → framing_of h ≡ Body size → size ≤ length rest
    → IsUnfinished bytes → ⊥
enough_came {h = h} size a framed came (inl cut) =
    let same = admits_unique a cut.admits in
    let bodies : Body size ≡ Body cut.size = sym framed ∙ ap framing_of same.0 ∙ cut.framed in
    let sizes : size ≡ cut.size = cc in
    omega (arith, cut.short, sizes, came, ap length same.1)
enough_came {rest = rest} {h = h} size a framed came (inr part) = part.none h rest a.reads

behind_head : (bytes rest more : List ℕ) (h : RequestHead) → Admits bytes h rest
    → length (bytes ++ more) ≡ length (print_request h) + length (rest ++ more)
behind_head bytes rest more h a =
    ap length (Admits-append a more).reads.1 ∙ length-append (print_request h) (rest ++ more)

pub cut_off_below : (bytes rest : List ℕ) (h : RequestHead) (size needed : ℕ) → Admits bytes h rest → framing_of h ≡ Body size
    → length rest < size → needed ≡ length (print_request h) + size → IsUnfinishedBelow bytes needed
cut_off_below bytes rest h size needed a framed short is = record {
  unfinished = inl (record { head = h; rest = rest; size = size; admits = a; framed = framed; short = short });
  below = λ more less. inl (record {
    head = h;
    rest = rest ++ more;
    size = size;
    admits = Admits-append a more;
    framed = framed;
    short = omega (arith, is, less, behind_head bytes rest more h a);
  });
  enough = λ more _ there. enough_came size (Admits-append a more) framed (omega (arith, is, there, behind_head bytes rest more h a));
}

-- before that nothing is known of what is wanted
pub part_below : (bytes : List ℕ) → IsPartOfHead bytes → IsUnfinishedBelow bytes 0
part_below bytes part = record {
  unfinished = inr part;
  below = λ more less. absurd (omega (arith, less));
  enough = λ more cut _ _. part.none cut.head cut.rest cut.admits.reads;
}

-- ---- while less has come than is needed

pub unfinished_yet : (bytes came whole : List ℕ) (needed : ℕ) → StaysUnfinished bytes needed → whole ≡ bytes ++ came → length whole < needed
    → IsUnfinished whole
unfinished_yet bytes came whole needed stays is less = subst IsUnfinished (sym is) (stays came (omega (arith, less, ap length is)))

pub stays_on : (bytes came whole : List ℕ) (needed : ℕ) → StaysUnfinished bytes needed → whole ≡ bytes ++ came → StaysUnfinished whole needed
stays_on bytes came whole needed stays is more less =
    let same : whole ++ more ≡ bytes ++ (came ++ more) = ap (λ (t : List ℕ). t ++ more) is ∙ append_assoc bytes came more in
    subst IsUnfinished (sym same) (stays (came ++ more) (omega (arith, less, ap length same)))
