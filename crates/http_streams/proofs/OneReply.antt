-- A stream begins with one reply, or with what is none, or with less than one; and how long less than one may be. This
-- file is meant to be imported by the crates above.
use Rattle.std.proofs.Common.{◌≡◌, ℕ, ◌+◌, ◌-◌, ◌<◌, ◌≤◌, ◌⊎◌, inl, inr, Bool, true, false, if◌then◌else◌, nat_le, codes, map, List, [], ◌∷◌, ◌++◌, None, length, take, refl, sym, ap, ◌∙◌, subst, arith, rules, append_assoc, append-nil, length-append}
use Rattle.std.proofs.Math.Seq.{take-append_seam}
use Rattle.std.proofs.lemmas.List.Elements.{All-cons, All-nil}
use Rattle.std.specs.Char.{is_ascii_digit}
use Rattle.std.specs.List.{list_any}
use Rattle.std.specs.Str.Parse.{digits_value}
use Rattle.std.proofs.lemmas.Bool.Decides.{nat_tests}
use Rattle.std.specs.Prelude.{IsTrue}
use Rattle.httparse.specs.Grammar.{ResponseHead, IsResponseHead, lf, print_response, ReadsResponse, NeverHasResponse, status_code}
use Rattle.httparse.proofs.GrammarLemmas.{ReadsResponse-append, response_unique}
use Rattle.http_streams.specs.Reply.{AdmitsReply, HasNoAdmittedReply, HasNoLength, IsBadReply, IsPartOfReplyHead, IsTooLargeReply, IsUnfinishedReply, IsUnfinishedReplyBelow, StaysUnfinishedReply, ReadsReply, length_by, length_of}
use Rattle.http_streams.specs.Fields.{announced, is_digits, is_named, values_named}
use Rattle.http_streams.specs.declared.TheConstants.{MAX_HEAD, MAX_REPLY}
use Rattle.httparse.specs.Spans.{name_and_value}
use Rattle.http_streams.specs.FramingLaws.{BeginsBadly, BeginsWithReply, HasOneReply}
use Rattle.http_streams.specs.declared.fields.Announced.TheVariants.{Size, TooLong, NoNumber}
use Rattle.http_streams.proofs.ReplyLemmas.{length_head, short_front}

admits-append : {bytes rest : List ℕ} {h : ResponseHead} → AdmitsReply bytes h rest → (more : List ℕ)
    → AdmitsReply (bytes ++ more) h (rest ++ more)
admits-append {bytes} {rest} {h} a more =
    record { reads = ReadsResponse-append bytes h rest more a.reads; short = a.short; few = a.few }

reply-append : (bytes : List ℕ) (status : ℕ) (body rest more : List ℕ) → ReadsReply bytes status body rest
    → ReadsReply (bytes ++ more) status body (rest ++ more)
reply-append bytes status body rest more w = record {
  head = w.head;
  admits = subst (λ (t : List ℕ). AdmitsReply (bytes ++ more) w.head t) (append_assoc body rest more) (admits-append w.admits more);
  framed = w.framed;
  status_is = w.status_is;
}

bad_none : (bytes more : List ℕ) → HasNoAdmittedReply bytes → IsTooLargeReply bytes ⊎ NeverHasResponse bytes
    → HasNoAdmittedReply (bytes ++ more)
bad_none bytes more none (inl (inl (h, r, reads, over))) k q a =
    let same = response_unique (bytes ++ more) h k (r ++ more) q (ReadsResponse-append bytes h r more reads) a.reads in
    let n : length h.fields ≡ length k.fields = ap (λ (t : ResponseHead). length t.fields) same.0 in
    omega (arith, a.few, over, n)
bad_none bytes more none (inl (inr long)) k q a =
    let fits : length (print_response k) ≤ length bytes = omega (arith, a.short, long) in
    let front = short_front (bytes ++ more) (length bytes) k q a.reads fits in
    let reads = subst (λ (t : List ℕ). ReadsResponse t k (take (length bytes - length (print_response k)) q)) (take-append_seam bytes more) front in
    none k _ (record { reads = reads; short = a.short; few = a.few })
bad_none bytes more none (inr never) k q a = never more k q a.reads

bad_cause : (bytes more : List ℕ) → IsTooLargeReply bytes ⊎ NeverHasResponse bytes
    → IsTooLargeReply (bytes ++ more) ⊎ NeverHasResponse (bytes ++ more)
bad_cause bytes more (inl (inl (h, r, reads, over))) = inl (inl (h, r ++ more, ReadsResponse-append bytes h r more reads, over))
bad_cause bytes more (inl (inr long)) = inl (inr (omega (arith, long, length-append bytes more)))
bad_cause bytes more (inr never) =
    inr (λ x h rest reads. never (more ++ x) h rest (subst (λ (t : List ℕ). ReadsResponse t h rest) (append_assoc bytes more x) reads))

bad-append : (bytes more : List ℕ) → IsBadReply bytes → IsBadReply (bytes ++ more)
bad-append bytes more (inl x) =
    inl (record { head = x.head; rest = x.rest ++ more; admits = admits-append x.admits more; framed = x.framed })
bad-append bytes more (inr (none, cause)) = inr (bad_none bytes more none cause, bad_cause bytes more cause)

-- ---- one reading

admits_unique : {bytes : List ℕ} {h k : ResponseHead} {r q : List ℕ} → AdmitsReply bytes h r → AdmitsReply bytes k q → (h ≡ k) × (r ≡ q)
admits_unique {bytes} {h} {k} {r} {q} a b = response_unique bytes h k r q a.reads b.reads

reply_unique : (bytes : List ℕ) (s t : ℕ) (a b r q : List ℕ) → ReadsReply bytes s a r → ReadsReply bytes t b q → (s ≡ t) × (a ≡ b)
reply_unique bytes s t a b r q x y =
    let same = admits_unique x.admits y.admits in
    let framed : Size (length a) ≡ Size (length b) = sym x.framed ∙ ap length_of same.0 ∙ y.framed in
    let size : length a ≡ length b = cc in (
      x.status_is ∙ ap status_code same.0 ∙ sym y.status_is,
      sym (take-append_seam a r) ∙ ap (λ (n : ℕ). take n (a ++ r)) size ∙ ap (take (length b)) same.1 ∙ take-append_seam b q,
    )

no_length : {bytes : List ℕ} {h : ResponseHead} {r : List ℕ} (n : ℕ) → AdmitsReply bytes h r → length_of h ≡ Size n → HasNoLength bytes → ⊥
no_length n a framed x =
    let same = admits_unique a x.admits in
    elim x.framed [
      | inl none ↦ (let e : Size n ≡ NoNumber = sym framed ∙ ap length_of same.0 ∙ none in absurd (cc))
      | inr long ↦ (let e : Size n ≡ TooLong = sym framed ∙ ap length_of same.0 ∙ long in absurd (cc))
    ]

reply_not_bad : (bytes : List ℕ) (s : ℕ) (a r : List ℕ) → ReadsReply bytes s a r → IsBadReply bytes → ⊥
reply_not_bad bytes s a r x (inl y) = no_length (length a) x.admits x.framed y
reply_not_bad bytes s a r x (inr y) = y.0 x.head (a ++ r) x.admits

nothing_read : (h : ResponseHead) (rest : List ℕ) → ReadsResponse [] h rest → ⊥
nothing_read h rest x = omega (arith, length_head h, ap length x.1, length-append (print_response h) rest)

reply_not_unfinished : (bytes : List ℕ) (s : ℕ) (a r : List ℕ) → ReadsReply bytes s a r → IsUnfinishedReply bytes → ⊥
reply_not_unfinished bytes s a r x (inl cut) =
    let same = admits_unique x.admits cut.admits in
    let framed : Size (length a) ≡ Size cut.size = sym x.framed ∙ ap length_of same.0 ∙ cut.framed in
    let size : length a ≡ cut.size = cc in
    omega (arith, cut.short, size, ap length same.1, length-append a r)
reply_not_unfinished bytes s a r x (inr part) = part.none x.head (a ++ r) x.admits.reads

-- `HTTP/1.0 200` and an empty line
abbrev sample : ResponseHead
sample = record { blank = []; minor = 0; digits = 50 ∷ 48 ∷ 48 ∷ []; reason = None; line_end = lf; fields = []; last = lf }

sample_is : IsResponseHead sample
sample_is =
    let digit = λ (b : ℕ). IsTrue (is_ascii_digit b) in
    record {
      minor = omega arith;
      digits = (refl, All-cons digit 50 (48 ∷ 48 ∷ []) (search rules) (All-cons digit 48 (48 ∷ []) (search rules) (All-cons digit 48 [] (search rules) (All-nil digit))));
      reason = All-nil _;
      fields = All-nil _;
    }

-- no bytes are less than a reply
pub nothing_unfinished : IsUnfinishedReply []
nothing_unfinished = inr (record {
  none = nothing_read;
  short = omega arith;
  open_still = (print_response sample, sample, (sample_is, sym (append-nil (print_response sample))));
})

bad_not_unfinished : (bytes : List ℕ) → IsBadReply bytes → IsUnfinishedReply bytes → ⊥
bad_not_unfinished bytes (inl x) (inl cut) = no_length cut.size cut.admits cut.framed x
bad_not_unfinished bytes (inr x) (inl cut) = x.0 cut.head cut.rest cut.admits
bad_not_unfinished bytes (inl x) (inr part) = part.none x.head x.rest x.admits.reads
bad_not_unfinished bytes (inr (none, inl (inl (h, r, reads, over)))) (inr part) = part.none h r reads
bad_not_unfinished bytes (inr (none, inl (inr long))) (inr part) = omega (arith, part.short, long)
bad_not_unfinished bytes (inr (none, inr never)) (inr part) = never part.open_still.0 part.open_still.1 [] part.open_still.2

-- ---- of a stream

reply_of : (stream : List ℕ) (s : ℕ) (a : List ℕ) → BeginsWithReply stream s a → (rest : List ℕ) × ReadsReply stream s a rest
reply_of stream s a (front, after, rest, is, x) =
    (rest ++ after, subst (λ (t : List ℕ). ReadsReply t s a (rest ++ after)) (sym is) (reply-append front s a rest after x))

bad_of : (stream : List ℕ) → BeginsBadly stream → IsBadReply stream
bad_of stream (front, after, is, x) = subst IsBadReply (sym is) (bad-append front after x)

pub has_one_reply : (stream : List ℕ) → HasOneReply stream
has_one_reply stream = record {
  replies = λ s t a b x y. (let p = reply_of stream s a x in let q = reply_of stream t b y in reply_unique stream s t a b p.0 q.0 p.1 q.1);
  not_bad = λ s a x y. (let p = reply_of stream s a x in reply_not_bad stream s a p.0 p.1 (bad_of stream y));
  not_cut_off = λ s a x y. (let p = reply_of stream s a x in reply_not_unfinished stream s a p.0 p.1 y);
  bad_or_cut_off = λ x y. bad_not_unfinished stream (bad_of stream x) y;
}

-- ---- how long less than a reply may be

if_size : (a b : Bool) (k n : ℕ) → (if a then (if b then Size k else TooLong) else NoNumber) ≡ Size n → (b ≡ true) × (k ≡ n)
if_size true true k n e = (refl, (let same : k ≡ n = cc in same))
if_size true false k n e = absurd (cc)
if_size false b k n e = absurd (cc)

le_of : (k most : ℕ) → nat_le k most ≡ true → k ≤ most
le_of k most is = grind (arith, nat_tests)

announced_fits : (most n : ℕ) (v : List ℕ) → announced most v ≡ Size n → n ≤ most
announced_fits most n v e =
    let found = if_size (is_digits v) (nat_le (digits_value 10 v) most) (digits_value 10 v) n e in
    subst (λ (k : ℕ). k ≤ most) found.1 (le_of (digits_value 10 v) most found.0)

by_fits : (n : ℕ) (vs : List (List ℕ)) → length_by vs ≡ Size n → n ≤ MAX_REPLY
by_fits n [] e = absurd (cc)
by_fits n (v ∷ []) e = announced_fits MAX_REPLY n v e
by_fits n (v ∷ w ∷ vs) e = absurd (cc)

unless_coded : (coded : Bool) (n : ℕ) (vs : List (List ℕ)) → (if coded then NoNumber else length_by vs) ≡ Size n → n ≤ MAX_REPLY
unless_coded true n vs e = absurd (cc)
unless_coded false n vs e = by_fits n vs e

pub size_fits : (n : ℕ) (h : ResponseHead) → length_of h ≡ Size n → n ≤ MAX_REPLY
size_fits n h e =
    let ps = map name_and_value h.fields in
    unless_coded (list_any (is_named (codes "transfer-encoding")) ps) n (values_named (codes "content-length") ps) e

pub unfinished_short : (bytes : List ℕ) → IsUnfinishedReply bytes → length bytes < MAX_HEAD + MAX_REPLY
unfinished_short bytes (inl cut) =
    omega (arith, ap length cut.admits.reads.1, length-append (print_response cut.head) cut.rest, cut.admits.short, cut.short, size_fits cut.size cut.head cut.framed)
unfinished_short bytes (inr part) = omega (arith, part.short)

-- ---- a whole head says where its reply ends

enough_came : {bytes rest : List ℕ} {h : ResponseHead} (size : ℕ) → AdmitsReply bytes h rest → length_of h ≡ Size size → size ≤ length rest
    → IsUnfinishedReply bytes → ⊥
enough_came {h = h} size a framed came (inl cut) =
    let same = admits_unique a cut.admits in
    let bodies : Size size ≡ Size cut.size = sym framed ∙ ap length_of same.0 ∙ cut.framed in
    let sizes : size ≡ cut.size = cc in
    omega (arith, cut.short, sizes, came, ap length same.1)
enough_came {rest = rest} {h = h} size a framed came (inr part) = part.none h rest a.reads

behind_head : (bytes rest more : List ℕ) (h : ResponseHead) → AdmitsReply bytes h rest
    → length (bytes ++ more) ≡ length (print_response h) + length (rest ++ more)
behind_head bytes rest more h a =
    ap length (admits-append a more).reads.1 ∙ length-append (print_response h) (rest ++ more)

pub cut_off_below : (bytes rest : List ℕ) (h : ResponseHead) (size needed : ℕ) → AdmitsReply bytes h rest → length_of h ≡ Size size
    → length rest < size → needed ≡ length (print_response h) + size → IsUnfinishedReplyBelow bytes needed
cut_off_below bytes rest h size needed a framed short is = record {
  unfinished = inl (record { head = h; rest = rest; size = size; admits = a; framed = framed; short = short });
  below = λ more less. inl (record {
    head = h;
    rest = rest ++ more;
    size = size;
    admits = admits-append a more;
    framed = framed;
    short = omega (arith, is, less, behind_head bytes rest more h a);
  });
  enough = λ more _ there. enough_came size (admits-append a more) framed (omega (arith, is, there, behind_head bytes rest more h a));
}

-- before that nothing is known of what is wanted
pub part_below : (bytes : List ℕ) → IsPartOfReplyHead bytes → IsUnfinishedReplyBelow bytes 0
part_below bytes part = record {
  unfinished = inr part;
  below = λ more less. absurd (omega (arith, less));
  enough = λ more cut _ _. part.none cut.head cut.rest cut.admits.reads;
}

-- ---- while less has come than is needed

pub unfinished_yet : (bytes came whole : List ℕ) (needed : ℕ) → StaysUnfinishedReply bytes needed → whole ≡ bytes ++ came → length whole < needed
    → IsUnfinishedReply whole
unfinished_yet bytes came whole needed stays is less = subst IsUnfinishedReply (sym is) (stays came (omega (arith, less, ap length is)))

pub stays_on : (bytes came whole : List ℕ) (needed : ℕ) → StaysUnfinishedReply bytes needed → whole ≡ bytes ++ came → StaysUnfinishedReply whole needed
stays_on bytes came whole needed stays is more less =
    let same : whole ++ more ≡ bytes ++ (came ++ more) = ap (λ (t : List ℕ). t ++ more) is ∙ append_assoc bytes came more in
    subst IsUnfinishedReply (sym same) (stays (came ++ more) (omega (arith, less, ap length same)))
