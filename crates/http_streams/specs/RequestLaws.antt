-- Defines what makes requests of HTTP requests of connections: proofs that a request's end is known from its own bytes.
-- Source: RFC 9112, sections 2.2 and 6.3.
-- Rules of this product: the limits.
use Rattle.std.specs.Prelude.{◌≡◌, ◌≤◌, ℕ, Bool, true, false, if◌then◌else◌, nat_le, codes, refl}
use Rattle.std.specs.Prelude.{List, [], ◌∷◌, ◌++◌, length, map, take, drop}
use Rattle.std.specs.List.{list_any}
use Rattle.std.specs.Str.Parse.{digits_value}
use Rattle.std.proofs.Common.{inl, inr, sym, ap, ◌∙◌, subst, arith, append_assoc, length-append}
use Rattle.std.proofs.Math.Seq.{take-append_seam, drop-append_seam}
use Rattle.std.proofs.lemmas.Bool.Decides.{nat_tests}
use Rattle.httparse.specs.Grammar.{RequestHead, print_request}
use Rattle.httparse.specs.Spans.{name_and_value}
use Rattle.httparse.proofs.GrammarLemmas.{ReadsRequest-append, request_unique}
use Rattle.connections.specs.Framing.{HasNoRequest, IsPrefixFree}
use Rattle.connections.specs.declared.TheConstants.{MAX_REQUEST}
use Rattle.http_streams.specs.Fields.{announced, is_digits, is_named, values_named}
use Rattle.http_streams.specs.FramedRequests.{AnswersBytes, IsRequest}
use Rattle.http_streams.specs.Request.{Admits, IsCutOff, IsUnfinished, ReadsWhole, framing_by, framing_by_lengths}
use Rattle.http_streams.specs.Request.{framing_of, needs_length}
use Rattle.http_streams.specs.Stream.{Answering}
use Rattle.http_streams.specs.declared.TheConstants.{MAX_BODY}
use Rattle.http_streams.specs.declared.cut.Framing.TheVariants.{Body, Refused}
use Rattle.http_streams.specs.declared.fields.Announced.TheVariants.{Size, TooLong, NoNumber}

-- ---- a whole request, and what follows it

pub Admits-append : {bytes rest : List ℕ} {h : RequestHead} → Admits bytes h rest → (more : List ℕ)
    → Admits (bytes ++ more) h (rest ++ more)
Admits-append {bytes} {rest} {h} a more =
    record { reads = ReadsRequest-append bytes h rest more a.reads; short = a.short; few = a.few }

pub ReadsWhole-append : {bytes body rest : List ℕ} {h : RequestHead} → ReadsWhole bytes h body rest → (more : List ℕ)
    → ReadsWhole (bytes ++ more) h body (rest ++ more)
ReadsWhole-append {bytes} {body} {rest} {h} w more = record {
  head = subst (λ (t : List ℕ). Admits (bytes ++ more) h t) (append_assoc body rest more) (Admits-append w.head more);
  framed = w.framed;
}

pub admits_unique : {bytes : List ℕ} {h k : RequestHead} {r q : List ℕ} → Admits bytes h r → Admits bytes k q
    → (h ≡ k) × (r ≡ q)
admits_unique {bytes} {h} {k} {r} {q} a b = request_unique bytes h k r q a.reads b.reads

whole_not_cut_off : {bytes body rest : List ℕ} {h : RequestHead} → ReadsWhole bytes h body rest → IsCutOff bytes → ⊥
whole_not_cut_off {body = body} {rest = rest} w r =
    let same = admits_unique w.head r.admits in
    let framed : Body (length body) ≡ Body r.size = sym w.framed ∙ ap framing_of same.0 ∙ r.framed in
    let size : length body ≡ r.size = cc in
    omega (arith, r.short, size, ap length same.1, length-append body rest)

pub whole_unique : {bytes body rest body2 rest2 : List ℕ} {h k : RequestHead} → ReadsWhole bytes h body rest
    → ReadsWhole bytes k body2 rest2 → (h ≡ k) × (body ≡ body2) × (rest ≡ rest2)
whole_unique {body = body} {rest = rest} {body2 = body2} {rest2 = rest2} x y =
    let same = admits_unique x.head y.head in
    let framed : Body (length body) ≡ Body (length body2) = sym x.framed ∙ ap framing_of same.0 ∙ y.framed in
    let size : length body ≡ length body2 = cc in
    let split : body ++ rest ≡ body2 ++ rest2 = same.1 in
    let front : body ≡ body2 =
    sym (take-append_seam body rest) ∙ ap (λ (n : ℕ). take n (body ++ rest)) size ∙ ap (take (length body2)) split
    ∙ take-append_seam body2 rest2 in
    let back : rest ≡ rest2 =
    sym (drop-append_seam body rest) ∙ ap (λ (n : ℕ). drop n (body ++ rest)) size ∙ ap (drop (length body2)) split
    ∙ drop-append_seam body2 rest2 in
    (same.0, front, back)

pub whole_not_unfinished : {bytes body rest : List ℕ} {h : RequestHead} → ReadsWhole bytes h body rest
    → IsUnfinished bytes → ⊥
whole_not_unfinished w (inl cut) = whole_not_cut_off w cut
whole_not_unfinished {body = body} {rest = rest} {h = h} w (inr part) = part.none h (body ++ rest) w.head.reads

-- ---- how long a body may be

if_body : (a b : Bool) (k n : ℕ) → framing_by (if a then (if b then Size k else TooLong) else NoNumber) ≡ Body n
    → (b ≡ true) × (k ≡ n)
if_body true true k n e = (refl, (let same : k ≡ n = cc in same))
if_body true false k n e = absurd (cc)
if_body false b k n e = absurd (cc)

le_of : (k most : ℕ) → nat_le k most ≡ true → k ≤ most
le_of k most is = grind (arith, nat_tests)

announced_fits : (n : ℕ) (v : List ℕ) → framing_by (announced MAX_BODY v) ≡ Body n → n ≤ MAX_BODY
announced_fits n v e =
    let found = if_body (is_digits v) (nat_le (digits_value 10 v) MAX_BODY) (digits_value 10 v) n e in
    subst (λ (k : ℕ). k ≤ MAX_BODY) found.1 (le_of (digits_value 10 v) MAX_BODY found.0)

unless_needed : (b : Bool) (n : ℕ) → (if b then Refused 411 else Body 0) ≡ Body n → n ≤ MAX_BODY
unless_needed true n e = absurd (cc)
unless_needed false n e = let none : 0 ≡ n = cc in omega (arith, none)

by_fits : (method : List ℕ) (n : ℕ) (vs : List (List ℕ)) → framing_by_lengths method vs ≡ Body n → n ≤ MAX_BODY
by_fits method n [] e = unless_needed (needs_length method) n e
by_fits method n (v ∷ []) e = announced_fits n v e
by_fits method n (v ∷ w ∷ vs) e = absurd (cc)

unless_coded : (coded : Bool) (method : List ℕ) (n : ℕ) (vs : List (List ℕ))
    → (if coded then Refused 501 else framing_by_lengths method vs) ≡ Body n → n ≤ MAX_BODY
unless_coded true method n vs e = absurd (cc)
unless_coded false method n vs e = by_fits method n vs e

pub size_fits : (n : ℕ) (h : RequestHead) → framing_of h ≡ Body n → n ≤ MAX_BODY
size_fits n h e =
    let ps = map name_and_value h.fields in
    let lengths = values_named (codes "content-length") ps in
    unless_coded (list_any (is_named (codes "transfer-encoding")) ps) h.method n lengths e

-- ---- the laws

pub prefix_free : IsPrefixFree IsRequest
prefix_free one other after more x y same =
    let first : ReadsWhole (one ++ after) x.0 x.1 after = ReadsWhole-append x.2 after in
    let second : ReadsWhole (one ++ after) y.0 y.1 more =
    subst (λ (t : List ℕ). ReadsWhole t y.0 y.1 more) (sym same) (ReadsWhole-append y.2 more) in
    let unique = whole_unique first second in
    x.2.head.reads.1
    ∙ ap (λ (h : RequestHead). print_request h ++ (x.1 ++ [])) unique.0
    ∙ ap (λ (b : List ℕ). print_request y.0 ++ (b ++ [])) unique.1
    ∙ sym y.2.head.reads.1

pub no_request : HasNoRequest IsRequest IsUnfinished
no_request request after x u =
    let whole : ReadsWhole (request ++ after) x.0 x.1 after = ReadsWhole-append x.2 after in
    whole_not_unfinished whole u

pub short : (bytes : List ℕ) → IsUnfinished bytes → length bytes ≤ MAX_REQUEST
short bytes (inl cut) =
    let fits = size_fits cut.size cut.head cut.framed in
    let is = cut.admits.reads.1 in
    omega (arith, fits, cut.short, cut.admits.short, ap length is, length-append (print_request cut.head) cut.rest)
short bytes (inr part) = let few = part.short in omega (arith, few)

pub requests : {S : Type 0} (answers : Answering S) (old new : S) (request : List ℕ) (closes : Bool) (reply : List ℕ)
    → AnswersBytes answers old request closes reply new → closes ≡ false → IsRequest request
requests answers old new request closes reply (inl it) open_still = (it.head, it.body, it.reads)
requests answers old new request closes reply (inr it) open_still =
    absurd (let both : true ≡ false = sym it.0 ∙ open_still in cc)
