-- The text of a request that is asked is one request, which is read as what was asked.
use Rattle.std.proofs.Common.{◌≡◌, ℕ, ◌<◌, ◌≤◌, Bool, true, false, if◌then◌else◌, List, [], ◌∷◌, ◌++◌, Option, Some, None, Bor, length, drop, reverse, nat_le, refl, sym, ap, ◌∙◌, subst, arith, append_assoc, append-nil, length-append, length-drop}
use Rattle.std.specs.Prelude.{All, IsSome, IsTrue, codes, decimal, nat_lt}
use Rattle.std.specs.Char.{is_ascii_digit, is_ascii_graphic}
use Rattle.std.specs.List.{list_all}
use Rattle.std.specs.Str.Parse.{AllDigits}
use Rattle.std.proofs.lemmas.Bool.{and_from, and_parts}
use Rattle.std.proofs.lemmas.Bool.Decides.{nat_tests}
use Rattle.std.proofs.lemmas.Fmt.{decimal_is_IsNumeral}
use Rattle.std.proofs.lemmas.List.Elements.{All-cons, All-nil, All-weaker}
use Rattle.std.proofs.lemmas.List.Sums.{AllPass-from_list_all, list_all-from_AllPass}
use Rattle.std.proofs.lemmas.Str.{IsUtf8-from_ascii}
use Rattle.std.proofs.lemmas.Str.Ascii.{IsAscii-from_all}
use Rattle.std.proofs.lemmas.Str.Parse.{digit_at}
use Rattle.http.specs.Token.{token_test}
use Rattle.httparse.specs.Grammar.{AllPass, Field, IsField, IsRequestHead, IsToken, RequestHead, crlf, is_ows, is_token_byte, is_uri_byte, is_value_byte, print_request, print_section, skip_ows, trim_ows}
use Rattle.httparse.proofs.GrammarLemmas.{print_request-append}
use Rattle.httparse.proofs.TrimLemmas.{AllPass-reverse, trim_ows_space}
use Rattle.http_streams.specs.Parts.{is_host, is_method, is_target}
use Rattle.http_streams.specs.RequestText.{body_bytes, length_field, request_start, request_text}
use Rattle.http_streams.specs.declared.parts.Ask.{Ask}
use Rattle.http_streams.specs.Fields.{announced, values_named}
use Rattle.http_streams.specs.Request.{Admits, IsCut, IsRefused, ReadsWhole, closes_of, framing_by, framing_of, needs_length, pairs}
use Rattle.http_streams.specs.RequestRoundTrip.{FitsLimits, IsAsked, IsReadBack}
use Rattle.http_streams.specs.declared.TheConstants.{MAX_BODY, MAX_FIELDS}
use Rattle.http_streams.specs.declared.cut.Cut.{Cut}
use Rattle.http_streams.specs.declared.cut.Cut.TheVariants as Cuts
use Rattle.http_streams.specs.declared.cut.Framing.TheVariants.{Body, Refused}
use Rattle.http_streams.specs.declared.fields.Announced.TheVariants.{Size}
use Rattle.http_streams.specs.RequestLaws.{ReadsWhole-append, admits_unique, whole_not_unfinished, whole_unique}
use Rattle.http_streams.proofs.OneRequest.{refused-append, whole_or_refused}

-- ---- bytes that are no blanks

graphic_not_blank : (b : ℕ) → is_ascii_graphic b ≡ true → is_ows b ≡ false
graphic_not_blank b seen = grind (arith, nat_tests)

skip_none : (bytes : List ℕ) → list_all is_ascii_graphic bytes ≡ true → skip_ows bytes ≡ bytes
skip_none [] all = refl
skip_none (b ∷ bytes) all = rw (graphic_not_blank b (and_parts _ _ all).0)

-- behind a blank visible bytes come back as they are
trimmed : (bytes : List ℕ) → list_all is_ascii_graphic bytes ≡ true → trim_ows (32 ∷ bytes) ≡ bytes
trimmed bytes all =
    let turned = AllPass-reverse is_ascii_graphic bytes (AllPass-from_list_all is_ascii_graphic bytes all) in
    trim_ows_space bytes (skip_none bytes all) (skip_none (reverse bytes) (list_all-from_AllPass is_ascii_graphic (reverse bytes) turned))

-- ---- digits

digit : (c : ℕ) (rest : List ℕ) → AllDigits 10 (c ∷ rest) → is_ascii_digit c ≡ true
digit c rest all = let low = digit_at (c ∷ rest) 0 all (omega arith) in grind (arith, nat_tests)

all_digits : (bytes : List ℕ) → AllDigits 10 bytes → list_all is_ascii_digit bytes ≡ true
all_digits [] all = refl
all_digits (c ∷ bytes) all = and_from _ _ (digit c bytes all) (all_digits bytes all.1)

all_graphic : (bytes : List ℕ) → list_all is_ascii_digit bytes ≡ true → list_all is_ascii_graphic bytes ≡ true
all_graphic bytes all =
    list_all-from_AllPass is_ascii_graphic bytes
    (All-weaker (λ b. is_ascii_digit b ≡ true) (λ b. is_ascii_graphic b ≡ true) (λ b is. grind (arith, nat_tests)) bytes (AllPass-from_list_all is_ascii_digit bytes all))

digits_of : (n : ℕ) → n ≤ MAX_BODY → list_all is_ascii_digit (decimal n) ≡ true
digits_of n small = all_digits (decimal n) (decimal_is_IsNumeral n (omega arith)).0.1

announced_decimal : (n : ℕ) → n ≤ MAX_BODY → announced MAX_BODY (decimal n) ≡ Size n
announced_decimal n small =
    let numeral = decimal_is_IsNumeral n (omega arith) in
    let some : nat_lt 0 (length (decimal n)) ≡ true = (let found = numeral.0.0 in grind (arith, nat_tests)) in
    let fits : nat_le n MAX_BODY ≡ true = grind (arith, nat_tests) in
    rw (some, digits_of n small, numeral.1, fits)

-- ---- the head of what is asked

abbrev host_field : List ℕ → Field
host_field host = record { name = codes "Host"; raw = 32 ∷ host; end = crlf }

abbrev length_fields : Option (Bor (List ℕ)) → List Field
length_fields None = []
length_fields (Some body) = record { name = codes "Content-Length"; raw = 32 ∷ decimal (length body.now); end = crlf } ∷ []

abbrev close_field : Field
close_field = record { name = codes "Connection"; raw = codes " close"; end = crlf }

abbrev head_with : List ℕ → List ℕ → List ℕ → Option (Bor (List ℕ)) → RequestHead
head_with method target host body = record {
  blank = [];
  method = method;
  target = target;
  minor = 1;
  line_end = crlf;
  fields = host_field host ∷ (length_fields body ++ close_field ∷ []);
  last = crlf;
}

abbrev head_of : Ask → RequestHead
head_of ask = head_with ask.method.now ask.path.now ask.host.now ask.body

raw_is : (bytes : List ℕ) → list_all is_ascii_graphic bytes ≡ true → AllPass is_value_byte (32 ∷ bytes)
raw_is bytes all =
    All-cons (λ b. IsTrue (is_value_byte b)) 32 bytes refl
    (All-weaker (λ b. is_ascii_graphic b ≡ true) (λ b. IsTrue (is_value_byte b)) (λ b is. grind (arith, nat_tests)) bytes (AllPass-from_list_all is_ascii_graphic bytes all))

host_field_is : (host : List ℕ) → is_host host ≡ true → IsField (host_field host)
unfolding is_token_byte
host_field_is host all = record { name = (omega arith, AllPass-from_list_all is_token_byte (codes "Host") refl); raw = raw_is host all }

close_field_is : IsField close_field
unfolding is_token_byte
close_field_is = record {
  name = (omega arith, AllPass-from_list_all is_token_byte (codes "Connection") refl);
  raw = AllPass-from_list_all is_value_byte (codes " close") refl;
}

size_field_is : (body : Bor (List ℕ)) → length body.now ≤ MAX_BODY
    → IsField (record { name = codes "Content-Length"; raw = 32 ∷ decimal (length body.now); end = crlf })
unfolding is_token_byte
size_field_is body small = record {
  name = (omega arith, AllPass-from_list_all is_token_byte (codes "Content-Length") refl);
  raw = raw_is (decimal (length body.now)) (all_graphic (decimal (length body.now)) (digits_of (length body.now) small));
}

last_field_is : All IsField (close_field ∷ [])
last_field_is = All-cons IsField close_field [] close_field_is (All-nil IsField)

fields_are : (body : Option (Bor (List ℕ))) → length (body_bytes body) ≤ MAX_BODY
    → All IsField (length_fields body ++ close_field ∷ [])
unfolding body_bytes
fields_are None small = last_field_is
fields_are (Some body) small =
    All-cons IsField (record { name = codes "Content-Length"; raw = 32 ∷ decimal (length body.now); end = crlf }) (close_field ∷ []) (size_field_is body small) last_field_is

-- a method is a token to the reader too
token_is : (method : List ℕ) → is_method method ≡ true → IsToken method
unfolding is_token_byte
token_is method all =
    let token = and_parts (nat_lt 0 (length method)) (list_all token_test method) all in
    let some : 0 < length method = (let found = token.0 in grind (arith, nat_tests)) in
    (some, AllPass-from_list_all token_test method token.1)

is_head : (method target host : List ℕ) (body : Option (Bor (List ℕ))) → is_method method ≡ true → is_target target ≡ true
    → is_host host ≡ true → length (body_bytes body) ≤ MAX_BODY → IsRequestHead (head_with method target host body)
is_head method target host body a b c small =
    let visible = and_parts (nat_lt 0 (length target)) (list_all is_ascii_graphic target) b in
    let graphic = AllPass-from_list_all is_ascii_graphic target visible.1 in
    let some : 0 < length target = (let found = visible.0 in grind (arith, nat_tests)) in
    record {
      method = token_is method a;
      target = (some, All-weaker (λ b. is_ascii_graphic b ≡ true) (λ b. IsTrue (is_uri_byte b)) (λ b is. grind (arith, nat_tests)) target graphic);
      target_text = IsUtf8-from_ascii target (IsAscii-from_all target (All-weaker (λ b. is_ascii_graphic b ≡ true) (λ b. b < 128) (λ b is. grind (arith, nat_tests)) target graphic));
      minor = omega arith;
      fields = All-cons IsField (host_field host) _ (host_field_is host c) (fields_are body small);
    }

-- ---- what is written is that head and the body

chain : (m a t v s l c r : List ℕ)
    → ((((((m ++ a) ++ t) ++ v) ++ s) ++ l) ++ c) ++ r ≡ m ++ (a ++ (t ++ (v ++ (s ++ (l ++ (c ++ r))))))
chain m a t v s l c r = simp append_assoc

section_of : (host : List ℕ) (body : Option (Bor (List ℕ))) (r : List ℕ)
    → print_section (host_field host ∷ (length_fields body ++ close_field ∷ [])) crlf ++ r
    ≡ codes "Host: " ++ (host ++ (length_field body ++ (codes "\r\nConnection: close\r\n\r\n" ++ r)))
unfolding length_field
section_of host None r =
    ap (λ (t : List ℕ). codes "Host: " ++ t) (regroup host (codes "\r\n") (codes "Connection: close\r\n") (codes "\r\n") r)
  where
    regroup : (s e x f r : List ℕ) → (((s ++ e) ++ x) ++ f) ++ r ≡ s ++ ((e ++ (x ++ f)) ++ r)
    regroup s e x f r = simp append_assoc
section_of host (Some body) r =
    ap (λ (t : List ℕ). codes "Host: " ++ t)
    (regroup host (codes "\r\n") (codes "Content-Length: ") (decimal (length body.now)) (codes "Connection: close\r\n") (codes "\r\n") r)
  where
    regroup : (s e k d x f r : List ℕ)
        → (((s ++ e) ++ ((k ++ (d ++ e)) ++ x)) ++ f) ++ r ≡ s ++ (((e ++ k) ++ d) ++ ((e ++ (x ++ f)) ++ r))
    regroup s e k d x f r = simp append_assoc

text_of : (method target host : List ℕ) (body : Option (Bor (List ℕ))) (r : List ℕ)
    → request_start method target ++ host ++ length_field body ++ codes "\r\nConnection: close\r\n\r\n" ++ r
    ≡ print_request (head_with method target host body) ++ r
unfolding request_start
text_of method target host body r =
    chain method (codes " ") target (codes " HTTP/1.1\r\nHost: ") host (length_field body) (codes "\r\nConnection: close\r\n\r\n") r
    ∙ ap (λ (t : List ℕ). method ++ (codes " " ++ (target ++ (codes " HTTP/1.1\r\n" ++ t)))) (sym (section_of host body r))
    ∙ sym (print_request-append (head_with method target host body) r)

text_is : (ask : Ask) → request_text ask ≡ print_request (head_of ask) ++ body_bytes ask.body
unfolding request_text
text_is ask = text_of ask.method.now ask.path.now ask.host.now ask.body (body_bytes ask.body)

-- ---- what its fields say

unless_needed : (needed : Bool) → (needed ≡ true → false ≡ true) → (if needed then Refused 411 else Body 0) ≡ Body 0
unless_needed true never = absurd (let wrong = never refl in cc)
unless_needed false never = refl

framed : (method target host : List ℕ) (body : Option (Bor (List ℕ))) → length (body_bytes body) ≤ MAX_BODY
    → (IsTrue (needs_length method) → IsSome body)
    → framing_of (head_with method target host body) ≡ Body (length (body_bytes body))
unfolding body_bytes
framed method target host None small told = unless_needed (needs_length method) told
framed method target host (Some body) small told =
    let size = decimal (length body.now) in
    ap (λ (t : List ℕ). framing_by (announced MAX_BODY t)) (trimmed size (all_graphic size (digits_of (length body.now) small)))
    ∙ ap framing_by (announced_decimal (length body.now) small)

last_is : (method target host : List ℕ) (body : Option (Bor (List ℕ))) → closes_of (head_with method target host body) ≡ true
unfolding trim_ows
last_is method target host None = refl
last_is method target host (Some body) = refl

host_is : (method target host : List ℕ) (body : Option (Bor (List ℕ))) → is_host host ≡ true
    → values_named (codes "host") (pairs (head_with method target host body)) ≡ host ∷ []
host_is method target host None visible = ap (λ (t : List ℕ). t ∷ []) (trimmed host visible)
host_is method target host (Some body) visible = ap (λ (t : List ℕ). t ∷ []) (trimmed host visible)

few : (method target host : List ℕ) (body : Option (Bor (List ℕ))) → length (head_with method target host body).fields ≤ MAX_FIELDS
few method target host None = omega arith
few method target host (Some body) = omega arith

-- ---- it is read back

module _ (ask : Ask) (fits : FitsLimits ask) where
  admits : Admits (request_text ask) (head_of ask) (body_bytes ask.body)
  admits = record {
    reads = (is_head ask.method.now ask.path.now ask.host.now ask.body ask.is_method ask.is_target ask.is_host fits.body, text_is ask);
    short = omega (arith, fits.head, ap length (text_is ask), length-append (print_request (head_of ask)) (body_bytes ask.body));
    few = few ask.method.now ask.path.now ask.host.now ask.body;
  }

  reads_whole : ReadsWhole (request_text ask) (head_of ask) (body_bytes ask.body) []
  reads_whole = record {
    head = subst (λ (t : List ℕ). Admits (request_text ask) (head_of ask) t) (sym (append-nil (body_bytes ask.body))) admits;
    framed = framed ask.method.now ask.path.now ask.host.now ask.body fits.body fits.announced;
  }

  is_asked : (cut : Cut) → IsCut (request_text ask) cut → IsAsked ask cut
  is_asked (Cuts.Whole p) at =
      let same = whole_unique reads_whole at.reads in record {
        method = at.method ∙ sym (ap (λ (h : RequestHead). h.method) same.0);
        target = at.target ∙ sym (ap (λ (h : RequestHead). h.target) same.0);
        body = sym same.1;
        all = omega (arith, ap length same.2, length-drop p.end (request_text ask), at.ordered);
        last = at.closes ∙ sym (ap closes_of same.0) ∙ last_is ask.method.now ask.path.now ask.host.now ask.body;
      }
  is_asked (Cuts.Refused status) refused = whole_or_refused reads_whole refused
  is_asked (Cuts.Unfinished needed) less = whole_not_unfinished reads_whole less.unfinished

  not_before : (front back : List ℕ) (cut : Cut) → request_text ask ≡ front ++ back → 0 < length back → IsCut front cut
      → (needed : ℕ) × (cut ≡ Cuts.Unfinished needed)
  not_before front back (Cuts.Whole p) split some at =
      let more = ReadsWhole-append at.reads back in
      let there = subst (λ (t : List ℕ). ReadsWhole t (head_of ask) (body_bytes ask.body) []) split reads_whole in
      let same = whole_unique there more in
      absurd (omega (arith, ap length same.2, length-append (drop p.end front) back, some))
  not_before front back (Cuts.Refused status) split some refused =
      absurd (whole_or_refused reads_whole (subst (λ (t : List ℕ). IsRefused t status) (sym split) (refused-append front back status refused)))
  not_before front back (Cuts.Unfinished needed) split some less = (needed, refl)

  pub is_read_back : IsReadBack ask
  is_read_back = record {
    whole = is_asked;
    host = λ h rest a. (let same = admits_unique a admits in ap (λ (k : RequestHead). values_named (codes "host") (pairs k)) same.0 ∙ host_is ask.method.now ask.path.now ask.host.now ask.body ask.is_host);
    unfinished = not_before;
  }
