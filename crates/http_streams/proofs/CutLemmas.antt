-- What the parser says of the first bytes of a stream, as facts on the stream.
use Rattle.std.proofs.Common.{◌≡◌, ℕ, ◌+◌, ◌-◌, ◌<◌, ◌≤◌, inl, Bool, true, List, [], ◌∷◌, ◌++◌, length, map, take, drop, get_or, zero, suc, sym, ap, ◌∙◌, subst, arith, rules, append_assoc, length-append, length-drop}
use Rattle.std.specs.List.{list_all, list_any, slice_range, flat_map}
use Rattle.std.proofs.lemmas.List.{take-append-drop, take-append-le, drop-append-le, take_more, take_all, drop-drop, length-take, length-map}
use Rattle.std.proofs.Math.Seq.{drop-append_seam, take-append-add}
use Rattle.std.proofs.lemmas.List.Folds.{list_all-append}
use Rattle.httparse.specs.Grammar.{RequestHead, Field, LineEnd, crlf, lf, print_end, print_blank, print_version, print_field, print_section, print_request, ReadsRequest, HasNoRequest, NeverHasRequest}
use Rattle.httparse.specs.declared.spans.HeaderSpan.{HeaderSpan}
use Rattle.httparse.specs.declared.spans.RequestSpans.{RequestSpans}
use Rattle.httparse.specs.Spans.{IsRequestAt, IsRequestWithin, RequestExceeds, span_bytes, header_bytes, name_and_value}
use Rattle.httparse.proofs.GrammarLemmas.{ReadsRequest-append, request_unique}
use Rattle.http_streams.specs.Request.{Admits, HasNoAdmitted, IsBadHead, IsWholeAt, framing, framing_of, closes, pairs}
use Rattle.http_streams.specs.declared.cut.Framing.TheVariants.{Body}
use Rattle.httparse.proofs.RunLemmas.{length-slice_range}
use Rattle.http_streams.specs.declared.TheConstants.{MAX_HEAD, MAX_FIELDS}

-- an element that passes
pub list_any_at : {X Y : Type 0} (p : Y → Bool) (f : X → Y) (xs : List X) (i : ℕ) (d : X) → i < length xs
    → p (f (get_or xs i d)) ≡ true → list_any p (map f xs) ≡ true
list_any_at p f [] i d inside here = absurd (omega arith)
list_any_at p f (x ∷ xs) zero d inside here = search rules
list_any_at p f (x ∷ xs) (suc i) d inside here = search (rules, list_any_at p f xs i d (omega arith) here)

-- what lies in the front of a list, in the list
pub front_slice : (p q : List ℕ) (a b : ℕ) → a ≤ b → b ≤ length p → slice_range (p ++ q) a b ≡ slice_range p a b
front_slice p q a b ordered inside =
    let from : a ≤ length p = omega arith in
    let fits : b - a ≤ length (drop a p) = simp length-drop (omega arith) in
    ap (take (b - a)) (drop-append-le a p q from) ∙ take-append-le (b - a) (drop a p) q fits

pub slice_of_front : (buf : List ℕ) (n a b : ℕ) → a ≤ b → b ≤ length (take n buf) → slice_range (take n buf) a b ≡ slice_range buf a b
slice_of_front buf n a b ordered inside =
    sym (front_slice (take n buf) (drop n buf) a b ordered inside) ∙ ap (λ (t : List ℕ). slice_range t a b) (take-append-drop n buf)

-- a part, and what follows it
pub slice-drop : (buf : List ℕ) (a b : ℕ) → a ≤ b → slice_range buf a b ++ drop b buf ≡ drop a buf
slice-drop buf a b ordered =
    let split : a + (b - a) ≡ b = omega arith in
    ap (λ (t : List ℕ). take (b - a) (drop a buf) ++ t) (sym (drop-drop (b - a) a buf ∙ ap (λ (n : ℕ). drop n buf) split))
    ∙ take-append-drop (b - a) (drop a buf)

pub seen_more : (buf : List ℕ) (n : ℕ) (h : RequestHead) (rest : List ℕ) → ReadsRequest (take n buf) h rest
    → ReadsRequest buf h (rest ++ drop n buf)
seen_more buf n h rest x =
    subst (λ (t : List ℕ). ReadsRequest t h (rest ++ drop n buf)) (take-append-drop n buf)
    (ReadsRequest-append (take n buf) h rest (drop n buf) x)

-- what follows a head
pub rest_is : (buf : List ℕ) (h : RequestHead) (rest : List ℕ) → ReadsRequest buf h rest → drop (length (print_request h)) buf ≡ rest
rest_is buf h rest x = ap (drop (length (print_request h))) x.1 ∙ drop-append_seam (print_request h) rest

pub reads_drop : (buf : List ℕ) (h : RequestHead) (rest : List ℕ) → ReadsRequest buf h rest
    → ReadsRequest buf h (drop (length (print_request h)) buf)
reads_drop buf h rest x = subst (λ (t : List ℕ). ReadsRequest buf h t) (sym (rest_is buf h rest x)) x

-- a head that fits the first n bytes is read from them
pub short_front : (buf : List ℕ) (n : ℕ) (h : RequestHead) (rest : List ℕ) → ReadsRequest buf h rest
    → length (print_request h) ≤ n → ReadsRequest (take n buf) h (take (n - length (print_request h)) rest)
short_front buf n h rest x short = (
  x.0,
  (
      let text = print_request h in
      let k = n - length text in
      let split : length text + k ≡ n = omega arith in
      ap (take n) x.1 ∙ ap (λ (m : ℕ). take m (text ++ rest)) (sym split) ∙ take-append-add text rest k
      ),
)

pub none_admitted : (buf : List ℕ) → HasNoRequest (take MAX_HEAD buf) → HasNoAdmitted buf
none_admitted buf none h rest a = none h _ (short_front buf MAX_HEAD h rest a.reads a.short)

pub never_more : (buf : List ℕ) (n : ℕ) → NeverHasRequest (take n buf) → NeverHasRequest buf
never_more buf n never more h rest x =
    never (drop n buf ++ more) h rest
    (subst (λ (t : List ℕ). ReadsRequest t h rest) (sym (sym (append_assoc (take n buf) (drop n buf) more) ∙ ap (λ (t : List ℕ). t ++ more) (take-append-drop n buf))) x)

pub never_none : (buf : List ℕ) → NeverHasRequest buf → HasNoAdmitted buf
never_none buf never h rest a =
    never [] h (rest ++ []) (ReadsRequest-append buf h rest [] a.reads)

-- ---- how long a head is

pub length_end : (e : LineEnd) → 1 ≤ length (print_end e)
length_end crlf = omega arith
length_end lf = omega arith

pub length_fields : (fs : List Field) → length fs ≤ length (flat_map print_field fs)
length_fields [] = omega arith
length_fields (f ∷ fs) = omega (arith, length-append (print_field f) (flat_map print_field fs), length-append (f.name ++ 58 ∷ f.raw) (print_end f.end), length_fields fs, length_end f.end)

pub length_head : (h : RequestHead) → length h.fields + 1 ≤ length (print_request h)
unfolding print_request
length_head h =
    let x = print_blank h.blank ++ h.method ++ 32 ∷ h.target ++ 32 ∷ print_version h.minor ++ print_end h.line_end in
    omega (arith, length-append x (print_section h.fields h.last), length-append (flat_map print_field h.fields) (print_end h.last), length_fields h.fields, length_end h.last)

-- so few bytes have no more fields than bytes
pub not_exceeded : (room : ℕ) (buf : List ℕ) → length buf ≤ room → RequestExceeds room buf → ⊥
not_exceeded room buf short (front, rest, split, h, reads, over) = omega (arith, length_head h, ap length split, ap length reads.1, length-append front rest, length-append front (print_end lf), length-append (print_request h) [])

-- ---- from the spans of a head

pub count_of : (seen : List ℕ) (headers : List HeaderSpan) (r : RequestSpans) (h : RequestHead) → IsRequestWithin seen headers r
    → IsRequestAt seen headers r h → length h.fields ≡ r.headers
count_of seen headers r h within at =
    let n : length (take r.headers headers) ≡ r.headers = omega (arith, length-take r.headers headers, within.section.count_fits) in
    sym (length-map h.fields name_and_value) ∙ ap length (sym at.fields) ∙ length-map (take r.headers headers) (header_bytes seen) ∙ n

module _ (buf seen : List ℕ) (e : seen ≡ take MAX_HEAD buf) (headers : List HeaderSpan) (r : RequestSpans) (h : RequestHead)
    (within : IsRequestWithin seen headers r) (at : IsRequestAt seen headers r h) where
  reads_all : ReadsRequest buf h (drop r.len buf)
  reads_all =
      subst (λ (n : ℕ). ReadsRequest buf h (drop n buf)) (sym at.len)
      (reads_drop buf h _ (seen_more buf MAX_HEAD h _ (subst (λ (t : List ℕ). ReadsRequest t h (drop r.len seen)) e at.reads)))

  pub too_many : MAX_FIELDS < r.headers → IsBadHead buf
  too_many over =
      let many : MAX_FIELDS < length h.fields = omega (arith, count_of _ headers r h within at) in (
        λ k rest a. (let same = request_unique buf h k _ _ reads_all a.reads in let n : length h.fields ≡ length k.fields = ap (λ (t : RequestHead). length t.fields) same.0 in omega (arith, a.few)),
        inl (inl (h, _, reads_all, many)),
      )

  pub head_fits : (r.len ≤ length seen) × (length seen ≤ length buf) × (length seen ≤ MAX_HEAD)
  head_fits = (within.section.len_fits, omega (arith, ap length e, length-take MAX_HEAD buf), omega (arith, ap length e, length-take MAX_HEAD buf))

  pub admitted : r.headers ≤ MAX_FIELDS → Admits buf h (drop r.len buf)
  admitted few = record {
    reads = reads_all;
    short = omega (arith, at.len, head_fits);
    few = omega (arith, count_of _ headers r h within at);
  }

  pub fields_is : length headers ≡ r.headers → map (header_bytes seen) headers ≡ pairs h
  fields_is all = ap (map (header_bytes seen)) (sym (take_all r.headers headers (omega arith))) ∙ at.fields

  pub framing_is : length headers ≡ r.headers → framing (span_bytes seen r.method) (map (header_bytes seen) headers) ≡ framing_of h
  framing_is all = ap (λ (m : List ℕ). framing m (map (header_bytes seen) headers)) at.method ∙ ap (framing h.method) (fields_is all)

  pub part_of : (a b : ℕ) → a ≤ b → b ≤ r.len → slice_range buf a b ≡ slice_range seen a b
  part_of a b ordered inside =
      let fits : b ≤ length seen = omega (arith, head_fits) in
      let fits_too : b ≤ length (take MAX_HEAD buf) = omega (arith, ap length e) in
      sym (slice_of_front buf MAX_HEAD a b ordered fits_too) ∙ ap (λ (t : List ℕ). slice_range t a b) (sym e)

  pub whole : (size : ℕ) (last : Bool) → length headers ≡ r.headers → r.headers ≤ MAX_FIELDS
      → framing (span_bytes seen r.method) (map (header_bytes seen) headers) ≡ Body size
      → size ≤ length buf - r.len → last ≡ closes r.version (map (header_bytes seen) headers)
      → IsWholeAt buf (record { method = r.method; target = r.path; body = r.len; end = r.len + size; closes = last })
  whole size last all few framed fits ends =
      let body = slice_range buf r.len (r.len + size) in
      let n : length body ≡ size = length-slice_range buf r.len (r.len + size) (omega arith) (omega (arith, head_fits)) ∙ (let m : r.len + size - r.len ≡ size = omega arith in m) in
      record {
        head = h;
        ordered = (omega arith, omega (arith, head_fits), omega (arith, at.len, length_head h));
        method_in = within.method;
        target_in = within.path;
        reads = record {
          head = subst (λ (t : List ℕ). Admits buf h t) (sym (slice-drop buf r.len (r.len + size) (omega arith))) (admitted few);
          framed = sym (framing_is all) ∙ framed ∙ ap Body (sym n);
        };
        method = part_of _ _ within.method.0 within.method.1 ∙ at.method;
        target = part_of _ _ within.path.0 within.path.1 ∙ at.path;
        closes = ends ∙ ap (λ (v : ℕ). closes v (map (header_bytes seen) headers)) at.version ∙ ap (closes h.minor) (fields_is all);
      }

-- ---- digits

pub list_all_more : {X : Type 0} (p : X → Bool) (xs : List X) (i : ℕ) (d : X) → i < length xs
    → list_all p (take i xs) ≡ true → p (get_or xs i d) ≡ true → list_all p (take (i + 1) xs) ≡ true
list_all_more p xs i d inside before here = grind (arith, ap (list_all p) (take_more xs i d inside), list_all-append p (take i xs) (get_or xs i d ∷ []))
