-- What the parser says of the first bytes of a reply, as facts on the reply.
use Rattle.std.proofs.Common.{◌≡◌, ℕ, ◌+◌, ◌-◌, ◌<◌, ◌≤◌, inl, inr, List, [], ◌∷◌, ◌++◌, length, map, take, drop, sym, ap, ◌∙◌, subst, arith, append_assoc, length-append}
use Rattle.std.specs.List.{slice_range, flat_map}
use Rattle.std.proofs.lemmas.List.{take-append-drop, take_all, length-take, length-map}
use Rattle.std.proofs.Math.Seq.{drop-append_seam, take-append-add}
use Rattle.httparse.specs.Grammar.{ResponseHead, lf, print_end, print_blank, print_reason, print_version, print_field, print_section, print_response, ReadsResponse, HasNoResponse, NeverHasResponse}
use Rattle.httparse.specs.declared.spans.HeaderSpan.{HeaderSpan}
use Rattle.httparse.specs.declared.spans.ResponseSpans.{ResponseSpans}
use Rattle.httparse.specs.Spans.{IsResponseAt, IsResponseWithin, ResponseExceeds, header_bytes, name_and_value}
use Rattle.httparse.proofs.GrammarLemmas.{ReadsResponse-append, response_unique}
use Rattle.httparse.proofs.RunLemmas.{length-slice_range}
use Rattle.http_streams.specs.Reply.{IsReplyAt}
use Rattle.http_streams.specs.Reply.{AdmitsReply, HasNoAdmittedReply, IsBadReply, length_of, reply_length}
use Rattle.http_streams.specs.declared.fields.Announced.TheVariants.{Size}
use Rattle.http_streams.specs.declared.TheConstants.{MAX_HEAD, MAX_FIELDS}
use Rattle.http_streams.proofs.CutLemmas.{length_end, length_fields, slice-drop}

pub seen_more : (buf : List ℕ) (n : ℕ) (h : ResponseHead) (rest : List ℕ) → ReadsResponse (take n buf) h rest
    → ReadsResponse buf h (rest ++ drop n buf)
seen_more buf n h rest x =
    subst (λ (t : List ℕ). ReadsResponse t h (rest ++ drop n buf)) (take-append-drop n buf)
    (ReadsResponse-append (take n buf) h rest (drop n buf) x)

-- what follows a head
pub rest_is : (buf : List ℕ) (h : ResponseHead) (rest : List ℕ) → ReadsResponse buf h rest → drop (length (print_response h)) buf ≡ rest
rest_is buf h rest x = ap (drop (length (print_response h))) x.1 ∙ drop-append_seam (print_response h) rest

pub reads_drop : (buf : List ℕ) (h : ResponseHead) (rest : List ℕ) → ReadsResponse buf h rest
    → ReadsResponse buf h (drop (length (print_response h)) buf)
reads_drop buf h rest x = subst (λ (t : List ℕ). ReadsResponse buf h t) (sym (rest_is buf h rest x)) x

-- a head that fits the first n bytes is read from them
pub short_front : (buf : List ℕ) (n : ℕ) (h : ResponseHead) (rest : List ℕ) → ReadsResponse buf h rest
    → length (print_response h) ≤ n → ReadsResponse (take n buf) h (take (n - length (print_response h)) rest)
short_front buf n h rest x short = (
  x.0,
  (
      let text = print_response h in
      let k = n - length text in
      let split : length text + k ≡ n = omega arith in
      ap (take n) x.1 ∙ ap (λ (m : ℕ). take m (text ++ rest)) (sym split) ∙ take-append-add text rest k
      ),
)

pub none_admitted : (buf : List ℕ) → HasNoResponse (take MAX_HEAD buf) → HasNoAdmittedReply buf
none_admitted buf none h rest a = none h _ (short_front buf MAX_HEAD h rest a.reads a.short)

pub never_more : (buf : List ℕ) (n : ℕ) → NeverHasResponse (take n buf) → NeverHasResponse buf
never_more buf n never more h rest x =
    never (drop n buf ++ more) h rest
    (subst (λ (t : List ℕ). ReadsResponse t h rest) (sym (sym (append_assoc (take n buf) (drop n buf) more) ∙ ap (λ (t : List ℕ). t ++ more) (take-append-drop n buf))) x)

pub never_none : (buf : List ℕ) → NeverHasResponse buf → HasNoAdmittedReply buf
never_none buf never h rest a =
    never [] h (rest ++ []) (ReadsResponse-append buf h rest [] a.reads)

pub length_head : (h : ResponseHead) → length h.fields + 1 ≤ length (print_response h)
unfolding print_response
length_head h =
    let x = print_blank h.blank ++ print_version h.minor ++ 32 ∷ h.digits ++ print_reason h.reason ++ print_end h.line_end in
    omega (arith, length-append x (print_section h.fields h.last), length-append (flat_map print_field h.fields) (print_end h.last), length_fields h.fields, length_end h.last)

-- so few bytes have no more fields than bytes
pub not_exceeded : (room : ℕ) (buf : List ℕ) → length buf ≤ room → ResponseExceeds room buf → ⊥
not_exceeded room buf short (front, rest, split, h, reads, over) = omega (arith, length_head h, ap length split, ap length reads.1, length-append front rest, length-append front (print_end lf), length-append (print_response h) [])

-- ---- from the spans of a head

pub count_of : (seen : List ℕ) (headers : List HeaderSpan) (r : ResponseSpans) (h : ResponseHead) → IsResponseWithin seen headers r
    → IsResponseAt seen headers r h → length h.fields ≡ r.headers
count_of seen headers r h within at =
    let n : length (take r.headers headers) ≡ r.headers = omega (arith, length-take r.headers headers, within.section.count_fits) in
    sym (length-map h.fields name_and_value) ∙ ap length (sym at.fields) ∙ length-map (take r.headers headers) (header_bytes seen) ∙ n

module _ (buf seen : List ℕ) (e : seen ≡ take MAX_HEAD buf) (headers : List HeaderSpan) (r : ResponseSpans) (h : ResponseHead)
    (within : IsResponseWithin seen headers r) (at : IsResponseAt seen headers r h) where
  reads_all : ReadsResponse buf h (drop r.len buf)
  reads_all =
      subst (λ (n : ℕ). ReadsResponse buf h (drop n buf)) (sym at.len)
      (reads_drop buf h _ (seen_more buf MAX_HEAD h _ (subst (λ (t : List ℕ). ReadsResponse t h (drop r.len seen)) e at.reads)))

  pub too_many : MAX_FIELDS < r.headers → IsBadReply buf
  too_many over =
      let many : MAX_FIELDS < length h.fields = omega (arith, count_of _ headers r h within at) in inr (
        λ k rest a. (let same = response_unique buf h k _ _ reads_all a.reads in let n : length h.fields ≡ length k.fields = ap (λ (t : ResponseHead). length t.fields) same.0 in omega (arith, a.few)),
        inl (inl (h, _, reads_all, many)),
      )

  pub head_fits : (r.len ≤ length seen) × (length seen ≤ length buf) × (length seen ≤ MAX_HEAD)
  head_fits = (within.section.len_fits, omega (arith, ap length e, length-take MAX_HEAD buf), omega (arith, ap length e, length-take MAX_HEAD buf))

  pub admitted : r.headers ≤ MAX_FIELDS → AdmitsReply buf h (drop r.len buf)
  admitted few = record {
    reads = reads_all;
    short = omega (arith, at.len, head_fits);
    few = omega (arith, count_of _ headers r h within at);
  }

  pub length_is : length headers ≡ r.headers → reply_length (map (header_bytes seen) headers) ≡ length_of h
  length_is all =
      ap reply_length (ap (map (header_bytes seen)) (sym (take_all r.headers headers (omega arith))) ∙ at.fields)

  pub whole : (size : ℕ) → length headers ≡ r.headers → r.headers ≤ MAX_FIELDS
      → reply_length (map (header_bytes seen) headers) ≡ Size size → size ≤ length buf - r.len
      → IsReplyAt buf (record { code = r.code; body = r.len; end = r.len + size })
  whole size all few framed fits =
      let body = slice_range buf r.len (r.len + size) in
      let n : length body ≡ size = length-slice_range buf r.len (r.len + size) (omega arith) (omega (arith, head_fits)) ∙ (let m : r.len + size - r.len ≡ size = omega arith in m) in
      record {
        ordered = (omega arith, omega (arith, head_fits));
        reads = record {
          head = h;
          admits = subst (λ (t : List ℕ). AdmitsReply buf h t) (sym (slice-drop buf r.len (r.len + size) (omega arith))) (admitted few);
          framed = sym (length_is all) ∙ framed ∙ ap Size (sym n);
          status_is = at.code;
        };
      }
