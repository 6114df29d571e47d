-- The explanation of an error, and the text on an error code, are readable.
use Rattle.std.proofs.Common.{◌≡◌, ◌∙◌, ℕ, zero, suc, ◌+◌, ◌-◌, ◌/◌, ◌%◌, ◌<◌, ◌==◌, ◌&&◌, ◌||◌, Bool, true, false, not, nat_lt, if◌then◌else◌}
use Rattle.std.proofs.Common.{List, [], ◌∷◌, ◌++◌, map, take, drop, length, replicate, Option, Some, None, chars, codes, decimal}
use Rattle.std.proofs.Common.{encode_utf8_all, refl, sym, ap, ap₂, subst, arith}
use Rattle.std.specs.List.{list_all}
use Rattle.std.specs.Fmt.{digit_glyph, digits_onto, digits}
use Rattle.std.proofs.Math.Nat.{mod-lt}
use Rattle.std.proofs.lemmas.Str.{encodes-append, encode_ascii}
use Rattle.std.proofs.lemmas.List.Folds.{list_all-append}
use Rattle.std.proofs.lemmas.Bool.{false≢true}
use Rattle.std.proofs.lemmas.Bool.Decides.{nat_tests}
use Rattle.std.specs.Str.{all_scalars}
use lib.Utf8.{scalar}
use Rattle.explanations.specs.CodeText.{Texts, words_on, code_text}
use Rattle.explanations.specs.Printable.{is_printable, are_printable, is_clean}
use Rattle.explanations.proofs.FoundCodes.{words_clean}
use Rattle.explanations.specs.Excerpt.{is_control, is_bidi_control, is_hidden, shown_char, blank_char, repeated, place_in, cut_before, end_of, carets_at}
use Rattle.explanations.specs.Excerpt.{mark_if, heading, line_row, caret_row, excerpt}
use Rattle.explanations.specs.declared.finding.SourceFinding.{SourceFinding}
use Rattle.explanations.specs.declared.finding.WholeFinding.{WholeFinding}
use Rattle.explanations.specs.ExplanationText.{readable, cut_text, cause_words, says_line, hint_line, detail_line, rest_text, place_text}
use Rattle.explanations.specs.ExplanationText.{span_between, IsSourceText, index_words, file_line, IsWholeText}
use Rattle.explanations.specs.Readable.{is_shown, IsReadable}

-- ---- tests

both_true : (a b : Bool) → a ≡ true → b ≡ true → (a && b) ≡ true
both_true true b e f = f
both_true false b e f = e

left_true : (a b : Bool) → (a && b) ≡ true → a ≡ true
left_true true b h = refl
left_true false b h = h

right_true : (a b : Bool) → (a && b) ≡ true → b ≡ true
right_true true b h = h
right_true false b h = absurd (false≢true h)

-- ---- texts

-- a character that is shown is one
scalar_when : (scalar_c rest : Bool) (c : ℕ) → scalar c ≡ scalar_c → (not (not scalar_c || rest) || (c == 10)) ≡ true → scalar c ≡ true
scalar_when true rest c e h = e
scalar_when false rest c e h = let ten : c ≡ 10 = grind (arith, nat_tests) in rw ten refl

scalar_if_shown : (c : ℕ) → is_shown c ≡ true → scalar c ≡ true
scalar_if_shown c h = scalar_when (scalar c) (is_control c || is_bidi_control c) c refl h

scalars_if_shown : (cs : List ℕ) → list_all is_shown cs ≡ true → all_scalars cs ≡ true
scalars_if_shown [] h = refl
scalars_if_shown (c ∷ cs) h =
    both_true (scalar c) (all_scalars cs) (scalar_if_shown c (left_true (is_shown c) (list_all is_shown cs) h))
    (scalars_if_shown cs (right_true (is_shown c) (list_all is_shown cs) h))

shows : (cs bytes : List ℕ) → list_all is_shown cs ≡ true → bytes ≡ encode_utf8_all cs → IsReadable bytes
shows cs bytes h is = (cs, scalars_if_shown cs h, h, is)

encoded : (cs : List ℕ) → list_all is_shown cs ≡ true → IsReadable (encode_utf8_all cs)
encoded cs h = shows cs (encode_utf8_all cs) h refl

pub both : (a b : List ℕ) → IsReadable a → IsReadable b → IsReadable (a ++ b)
both a b (xs, s, p, e) (ys, t, q, f) =
    shows (xs ++ ys) (a ++ b) (list_all-append is_shown xs ys ∙ both_true (list_all is_shown xs) (list_all is_shown ys) p q)
    (ap₂ (λ s t. s ++ t) e f ∙ sym (encodes-append xs ys))

pub nothing : IsReadable []
nothing = shows [] [] refl refl

feed : IsReadable (10 ∷ [])
feed = shows (10 ∷ []) (10 ∷ []) refl (sym (ap (λ e. e ++ []) (encode_ascii 10 (omega arith))))

shown_if_printable : (c : ℕ) → is_printable c ≡ true → is_shown c ≡ true
shown_if_printable c h = grind (arith, nat_tests)

ascii_if_printable : (c : ℕ) → is_printable c ≡ true → c < 128
ascii_if_printable c h = grind (arith, nat_tests)

plain : (text : List ℕ) → are_printable text ≡ true → IsReadable text
plain [] h = nothing
plain (c ∷ cs) h =
    let this = left_true (is_printable c) (are_printable cs) h in
    let rest = plain cs (right_true (is_printable c) (are_printable cs) h) in
    shows (c ∷ rest.0) (c ∷ cs) (both_true (is_shown c) (list_all is_shown rest.0) (shown_if_printable c this) rest.2)
    (ap (λ l. c ∷ l) rest.3 ∙ sym (ap (λ e. e ++ encode_utf8_all rest.0) (encode_ascii c (ascii_if_printable c this))))

-- ---- characters of a file

shown_when : (b : Bool) (c : ℕ) → is_hidden c ≡ b → is_shown (if b then 0xFFFD else c) ≡ true
shown_when true c e = refl
shown_when false c e = ap (λ b. not b || (c == 10)) e

shown_one : (c : ℕ) → is_shown (shown_char c) ≡ true
shown_one c = shown_when (is_hidden c) c refl

shown_all : (cs : List ℕ) → list_all is_shown (map shown_char cs) ≡ true
shown_all [] = refl
shown_all (c ∷ cs) = both_true (is_shown (shown_char c)) (list_all is_shown (map shown_char cs)) (shown_one c) (shown_all cs)

blank_when : (b : Bool) → is_shown (if b then 9 else 32) ≡ true
blank_when true = refl
blank_when false = refl

blank_all : (cs : List ℕ) → list_all is_shown (map blank_char cs) ≡ true
blank_all [] = refl
blank_all (c ∷ cs) = both_true (is_shown (blank_char c)) (list_all is_shown (map blank_char cs)) (blank_when (c == 9)) (blank_all cs)

repeated_all : (n c : ℕ) → is_shown c ≡ true → list_all is_shown (replicate n c) ≡ true
repeated_all zero c h = refl
repeated_all (suc n) c h = both_true (is_shown c) (list_all is_shown (replicate n c)) h (repeated_all n c h)

read : (text : List ℕ) (most : ℕ) → IsReadable (readable text most)
read text most = encoded (map shown_char (take most (chars text))) (shown_all (take most (chars text)))

-- ---- numbers

digit_when : (d : ℕ) (b : Bool) → nat_lt d 10 ≡ b → d < 10 → is_printable (if b then 48 + d else (if false then 55 + d else 87 + d)) ≡ true
digit_when d true e less = grind (arith, nat_tests)
digit_when d false e less = absurd (grind (arith, nat_tests))

glyph : (n : ℕ) → is_printable (digit_glyph false (n % 10)) ≡ true
glyph n = digit_when (n % 10) (nat_lt (n % 10) 10) refl (mod-lt n (omega arith))

either : (b : Bool) (s t : List ℕ) → are_printable s ≡ true → are_printable t ≡ true → are_printable (if b then s else t) ≡ true
either true s t h g = h
either false s t h g = g

digits_plain : (k n : ℕ) (acc : List ℕ) → are_printable acc ≡ true → are_printable (digits_onto k 10 false n acc) ≡ true
digits_plain zero n acc h = h
digits_plain (suc k) n acc h =
    let more = both_true (is_printable (digit_glyph false (n % 10))) (are_printable acc) (glyph n) h in
    either (n / 10 == 0) (digit_glyph false (n % 10) ∷ acc) (digits_onto k 10 false (n / 10) (digit_glyph false (n % 10) ∷ acc)) more
    (digits_plain k (n / 10) (digit_glyph false (n % 10) ∷ acc) more)

decimal_plain : (n : ℕ) → are_printable (decimal n) ≡ true
unfolding digits
decimal_plain n = digits_plain 64 n [] refl

number : (n : ℕ) → IsReadable (decimal n)
number n = plain (decimal n) (decimal_plain n)

-- ---- the lines that show a place

marked : (b : Bool) (mark : List ℕ) → are_printable mark ≡ true → IsReadable (mark_if b mark)
marked true mark h = plain mark h
marked false mark h = nothing

heading_reads : (file : List ℕ) (line column : ℕ) → IsReadable (heading file line column)
heading_reads file line column =
    let a = both (codes " --> ") _ (plain (codes " --> ") refl) (encoded (map shown_char (chars file)) (shown_all (chars file))) in
    let b = both _ (codes ":") a (plain (codes ":") refl) in
    let c = both _ (decimal line) b (number line) in
    let d = both _ (codes ":") c (plain (codes ":") refl) in
    both _ (10 ∷ []) (both _ (decimal column) d (number column)) feed

row_reads : (n : ℕ) (line : List ℕ) (cut end : ℕ) → IsReadable (line_row n line cut end)
row_reads n line cut end =
    let part = take (end - cut) (drop cut (chars line)) in
    let a = both (decimal n) (codes " | ") (number n) (plain (codes " | ") refl) in
    let b = both _ (mark_if (nat_lt 0 cut) (codes "..")) a (marked (nat_lt 0 cut) (codes "..") refl) in
    let c = both _ (encode_utf8_all (map shown_char part)) b (encoded (map shown_char part) (shown_all part)) in
    let more = nat_lt end (length (chars line)) in
    both _ (10 ∷ []) (both _ (mark_if more (codes "..")) c (marked more (codes "..") refl)) feed

carets_read : (n : ℕ) (line : List ℕ) (cut place carets : ℕ) → IsReadable (caret_row n line cut place carets)
carets_read n line cut place carets =
    let part = take (place - cut) (drop cut (chars line)) in
    let a = both (repeated 32 n) (codes " | ") (encoded (replicate n 32) (repeated_all n 32 refl)) (plain (codes " | ") refl) in
    let b = both _ (mark_if (nat_lt 0 cut) (codes "  ")) a (marked (nat_lt 0 cut) (codes "  ") refl) in
    let c = both _ (encode_utf8_all (map blank_char part)) b (encoded (map blank_char part) (blank_all part)) in
    both _ (10 ∷ []) (both _ (repeated 94 carets) c (encoded (replicate carets 94) (repeated_all carets 94 refl))) feed

excerpt_reads : (file line : List ℕ) (n column span : ℕ) → IsReadable (excerpt file line n column span)
excerpt_reads file line n column span =
    let len = length (chars line) in
    let place = place_in len column in
    let cut = cut_before len place in
    let end = end_of len cut in
    let a = both (heading file n column) (line_row n line cut end) (heading_reads file n column) (row_reads n line cut end) in
    both _ (caret_row (length (decimal n)) line cut place (carets_at end place span)) a
    (carets_read (length (decimal n)) line cut place (carets_at end place span))

-- ---- words

cut_reads : (text : List ℕ) (most : ℕ) → IsReadable (cut_text text most)
cut_reads text most =
    let more = nat_lt most (length (chars text)) in
    both (readable text most) (mark_if more (codes "..")) (read text most) (marked more (codes "..") refl)

cause_reads : (cause : List ℕ) → IsReadable (cause_words cause)
cause_reads [] = nothing
cause_reads (c ∷ cs) =
    let a = both (codes " `") (cut_text (c ∷ cs) 60) (plain (codes " `") refl) (cut_reads (c ∷ cs) 60) in
    both _ (codes "`") a (plain (codes "`") refl)

says_reads : (code : ℕ) (says cause : List ℕ) → are_printable says ≡ true → IsReadable (says_line code says cause)
says_reads code says cause h =
    let a = both (codes "error ") (decimal code) (plain (codes "error ") refl) (number code) in
    let b = both _ says (both _ (codes ": ") a (plain (codes ": ") refl)) (plain says h) in
    both _ (10 ∷ []) (both _ (cause_words cause) b (cause_reads cause)) feed

hint_reads : (advice : List ℕ) → are_printable advice ≡ true → IsReadable (hint_line advice)
hint_reads advice h = both _ (10 ∷ []) (both (codes "  hint: ") advice (plain (codes "  hint: ") refl) (plain advice h)) feed

detail_reads : (detail : List ℕ) → IsReadable (detail_line detail)
detail_reads [] = nothing
detail_reads (c ∷ cs) =
    both _ (10 ∷ []) (both (codes "  ") (cut_text (c ∷ cs) 400) (plain (codes "  ") refl) (cut_reads (c ∷ cs) 400)) feed

index_reads : (index : Option ℕ) → IsReadable (index_words index)
index_reads None = nothing
index_reads (Some index) =
    let a = both (codes ", entity ") (decimal index) (plain (codes ", entity ") refl) (number index) in
    both _ (codes " (from 0)") a (plain (codes " (from 0)") refl)

file_reads : (file : List ℕ) (index : Option ℕ) → IsReadable (file_line file index)
file_reads file index =
    let a = both (codes " --> ") (readable file (length file)) (plain (codes " --> ") refl) (read file (length file)) in
    both _ (10 ∷ []) (both _ (index_words index) a (index_reads index)) feed

-- ---- whole explanations

pub source_is_readable : (file text : List ℕ) (finding : SourceFinding) (bytes : List ℕ) → IsSourceText file text finding bytes → IsReadable bytes
source_is_readable file text finding bytes h =
    let span = span_between h.place h.end in
    let a = both (says_line finding.code h.says finding.cause.now) (place_text file text h.place span)
    (says_reads finding.code h.says finding.cause.now h.clean.0) (excerpt_reads file _ h.place.line h.place.column span) in
    let b = both (detail_line finding.detail.now) (detail_line finding.note.now) (detail_reads finding.detail.now) (detail_reads finding.note.now) in
    let rest = both _ (hint_line h.advice) b (hint_reads h.advice h.clean.1) in
    let all = both _ (rest_text finding h.advice) a rest in
    subst IsReadable (sym h.is) all

pub whole_is_readable : (file : List ℕ) (finding : WholeFinding) (bytes : List ℕ) → IsWholeText file finding bytes → IsReadable bytes
whole_is_readable file finding bytes h =
    let a = both (says_line finding.code h.says []) (file_line file finding.index) (says_reads finding.code h.says [] h.clean.0)
    (file_reads file finding.index) in
    let b = both _ (detail_line finding.detail.now) a (detail_reads finding.detail.now) in
    subst IsReadable (sym h.is) (both _ (hint_line h.advice) b (hint_reads h.advice h.clean.1))

-- ---- the text on a code

next_line : (text : List ℕ) → are_printable text ≡ true → IsReadable (10 ∷ text)
next_line text h = both (10 ∷ []) text feed (plain text h)

code_reads : (texts : Texts) → is_clean texts ≡ true → IsReadable (code_text texts)
code_reads texts h =
    let name = left_true (are_printable texts.name) _ h in
    let h = right_true (are_printable texts.name) _ h in
    let meaning = left_true (are_printable texts.meaning) _ h in
    let h = right_true (are_printable texts.meaning) _ h in
    let example = left_true (are_printable texts.example) _ h in
    let h = right_true (are_printable texts.example) _ h in
    let advice = right_true (are_printable texts.says) (are_printable texts.advice) h in
    let a = both (decimal texts.code) (codes ", ") (number texts.code) (plain (codes ", ") refl) in
    let b = both _ (codes "\nmeans: ") (both _ texts.name a (plain texts.name name)) (next_line (codes "means: ") refl) in
    let c = both _ (codes "\nexample: ") (both _ texts.meaning b (plain texts.meaning meaning)) (next_line (codes "example: ") refl) in
    let d = both _ (codes "\nwhat to do: ") (both _ texts.example c (plain texts.example example)) (next_line (codes "what to do: ") refl) in
    both _ texts.advice d (plain texts.advice advice)

pub code_is_readable : (code : ℕ) (texts : Texts) → words_on code ≡ Some texts → IsReadable (code_text texts)
code_is_readable code texts e = code_reads texts (words_clean code (Some texts) e)
