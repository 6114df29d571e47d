-- The pieces of lines, one after the other.
use Rattle.std.proofs.Common.{◌≡◌, ◌++◌, ◌∷◌, [], ◌<◌, ◌≤◌, ◌⊎◌, inl, inr, subst, ℕ, Bool, true, false, Option, Some}
use Rattle.std.proofs.Common.{None, List, refl, sym, ap, ◌∙◌}
use Rattle.std.proofs.Common.{append_assoc}
use Rattle.std.proofs.lemmas.Bool.{cases_lt, agree_below_at}
use Rattle.std.specs.Prelude.{codes, decimal}
use Rattle.site.specs.stamped_store.declared.entry.Stamp.{Stamp}
use Rattle.http_streams.specs.ReplyText.{error_line as stream_line}
use Rattle.answer_lines.specs.Refusals.{number_in}
use Rattle.answer_lines.specs.declared.place.Place.{Place}
use Rattle.answer_lines.specs.Refusals.{error_line}
use Rattle.json.specs.Print.{escape_byte, escape}
use Rattle.json.proofs.Printed.Strings.{escape_byte_plain}
use Rattle.plain.specs.Words.{AllAre, is_word_byte, is_letter, is_digit}
use Rattle.site.specs.stamped_store.SiteNames.{IsSiteName, is_site_byte}
use Rattle.serde_json.specs.Written.{has_float}
use Rattle.http_replies.specs.Lines.{found_json, fault_line, put_line, stamp_line, taken_line}
use Rattle.http_replies.specs.inner.Pieces.{boolean_word, number_or_null, site_end}

-- ---- a site's name needs no escape

no_quote : is_site_byte 34 ≡ true → ⊥
unfolding is_site_byte is_word_byte is_letter is_digit
no_quote h = absurd cc

no_backslash : is_site_byte 92 ≡ true → ⊥
unfolding is_site_byte is_word_byte is_letter is_digit
no_backslash h = absurd cc

no_control : (c : ℕ) → c < 32 → is_site_byte c ≡ false
unfolding is_site_byte is_word_byte is_letter is_digit
no_control c low = agree_below_at is_site_byte (λ k. false) 32 c refl low

plain_byte : (c : ℕ) → is_site_byte c ≡ true → escape_byte c ≡ c ∷ []
plain_byte c h =
    escape_byte_plain c (λ e. no_quote (subst (λ (k : ℕ). is_site_byte k ≡ true) e h))
    (λ e. no_backslash (subst (λ (k : ℕ). is_site_byte k ≡ true) e h)) (above (cases_lt c 32))
  where
    above : (c < 32) ⊎ (32 ≤ c) → 32 ≤ c
    above (inl low) = let bad : false ≡ true = sym (no_control c low) ∙ h in absurd cc
    above (inr least) = least

unescaped : (site : List ℕ) → AllAre is_site_byte site → escape site ≡ site
unescaped [] h = refl
unescaped (c ∷ cs) h = let rest = unescaped cs h.1 in λ i. plain_byte c h.0 i ++ rest i

site_told : (site : List ℕ) → IsSiteName site → (escape site ++ 34 ∷ []) ++ codes "}" ≡ site ++ codes "\"}"
site_told site named = rw (unescaped site named.bytes) (append_assoc site (34 ∷ []) (codes "}"))

-- ---- lines

stamp_escaped : (s : Stamp)
    → stamp_line s
    ≡ codes "{\"count\":" ++ (decimal s.count ++ (codes ",\"site\":\"" ++ ((escape s.site ++ 34 ∷ []) ++ codes "}")))
unfolding stamp_line escape_byte
stamp_escaped s = refl

put_escaped : (s : Stamp) (impossible : Bool)
    → put_line s impossible
    ≡ codes "{\"count\":" ++ (decimal s.count ++ (codes ",\"impossible\":"
    ++ (boolean_word impossible ++ (codes ",\"site\":\"" ++ ((escape s.site ++ 34 ∷ []) ++ codes "}")))))
unfolding put_line escape_byte
put_escaped s true = refl
put_escaped s false = refl

pub stamp_pieces : (s : Stamp) → IsSiteName s.site
    → stamp_line s ≡ codes "{\"count\":" ++ (decimal s.count ++ site_end s.site)
stamp_pieces s named =
    stamp_escaped s
    ∙ ap (λ (l : List ℕ). codes "{\"count\":" ++ (decimal s.count ++ (codes ",\"site\":\"" ++ l))) (site_told s.site named)

pub put_pieces : (s : Stamp) (impossible : Bool) → IsSiteName s.site
    → put_line s impossible
    ≡ codes "{\"count\":" ++ (decimal s.count ++ (codes ",\"impossible\":" ++ (boolean_word impossible ++ site_end s.site)))
put_pieces s impossible named =
    put_escaped s impossible
    ∙ ap (λ (l : List ℕ). codes "{\"count\":" ++ (decimal s.count ++ (codes ",\"impossible\":"
    ++ (boolean_word impossible ++ (codes ",\"site\":\"" ++ l)))))
    (site_told s.site named)

pub taken_pieces : (count : ℕ) → taken_line count ≡ codes "{\"taken\":" ++ (decimal count ++ codes "}")
unfolding taken_line escape_byte
taken_pieces count = refl

pub fault_pieces : (code : ℕ) (place : Option Place) (within : Option ℕ)
    → fault_line code place within
    ≡ codes "{\"error\":{\"code\":" ++ (decimal code ++ (codes ",\"place\":"
    ++ (number_or_null (number_in place) ++ (codes ",\"within\":" ++ (number_or_null within ++ codes "}}")))))
unfolding error_line escape_byte
fault_pieces code None None = simp append_assoc
fault_pieces code None (Some w) = simp append_assoc
fault_pieces code (Some p) None = simp append_assoc
fault_pieces code (Some p) (Some w) = simp append_assoc

pub stamp_plain : (s : Stamp) → IsSiteName s.site
    → stamp_line s ≡ codes "{\"count\":" ++ decimal s.count ++ codes ",\"site\":\"" ++ s.site ++ codes "\"}"
stamp_plain s named = stamp_pieces s named ∙ simp append_assoc

pub put_plain : (s : Stamp) (impossible : Bool) → IsSiteName s.site
    → put_line s impossible
    ≡ codes "{\"count\":" ++ decimal s.count ++ codes ",\"impossible\":" ++ boolean_word impossible
    ++ codes ",\"site\":\"" ++ s.site ++ codes "\"}"
put_plain s impossible named = put_pieces s impossible named ∙ simp append_assoc

three : (t a b c : List ℕ) {u v w : List ℕ} → u ≡ t ++ a → v ≡ u ++ b → w ≡ v ++ c → w ≡ t ++ (a ++ (b ++ c))
three t a b c p q r = rw (r, q, p) (simp append_assoc)

five : (t a b c d e : List ℕ) {u v w x y : List ℕ} → u ≡ t ++ a → v ≡ u ++ b → w ≡ v ++ c → x ≡ w ++ d → y ≡ x ++ e
    → y ≡ t ++ (a ++ (b ++ (c ++ (d ++ e))))
five t a b c d e p q r s z = rw (z, s, r, q, p) (simp append_assoc)

seven : (t a b c d e f g : List ℕ) {u v w x y z n : List ℕ} → u ≡ t ++ a → v ≡ u ++ b → w ≡ v ++ c → x ≡ w ++ d
    → y ≡ x ++ e → z ≡ y ++ f → n ≡ z ++ g → n ≡ t ++ (a ++ (b ++ (c ++ (d ++ (e ++ (f ++ g))))))
seven t a b c d e f g p q r s o i h = rw (h, i, o, s, r, q, p) (simp append_assoc)

pub stamp_told : (t : List ℕ) (s : Stamp) {u v w : List ℕ} → IsSiteName s.site
    → u ≡ t ++ codes "{\"count\":" → v ≡ u ++ decimal s.count → w ≡ v ++ site_end s.site → w ≡ t ++ stamp_line s
stamp_told t s named p q r =
    three t (codes "{\"count\":") (decimal s.count) (site_end s.site) p q r
    ∙ ap (λ (l : List ℕ). t ++ l) (sym (stamp_pieces s named))

pub put_told : (t : List ℕ) (s : Stamp) (impossible : Bool) {u v w x y : List ℕ} → IsSiteName s.site
    → u ≡ t ++ codes "{\"count\":" → v ≡ u ++ decimal s.count → w ≡ v ++ codes ",\"impossible\":"
    → x ≡ w ++ boolean_word impossible → y ≡ x ++ site_end s.site → y ≡ t ++ put_line s impossible
put_told t s impossible named p q r o i =
    five t (codes "{\"count\":") (decimal s.count) (codes ",\"impossible\":") (boolean_word impossible)
    (site_end s.site) p q r o i
    ∙ ap (λ (l : List ℕ). t ++ l) (sym (put_pieces s impossible named))

pub fault_told : (t : List ℕ) (code : ℕ) (place : Option Place) (within : Option ℕ) (number : ℕ) (first second : Option ℕ)
    {u v w x y z n : List ℕ} → number ≡ code → first ≡ number_in place → second ≡ within
    → u ≡ t ++ codes "{\"error\":{\"code\":" → v ≡ u ++ decimal number → w ≡ v ++ codes ",\"place\":"
    → x ≡ w ++ number_or_null first → y ≡ x ++ codes ",\"within\":" → z ≡ y ++ number_or_null second
    → n ≡ z ++ codes "}}" → n ≡ t ++ fault_line code place within
fault_told t code place within number first second is there inside p q r o i h k =
    seven t (codes "{\"error\":{\"code\":") (decimal number) (codes ",\"place\":") (number_or_null first)
    (codes ",\"within\":") (number_or_null second) (codes "}}") p q r o i h k
    ∙ ap (λ (l : List ℕ). t ++ l)
    (rw (is, there, inside) (sym (fault_pieces code place within)))

pub one_line : (n : ℕ) → fault_line n None None ≡ stream_line n
unfolding stream_line
one_line n =
    fault_pieces n None None
    ∙ sym (append_assoc (codes "{\"error\":{\"code\":") (decimal n) (codes ",\"place\":null,\"within\":null}}"))

pub no_float : (text : List ℕ) (s : Stamp) → has_float (found_json text s) ≡ false
no_float text s = refl
