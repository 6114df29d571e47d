-- The rows of an excerpt, from their segments.
use Rattle.std.proofs.Common.{◌≡◌, ℕ, ◌-◌, List, [], ◌∷◌, ◌++◌, length, map, take, chars, codes, decimal, nat_lt, encode_utf8_all, append_assoc, refl}
use Rattle.explanations.specs.Excerpt.{shown_char, shown, blanks, repeated, mark_if, heading, line_row, caret_row}

joined : (a b c d e f g h i j k l m n o p q r s : List ℕ)
    → a ++ (b ++ (c ++ (d ++ (e ++ (f ++ (g ++ (h ++ (i ++ (j ++ (k ++ (l ++ (m ++ (n ++ (o ++ (p ++ (q ++ (r ++ s)))))))))))))))))
    ≡ (((((((a ++ b) ++ c) ++ d) ++ e) ++ f) ++ g) ++ (((((h ++ i) ++ j) ++ k) ++ l) ++ m)) ++ (((((n ++ o) ++ p) ++ q) ++ r) ++ s)
joined a b c d e f g h i j k l m n o p q r s = simp append_assoc refl

pub rows_of : (file line : List ℕ) (number column cut end place digits carets few blank len : ℕ) (before after under : List ℕ)
    → take (length file) (chars file) ≡ chars file → before ≡ mark_if (nat_lt 0 cut) (codes "..") → few ≡ end - cut
    → len ≡ length (chars line) → after ≡ mark_if (nat_lt end len) (codes "..") → under ≡ mark_if (nat_lt 0 cut) (codes "  ") → blank ≡ place - cut
    → codes " --> " ++ (shown file 0 (length file) ++ (codes ":" ++ (decimal number ++ (codes ":" ++ (decimal column ++ (codes "\n" ++ (
    decimal number ++ (codes " | " ++ (before ++ (shown line cut few ++ (after ++ (codes "\n" ++ (
    repeated 32 digits ++ (codes " | " ++ (under ++ (blanks line cut blank ++ (repeated 94 carets ++ (codes "\n" ++ []))))))))))))))))))
    ≡ heading file number column ++ line_row number line cut end ++ caret_row digits line cut place carets
rows_of file line number column cut end place digits carets few blank len before after under all b f l a u k =
    rw a rw l rw b rw f rw u rw k rw all (
    joined (codes " --> ") (encode_utf8_all (map shown_char (chars file))) (codes ":") (decimal number) (codes ":") (decimal column) (10 ∷ [])
    (decimal number) (codes " | ") (mark_if (nat_lt 0 cut) (codes "..")) (shown line cut (end - cut)) (mark_if (nat_lt end (length (chars line))) (codes "..")) (10 ∷ [])
    (repeated 32 digits) (codes " | ") (mark_if (nat_lt 0 cut) (codes "  ")) (blanks line cut (place - cut)) (repeated 94 carets) (10 ∷ []))
