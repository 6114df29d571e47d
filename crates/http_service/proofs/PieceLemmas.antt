-- Pieces of a line, one behind another.
use Rattle.std.proofs.Common.{◌≡◌, ℕ, List, [], ◌++◌, ap, ◌∙◌}
use Rattle.std.proofs.Common.{Bool, true, false, Some, None, refl}
use Rattle.std.specs.Str.{IsUtf8, is_utf8}
use Rattle.std.proofs.lemmas.Str.{IsUtf8-from_is_utf8}
use Rattle.http_service.specs.LogLines.{text_of}

-- ---- bytes that are text, or none

pub is_text : (bytes t : List ℕ) → is_utf8 bytes ≡ true → t ≡ bytes → Some t ≡ text_of bytes
is_text bytes t utf8 e = rw utf8 (ap Some e)

none_at : (bytes : List ℕ) (b : Bool) → is_utf8 bytes ≡ b → (IsUtf8 bytes → ⊥) → None ≡ text_of bytes
none_at bytes true e h = absurd (h (IsUtf8-from_is_utf8 bytes e))
none_at bytes false e h = rw e refl

pub is_no_text : (bytes : List ℕ) → (IsUtf8 bytes → ⊥) → None ≡ text_of bytes
is_no_text bytes h = none_at bytes (is_utf8 bytes) refl h

-- ---- three pieces one behind another

pub in_order : (first second third a b : List ℕ) → first ≡ [] → second ≡ first ++ a → third ≡ second ++ b
    → (c : List ℕ) → third ++ c ≡ (a ++ b) ++ c
in_order first second third a b e f g c =
    ap (λ (l : List ℕ). l ++ c) (g ∙ ap (λ (l : List ℕ). l ++ b) (f ∙ ap (λ (l : List ℕ). l ++ a) e))
