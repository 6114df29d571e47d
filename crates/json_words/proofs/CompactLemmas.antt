-- What a writer owes for the exact text of its value: that there is no float in it.
use Rattle.std.proofs.Common.{◌≡◌, ◌∙◌, ℕ, false, List, [], ◌∷◌, map, refl, ap}
use Rattle.serde_json.specs.Data.{Data}
use Rattle.serde_json.specs.View.{items_of}
use Rattle.serde_json.specs.Written.{has_float, items_have_float, compact_text}

pub no_float_items : {X : Type 0} (f : X → Data) → ((x : X) → has_float (f x) ≡ false) → (xs : List X) → items_have_float (items_of (map f xs)) ≡ false
no_float_items f plain [] = refl
no_float_items f plain (x ∷ xs) = rw (plain x, no_float_items f plain xs) refl

-- The text of a value that is d is the text of d.
pub text_of : (bytes : List ℕ) (value d : Data) → value ≡ d → has_float d ≡ false → (has_float value ≡ false → bytes ≡ compact_text value) → bytes ≡ compact_text d
text_of bytes value d is plain text = text (ap has_float is ∙ plain) ∙ ap compact_text is
