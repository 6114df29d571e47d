-- What bytes are as JSON, by whether they are UTF-8.
use Rattle.std.proofs.Common.{◌≡◌, ◌∙◌, ◌≤◌, ℕ, List, Bool, true, false, Some, None, Result, Ok, Err, IfOk, refl}
use Rattle.std.specs.Str.{IsUtf8, is_utf8}
use Rattle.std.proofs.lemmas.Str.{IsUtf8-from_is_utf8, is_utf8-from_IsUtf8}
use Rattle.serde_json.specs.Data.{Data, depth}
use Rattle.serde_json.specs.Read.{read, max_depth}
use Rattle.json_words.specs.Json.{json_of}

pub json_of-text : (bytes : List ℕ) → IsUtf8 bytes → json_of bytes ≡ read bytes
unfolding json_of
json_of-text bytes text = rw (is_utf8-from_IsUtf8 bytes text) refl

none_at : (bytes : List ℕ) (b : Bool) → is_utf8 bytes ≡ b → (IsUtf8 bytes → read bytes ≡ None) → json_of bytes ≡ None
unfolding json_of
none_at bytes true is none = rw is (none (IsUtf8-from_is_utf8 bytes is))
none_at bytes false is none = rw is refl

pub json_of-none : (bytes : List ℕ) → (IsUtf8 bytes → read bytes ≡ None) → json_of bytes ≡ None
json_of-none bytes none = none_at bytes (is_utf8 bytes) refl none

-- what is written and is UTF-8 reads back as JSON that bytes are
pub json_of-written : (bytes : List ℕ) (d : Data) → IsUtf8 bytes → (depth d ≤ max_depth → read bytes ≡ Some d) → depth d ≤ max_depth → json_of bytes ≡ Some d
json_of-written bytes d text back shallow = json_of-text bytes text ∙ back shallow

-- two facts of a value, if there is one, give a third
pub IfOk-both : {X E : Type 0} (r : Result X E) (P Q R : X → Type 0) → ((x : X) → P x → Q x → R x) → IfOk r P → IfOk r Q → IfOk r R
IfOk-both (Ok x) P Q R f p q = f x p q
IfOk-both (Err e) P Q R f p q = tt
