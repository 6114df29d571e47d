-- Texts of ASCII alone, as keys are, are UTF-8.
use Rattle.std.proofs.Common.{◌≡◌, ℕ, List, Bool, true}
use Rattle.std.specs.Str.{IsUtf8}
use Rattle.json.proofs.Printed.Utf8 as printed

abbrev pub are_ascii : List ℕ → Bool
are_ascii s = printed.are_ascii s

-- (of a text in the source, the premise is `refl`)
pub ascii_is_utf8 : (s : List ℕ) → are_ascii s ≡ true → IsUtf8 s
ascii_is_utf8 s h = printed.IsUtf8-are_ascii s h
