-- Defines texts of printable ASCII.
-- Source: RFC 20. Rules of this product: the texts that explain an error code are printable.
use Rattle.std.specs.Prelude.{ℕ, Bool, ◌&&◌, nat_le, List}
use Rattle.std.specs.List.{list_all}
use Rattle.explanations.specs.CodeText.{Texts}

-- `is_printable c` tests for a space or a visible character of ASCII.
abbrev pub is_printable : ℕ → Bool
is_printable c = nat_le 32 c && nat_le c 126

-- `are_printable text` tests whether each byte of `text` is printable.
abbrev pub are_printable : List ℕ → Bool
are_printable text = list_all is_printable text

-- `is_clean texts` tests whether each of `texts`, which explain an error code, is printable.
abbrev pub is_clean : Texts → Bool
is_clean texts = are_printable texts.name && (are_printable texts.meaning && (are_printable texts.example
    && (are_printable texts.says && are_printable texts.advice)))
