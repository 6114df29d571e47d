-- Defines the JSON pointer of a path.
-- Source: RFC 6901, sections 3 and 4: each step is `/` and a reference token; in a key `~` is `~0` and `/` is `~1`;
-- an index is decimal, without leading zeros.
use Rattle.std.specs.Prelude.{ℕ, ◌==◌, List, [], ◌∷◌, codes, decimal, chars, encode_utf8_all, if◌then◌else◌}
use Rattle.std.specs.List.{flat_map}
use Rattle.explanations.specs.Steps.{Step, Key, Index}

-- `escaped_char c` are the characters that represent the character `c` of a key (126 is `~`, 47 is `/`).
abbrev pub escaped_char : ℕ → List ℕ
escaped_char c = if c == 126 then codes "~0" else (if c == 47 then codes "~1" else c ∷ [])

-- `escaped key` are the bytes that represent the key `key`.
abbrev pub escaped : List ℕ → List ℕ
escaped key = encode_utf8_all (flat_map escaped_char (chars key))

-- `token_of step` is the reference token of the step `step`.
abbrev pub token_of : Step → List ℕ
token_of (Key key) = escaped key
token_of (Index i) = decimal i

-- `pointer_of path` is the pointer of the path `path`: `/` (47) and a token for each step. That of the whole value is
-- empty.
abbrev pub pointer_of : List Step → List ℕ
pointer_of path = flat_map (λ step. 47 ∷ token_of step) path
