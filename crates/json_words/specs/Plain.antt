-- Defines plain JSON: its numbers are integers from -2^63 to 2^64 - 1, its strings are UTF-8, and in each object the
-- keys ascend. If it nests at most 127 deep, its compact text parses as the same value. (RFC 8259, section 8.1,
-- requires UTF-8; a float may be written with other digits than it was parsed from.)
use Rattle.std.specs.Prelude.{◌≡◌, ℕ, ◌<◌, ◌≤◌, ◌^◌, pos, negsuc, List, ⊤, Some}
use Rattle.std.specs.Ordering.{nat_cmp}
use Rattle.std.proofs.Common.{Less}
use Rattle.std.specs.Cmp.Lexicographic.{slice_cmp}
use Rattle.std.specs.Str.{IsUtf8}
use Rattle.serde_json.specs.Data.{Num, unsigned, negative, float, Data, null, boolean, number, string, array, object}
use Rattle.serde_json.specs.Data.{Items, no_items, item, Members, no_members, member, depth}
use Rattle.serde_json.specs.Read.{max_depth, read}
use Rattle.serde_json.specs.Written.{compact_text}

-- `IsWhole n` holds if `n` is an integer from -2^63 to 2^64 - 1, and only a negative number has the form `negative`.
abbrev pub IsWhole : Num → Type 0
IsWhole (unsigned n) = n < 2 ^ 64
IsWhole (negative (pos n)) = ⊥
IsWhole (negative (negsuc n)) = n < 2 ^ 63
IsWhole (float x) = ⊥

-- `AreAbove k ms` holds if each key of `ms` is greater than `k`.
abbrev pub AreAbove : List ℕ → Members → Type 0
AreAbove k no_members = ⊤
AreAbove k (member l e ms) = (slice_cmp nat_cmp k l ≡ Less) × AreAbove k ms

-- `IsPlain d` holds if `d` is plain JSON; `ArePlain ds` if each item of `ds` is; `HasPlain ms` if the keys of the
-- members `ms` are UTF-8 and ascend, and their values are plain JSON.
abbrev mutual
  pub IsPlain : Data → Type 0
  IsPlain null = ⊤
  IsPlain (boolean b) = ⊤
  IsPlain (number n) = IsWhole n
  IsPlain (string s) = IsUtf8 s
  IsPlain (array ds) = ArePlain ds
  IsPlain (object ms) = HasPlain ms

  pub ArePlain : Items → Type 0
  ArePlain no_items = ⊤
  ArePlain (item d ds) = IsPlain d × ArePlain ds

  pub HasPlain : Members → Type 0
  HasPlain no_members = ⊤
  HasPlain (member k d ms) = IsUtf8 k × IsPlain d × AreAbove k ms × HasPlain ms

-- `CompactReadsBack` states that the compact text of plain JSON, nested at most `max_depth` (127) deep, parses as that
-- JSON.
abbrev pub CompactReadsBack : Type 0
CompactReadsBack = (d : Data) → IsPlain d → depth d ≤ max_depth → read (compact_text d) ≡ Some d

-- `CompactIsOne` states that two values of plain JSON, nested at most `max_depth` deep, are equal if their compact
-- texts are.
abbrev pub CompactIsOne : Type 0
CompactIsOne = (d e : Data) → IsPlain d → IsPlain e → depth d ≤ max_depth → depth e ≤ max_depth
    → compact_text d ≡ compact_text e → d ≡ e
