-- Defines which strings are IP addresses without a prefix, and the number that each denotes.
-- Source: Cedar reference guide 4.0, "Supported data types" (ipaddr) and the function `ip`; RFC 4291, section 2.2,
-- forms 1 and 2, for IPv6.
-- Rules of this product: form 3, an IPv4 address in an IPv6 text, is rejected.
use Rattle.std.specs.Prelude.{◌≡◌, ℕ, ◌+◌, ◌-◌, ◌*◌, ◌^◌, ◌<◌, ◌≤◌, ◌⊎◌, List, [], ◌∷◌, ◌++◌, length, replicate, codes}
use Rattle.std.specs.Fmt.{decimal}
use Rattle.std.specs.Str.Parse.{IsNumeral, digits_value}

-- `IsIpv4Text text n` holds if `text` is four numbers from 0 to 255, in decimal digits without leading zeros, with a
-- dot between each two. `n` is the number whose four bytes these are, the most significant first.
pub record IsIpv4Text (text : List ℕ) (n : ℕ) : Type 0 where
  pub a : ℕ
  pub b : ℕ
  pub c : ℕ
  pub d : ℕ
  pub fit : (a < 256) × (b < 256) × (c < 256) × (d < 256)
  pub spelled : text ≡ decimal a ++ codes "." ++ decimal b ++ codes "." ++ decimal c ++ codes "." ++ decimal d
  pub value : n ≡ ((a * 256 + b) * 256 + c) * 256 + d

-- `IsGroup text n` holds if `text` is one to four hexadecimal digits, of either case, of the number `n`.
pub record IsGroup (text : List ℕ) (n : ℕ) : Type 0 where
  pub hexadecimal : IsNumeral 16 text
  pub short : length text ≤ 4
  pub value : digits_value 16 text ≡ n

-- `AreGroups text ns` holds if `text` is groups that denote `ns`, with a colon between each two; `text` is empty if
-- `ns` is.
abbrev pub AreGroups : List ℕ → List ℕ → Type 0
AreGroups text [] = text ≡ []
AreGroups text (n ∷ []) = IsGroup text n
AreGroups text (n ∷ next ∷ more) =
    (group rest : List ℕ) × (text ≡ group ++ codes ":" ++ rest) × IsGroup group n × AreGroups rest (next ∷ more)

-- `IsFull text groups` holds if `text` is eight groups that denote the numbers `groups`, without a `::`.
pub record IsFull (text groups : List ℕ) : Type 0 where
  pub written : AreGroups text groups
  pub eight : length groups ≡ 8

-- `IsElided text groups` holds if `text` is groups, `::` and groups, and denotes the eight numbers `groups`, where `::`
-- represents one or more zeros. The groups before `::` may be missing, and so may those after it.
pub record IsElided (text groups : List ℕ) : Type 0 where
  pub head_text : List ℕ
  pub tail_text : List ℕ
  pub head : List ℕ
  pub tail : List ℕ
  pub spelled : text ≡ head_text ++ codes "::" ++ tail_text
  pub head_written : AreGroups head_text head
  pub tail_written : AreGroups tail_text tail
  pub room : length head + length tail < 8
  pub value : groups ≡ head ++ replicate (8 - length head - length tail) 0 ++ tail

-- `groups_after n groups` is the number whose bits are those of `n`, followed by sixteen for each of `groups`.
abbrev pub groups_after : ℕ → List ℕ → ℕ
groups_after n [] = n
groups_after n (group ∷ more) = groups_after (n * 2 ^ 16 + group) more

-- `IsIpv6Text text n` holds if `text` is eight groups, written in full or with a `::`, of the number `n`, the most
-- significant first.
abbrev pub IsIpv6Text : List ℕ → ℕ → Type 0
IsIpv6Text text n = (groups : List ℕ) × (IsFull text groups ⊎ IsElided text groups) × (n ≡ groups_after 0 groups)
