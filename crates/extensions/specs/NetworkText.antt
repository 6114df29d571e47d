-- Defines which strings are IP addresses with an optional prefix, the network that each denotes, and the canonical
-- strings.
-- Source: Cedar reference guide 4.0, the function `ip`; RFC 4632, section 3.1, and RFC 4291, section 2.3, for the
-- prefix.
-- Rules of this product: a canonical string always has the prefix, and an IPv6 one has all eight groups.
use Rattle.std.specs.Prelude.{◌≡◌, ℕ, ◌≤◌, ◌/◌, ◌%◌, ◌^◌, false, ◌⊎◌, List, [], ◌++◌, codes}
use Rattle.std.specs.Fmt.{decimal, digits}
use Rattle.extensions.specs.declared.ip_net.Version.{Version}
use Rattle.extensions.specs.declared.ip_net.Version.TheVariants.{V4, V6}
use Rattle.extensions.specs.AddressText.{IsIpv4Text, IsIpv6Text}
use Rattle.extensions.specs.Network.{Network, width}

-- `IsAddressText version text n` holds if `text` is the address `n` of this version, without a prefix.
abbrev pub IsAddressText : Version → List ℕ → ℕ → Type 0
IsAddressText V4 text n = IsIpv4Text text n
IsAddressText V6 text n = IsIpv6Text text n

-- `IsPrefixText bits text prefix` holds if `text` is empty and `prefix` is `bits`, or if `text` is `/` and the decimal
-- number `prefix` without leading zeros, and `prefix` is at most `bits`.
abbrev pub IsPrefixText : ℕ → List ℕ → ℕ → Type 0
IsPrefixText bits text prefix = ((text ≡ []) × (prefix ≡ bits))
    ⊎ ((text ≡ codes "/" ++ decimal prefix) × (prefix ≤ bits))

-- `IsNetworkText text n` holds if `text` is the address of the network `n`, followed by the text of its prefix, which
-- may be empty.
pub record IsNetworkText (text : List ℕ) (n : Network) : Type 0 where
  pub address_text : List ℕ
  pub prefix_text : List ℕ
  pub spelled : text ≡ address_text ++ prefix_text
  pub address : IsAddressText n.version address_text n.address
  pub prefix : IsPrefixText (width n.version) prefix_text n.prefix

-- `ipv4_text n` is the address `n` as four decimal numbers with `.` between them, the most significant first.
abbrev pub ipv4_text : ℕ → List ℕ
ipv4_text n =
    decimal (n / 2 ^ 24 % 256) ++ codes "." ++ decimal (n / 2 ^ 16 % 256) ++ codes "." ++ decimal (n / 2 ^ 8 % 256)
    ++ codes "."
    ++ decimal (n % 256)

-- `groups_text n` is the 64-bit number `n` as four groups of lower case hexadecimal digits with `:` between them, the
-- most significant first.
abbrev pub groups_text : ℕ → List ℕ
groups_text n =
    digits 16 false (n / 2 ^ 48) ++ codes ":" ++ digits 16 false (n / 2 ^ 32 % 65536) ++ codes ":"
    ++ digits 16 false (n / 2 ^ 16 % 65536) ++ codes ":" ++ digits 16 false (n % 65536)

-- `ipv6_text n` is the address `n` as eight groups, as in `groups_text`, with `:` between them.
abbrev pub ipv6_text : ℕ → List ℕ
ipv6_text n = groups_text (n / 2 ^ 64) ++ codes ":" ++ groups_text (n % 2 ^ 64)

-- `address_text version n` is the canonical string of the address `n` of this version, without a prefix.
abbrev pub address_text : Version → ℕ → List ℕ
address_text V4 n = ipv4_text n
address_text V6 n = ipv6_text n

-- `network_text n` is the canonical string of the network `n`, always with its prefix.
abbrev pub network_text : Network → List ℕ
network_text n = address_text n.version n.address ++ codes "/" ++ decimal n.prefix
