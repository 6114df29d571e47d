-- Defines decision procedures for decimals and networks: whether a string denotes such a value, and which; and whether
-- the range of a network is within another. A network is an IP address, alone or with a prefix. The type of each
-- procedure states what it decides, so its body need not be trusted.
use Rattle.std.specs.Prelude.{◌⊎◌, ℕ, ℤ, List, Option}
use Rattle.extensions.specs.Decided.{Decided, witness}
use Rattle.extensions.specs.DecimalText.{IsDecimalText}
use Rattle.extensions.specs.Network.{Network, IsWithin}
use Rattle.extensions.specs.NetworkText.{IsNetworkText}
use Rattle.extensions.specs.inner.DecidingTexts as deciding

-- `decimal_text_decided text` decides whether `text` is a decimal, and gives its ten-thousandths.
pub decimal_text_decided : (text : List ℕ) → Decided ((z : ℤ) × IsDecimalText text z)
decimal_text_decided text = deciding.decimal_text_decided text

-- `network_text_decided text` decides whether `text` denotes a network, and gives it.
pub network_text_decided : (text : List ℕ) → Decided ((n : Network) × IsNetworkText text n)
network_text_decided text = deciding.network_text_decided text

-- `within_decided a b` decides whether the range of `a` is within that of `b`.
pub within_decided : (a b : Network) → Decided (IsWithin a b)
within_decided a b = deciding.within_decided a b

-- `in_either_decided n a b` decides whether the range of `n` is within that of `a` or of `b`.
pub in_either_decided : (n a b : Network) → Decided (IsWithin n a ⊎ IsWithin n b)
in_either_decided n a b = deciding.in_either_decided n a b

-- `decimal_of text` is the number of ten-thousandths that `text` denotes, if it is a decimal.
abbrev pub decimal_of : List ℕ → Option ℤ
decimal_of text = witness (decimal_text_decided text)

-- `network_of text` is the network that `text` denotes, if it denotes one.
abbrev pub network_of : List ℕ → Option Network
network_of text = witness (network_text_decided text)
