-- Defines networks (IP addresses with a prefix), and the range of addresses that each covers.
-- Source: RFC 4632, section 3.1, and RFC 4291, section 2.3, for the prefix; Cedar reference guide 4.0, the functions
-- `isInRange`, `isLoopback` and `isMulticast`; RFC 1122, section 3.2.1.3, RFC 5771 and RFC 4291, sections 2.5.3 and
-- 2.7, for the four ranges.
-- Rules of this product: a network is loopback or multicast only if all of it lies in such a range.
use Rattle.std.specs.Prelude.{◌≡◌, ℕ, ◌+◌, ◌-◌, ◌*◌, ◌/◌, ◌^◌, ◌<◌, ◌≤◌}
use Rattle.extensions.specs.declared.ip_net.Version.{Version}
use Rattle.extensions.specs.declared.ip_net.Version.TheVariants.{V4, V6}

-- A `Network` is an IP version, an address, unmasked and as a number, and the length of its prefix in bits.
pub record Network : Type 0 where
  pub version : Version
  pub address : ℕ
  pub prefix : ℕ

-- `width version` is the number of bits of an address of this version.
abbrev pub width : Version → ℕ
width V4 = 32
width V6 = 128

-- `IsNetwork n` holds if the address and the prefix of `n` are within the bounds of its version.
pub record IsNetwork (n : Network) : Type 0 where
  pub address_fits : n.address < 2 ^ width n.version
  pub prefix_fits : n.prefix ≤ width n.version

-- `size n` is the number of addresses in the range of `n`: those that agree with its address in the bits of its prefix.
abbrev pub size : Network → ℕ
size n = 2 ^ (width n.version - n.prefix)

-- `least n` is the least address in the range of `n`.
abbrev pub least : Network → ℕ
least n = n.address / size n * size n

-- `greatest n` is the greatest address in the range of `n`.
abbrev pub greatest : Network → ℕ
greatest n = least n + size n - 1

-- `IsWithin a b` holds if `a` and `b` have the same version and the range of `a` is within that of `b`.
pub record IsWithin (a b : Network) : Type 0 where
  pub same_version : a.version ≡ b.version
  pub from : least b ≤ least a
  pub to : greatest a ≤ greatest b

-- `loopback_v4` is 127.0.0.0/8.
abbrev pub loopback_v4 : Network
loopback_v4 = record { version = V4; address = 127 * 2 ^ 24; prefix = 8 }

-- `loopback_v6` is ::1/128.
abbrev pub loopback_v6 : Network
loopback_v6 = record { version = V6; address = 1; prefix = 128 }

-- `multicast_v4` is 224.0.0.0/4.
abbrev pub multicast_v4 : Network
multicast_v4 = record { version = V4; address = 224 * 2 ^ 24; prefix = 4 }

-- `multicast_v6` is ff00::/8.
abbrev pub multicast_v6 : Network
multicast_v6 = record { version = V6; address = 255 * 2 ^ 120; prefix = 8 }
