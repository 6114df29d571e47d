-- Defines the order of networks (IP addresses with a prefix): by version, IPv4 first, then by address, then by prefix.
-- Rules of this product: the address is compared with all its bits, not only those of the prefix.
use Rattle.std.specs.Prelude.{◌≡◌, ℕ, ◌==◌, if◌then◌else◌, refl}
use Rattle.std.specs.declared.cmp.Ordering.{Ordering}
use Rattle.std.specs.declared.cmp.Ordering.TheVariants.{Less, Equal, Greater}
use Rattle.std.specs.Ordering.{ordering_then, nat_cmp, on, then_cmp}
use Rattle.std.specs.Cmp.{IsTotalOrder}
use Rattle.std.specs.FinMap.{IsAntisymmetric, nat_cmp-IsAntisymmetric}
use Rattle.std.specs.Coded.{Coded, code_by, coded×, coded_ℕ}
use Rattle.std.proofs.Common.{sym, ◌∙◌, ap, subst}
use Rattle.std.proofs.lemmas.Cmp.{on_total, then_total, nat_cmp_total}
use Rattle.extensions.specs.declared.ip_net.Version.{Version}
use Rattle.extensions.specs.declared.ip_net.Version.TheVariants.{V4, V6}
use Rattle.extensions.specs.Network.{Network}

-- `version_number v` is the number of the version `v`, 4 or 6.
abbrev pub version_number : Version → ℕ
version_number V4 = 4
version_number V6 = 6

-- `network_cmp a b` compares `a` and `b` by version, then address, then prefix.
abbrev pub network_cmp : Network → Network → Ordering
network_cmp = then_cmp (on (λ n. version_number n.version) nat_cmp)
    (then_cmp (on (λ n. n.address) nat_cmp) (on (λ n. n.prefix) nat_cmp))

-- `network_cmp_total`: the order is total.
pub network_cmp_total : IsTotalOrder network_cmp
network_cmp_total =
    then_total (on_total (λ n. version_number n.version) nat_cmp_total)
    (then_total (on_total (λ n. n.address) nat_cmp_total) (on_total (λ n. n.prefix) nat_cmp_total))

-- `version_numbered k` is the version of the number `k`: IPv4 if `k` is 4, else IPv6.
abbrev pub version_numbered : ℕ → Version
version_numbered k = if k == 4 then V4 else V6

-- `version_back` and `same_version`: the number of a version determines the version.
version_back : (v : Version) → version_numbered (version_number v) ≡ v
version_back V4 = refl
version_back V6 = refl

same_version : (v w : Version) → version_number v ≡ version_number w → v ≡ w
same_version v w e = sym (version_back v) ∙ ap version_numbered e ∙ version_back w

-- `IsTie o` holds if `o` is `Equal`. `both_equal`: if `ordering_then o p` is `Equal`, then so are `o` and `p`.
-- (`ordering_then o p` is `p` if `o` is `Equal`, and else `o`.)
IsTie : Ordering → Type 0
IsTie Less = ⊥
IsTie Equal = Unit {0}
IsTie Greater = ⊥

both_equal : (o p : Ordering) → ordering_then o p ≡ Equal → (o ≡ Equal) × (p ≡ Equal)
unfolding IsTie
both_equal Less p e = absurd (subst IsTie (sym e) tt)
both_equal Equal p e = (refl, e)
both_equal Greater p e = absurd (subst IsTie (sym e) tt)

-- `network_cmp-IsAntisymmetric`: only equal networks compare as equal.
pub network_cmp-IsAntisymmetric : IsAntisymmetric network_cmp
network_cmp-IsAntisymmetric m n e =
    let first = both_equal (nat_cmp (version_number m.version) (version_number n.version)) _ e in
    let second = both_equal (nat_cmp m.address n.address) (nat_cmp m.prefix n.prefix) first.1 in
    let version = same_version m.version n.version (nat_cmp-IsAntisymmetric _ _ first.0) in
    let address = nat_cmp-IsAntisymmetric m.address n.address second.0 in
    let prefix = nat_cmp-IsAntisymmetric m.prefix n.prefix second.1 in
    λ i. record { version = version i; address = address i; prefix = prefix i }

-- `network_numbers n` is the network `n` as three numbers, which determine it. Higher crates use them to encode data
-- that contains networks.
abbrev pub network_numbers : Network → ℕ × (ℕ × ℕ)
network_numbers n = (version_number n.version, (n.address, n.prefix))

-- `network_from_numbers k` is the network that the three numbers `k` represent.
abbrev pub network_from_numbers : ℕ × (ℕ × ℕ) → Network
network_from_numbers k = record { version = version_numbered k.0; address = k.1.0; prefix = k.1.1 }

-- `network_from_numbers-network_numbers`: the three numbers of a network represent that network.
pub network_from_numbers-network_numbers : (n : Network) → network_from_numbers (network_numbers n) ≡ n
network_from_numbers-network_numbers n =
    λ i. record { version = version_back n.version i; address = n.address; prefix = n.prefix }

-- `network_code` encodes networks by their `network_numbers`.
abbrev pub network_code : Coded Network
network_code = code_by (ℕ × (ℕ × ℕ)) (coded× coded_ℕ (coded× coded_ℕ coded_ℕ)) network_numbers network_from_numbers
    network_from_numbers-network_numbers
