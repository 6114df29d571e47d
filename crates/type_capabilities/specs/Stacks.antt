-- Defines how a capability is found in a stack: by a map that records an index for each capability.
-- Rules of this product: this representation.
use Rattle.std.specs.Prelude.{◌≡◌, ◌≤◌, ℕ, List, Option, Some}
use Rattle.std.specs.List.{slice_get}
use Rattle.std.specs.BTreeMap.{BTreeMap, get_by}
use Rattle.type_capabilities.specs.CapabilityList.{CapabilityValue, capability_of, capability_cmp}
use Rattle.type_capabilities.specs.declared.capability.Capability.{Capability}

-- `place_of m p` is the index that the map `m` records for the capability `p`, or `None` if it records none.
abbrev pub place_of : BTreeMap Capability ℕ → CapabilityValue → Option ℕ
place_of m p = get_by (λ k. capability_cmp p (capability_of k)) m

-- `IsFound ps at i p` holds if `at` records an index for the capability `p`, the recorded index is at most `i`, and `p`
-- is at the recorded index of the stack `ps`.
pub record IsFound (ps : List CapabilityValue) (at : CapabilityValue → Option ℕ) (i : ℕ) (p : CapabilityValue)
    : Type 0 where
  pub place : ℕ
  pub noted : at p ≡ Some place
  pub low : place ≤ i
  pub there : slice_get ps place ≡ Some p

-- `AreFound ps at` holds if `at` records, for each capability of the stack `ps`, its lowest index in `ps`.
abbrev pub AreFound : List CapabilityValue → (CapabilityValue → Option ℕ) → Type 0
AreFound ps at = (i : ℕ) (p : CapabilityValue) → slice_get ps i ≡ Some p → IsFound ps at i p
