-- Lists of pairs, item by item.
use Rattle.std.proofs.Common.{◌≡◌, ◌+◌, ◌<◌, ℕ, List, [], ◌∷◌, ◌++◌, length, get_or, take, Contains, refl, sym, ap, ◌∙◌}
use Rattle.std.proofs.lemmas.List.{take_more, map-append}
use Rattle.typing.specs.Gained as gained
use Rattle.typing.specs.Gained.{CapabilityList, InBoth}
use Rattle.type_capabilities.specs.declared.capability.Capability.{Capability}
use Rattle.type_capabilities.specs.CapabilityList.{capability_of, capabilities}

-- the pairs that both lists have, where one more of the first is looked at

pub one_more_kept : {L M N : CapabilityList} (p : gained.Capability) → Contains M p → InBoth L M N → InBoth (L ++ p ∷ []) M (N ++ p ∷ [])
one_more_kept p c gained.both_none = gained.both_kept c gained.both_none
one_more_kept p c (gained.both_kept d h) = gained.both_kept d (one_more_kept p c h)
one_more_kept p c (gained.both_dropped n h) = gained.both_dropped n (one_more_kept p c h)

pub one_more_dropped : {L M N : CapabilityList} (p : gained.Capability) → ¬ Contains M p → InBoth L M N → InBoth (L ++ p ∷ []) M N
one_more_dropped p c gained.both_none = gained.both_dropped c gained.both_none
one_more_dropped p c (gained.both_kept d h) = gained.both_kept d (one_more_dropped p c h)
one_more_dropped p c (gained.both_dropped n h) = gained.both_dropped n (one_more_dropped p c h)

-- the pairs up to and with the one at this place
pub up_to_here : (ps : List Capability) (i : ℕ) (x : Capability) → i < length ps → x ≡ get_or ps i x
    → capabilities (take i ps) ++ capability_of x ∷ [] ≡ capabilities (take (i + 1) ps)
up_to_here ps i x lt e =
    ap (λ y. capabilities (take i ps) ++ capability_of y ∷ []) e
    ∙ sym (ap capabilities (take_more ps i x lt) ∙ map-append capability_of (take i ps) (get_or ps i x ∷ []))

-- a stack is as it was, where what stood above is taken away
pub back_again : (K L M : CapabilityList) → M ≡ K ++ L → take (length K) M ≡ K
back_again K L M e = ap (λ N. take (length K) N) e ∙ lowest K L
  where
    lowest : (K L : CapabilityList) → take (length K) (K ++ L) ≡ K
    lowest [] L = refl
    lowest (p ∷ K) L = ap (λ N. p ∷ N) (lowest K L)
