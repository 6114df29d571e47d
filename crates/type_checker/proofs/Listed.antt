-- Whether an action is above another, in the words of typing.
use Rattle.std.proofs.Common.{◌≡◌, Bool, List, Option, Some, None, refl, sym, subst, arith}
use Rattle.std.specs.Prelude.{Contains, ◌↔◌, IsTrue}
use Rattle.values.specs.declared.entity_uid.EntityUid.{EntityUid}
use Rattle.type_checker.specs.FromSchemas.{declared_ancestors}

same_list : (us vs : List EntityUid) → Some us ≡ Some vs → us ≡ vs
same_list us vs e = cc

above_listed : (o : Option (List EntityUid)) (a : EntityUid) → ((us : List EntityUid) × (o ≡ Some us) × Contains us a) ↔ Contains (declared_ancestors o) a
above_listed (Some ws) a = ((λ h. subst (λ (xs : List EntityUid). Contains xs a) (sym (same_list ws h.0 h.1)) h.2), (λ c. (ws, refl, c)))
above_listed None a = ((λ h. absurd cc), (λ c. absurd (omega (arith, c.1))))

pub listed : (o : Option (List EntityUid)) (a : EntityUid) (b : Bool) → (IsTrue b ↔ ((us : List EntityUid) × (o ≡ Some us) × Contains us a))
    → (IsTrue b ↔ Contains (declared_ancestors o) a)
listed o a b told = let same = above_listed o a in ((λ yes. same.0 (told.0 yes)), (λ c. told.1 (same.1 c)))
