-- What a list of all that is on cycles tells.
use Rattle.std.proofs.Common.{◌≡◌, ◌∙◌, List, [], ◌∷◌, Option, Some, None, sym, ap}
use Rattle.std.specs.Prelude.{option_copied, slice_get}
use Rattle.std.specs.Borrow.{Bor}
use Rattle.values.specs.declared.entity_uid.EntityUid.{EntityUid}
use Rattle.ancestor_search.specs.Hierarchy.{Parents, AreOnCycles, referenced}
use Rattle.ancestor_search.specs.Deciding.{Contains-here, Contains-none}
use Rattle.schema.specs.Cycles.{HasCycle}

first_found : (parents : Parents) (xs : List (Bor EntityUid)) → AreOnCycles parents (referenced xs) → (x : Bor EntityUid) → Some x ≡ slice_get xs 0 → HasCycle parents
first_found parents [] all x e = absurd cc
first_found parents (y ∷ ys) all x e = (y.now, (all y.now).0 (Contains-here y.now (referenced ys)))

pub cycle_found : (parents : Parents) (xs ys : List (Bor EntityUid)) → AreOnCycles parents (referenced xs) → ys ≡ xs → (r : Option (Bor (Bor EntityUid))) (x : Bor (Bor EntityUid))
    → option_copied r ≡ slice_get ys 0 → r ≡ Some x → HasCycle parents
cycle_found parents xs ys all same r x value is = first_found parents xs all x.now (sym (ap option_copied is) ∙ value ∙ ap (λ (zs : List (Bor EntityUid)). slice_get zs 0) same)

none_found : (parents : Parents) (xs : List (Bor EntityUid)) → AreOnCycles parents (referenced xs) → None ≡ slice_get xs 0 → HasCycle parents → ⊥
none_found parents [] all e h = Contains-none h.0 ((all h.0).1 h.1)
none_found parents (y ∷ ys) all e h = cc

pub cycle_none : (parents : Parents) (xs ys : List (Bor EntityUid)) → AreOnCycles parents (referenced xs) → ys ≡ xs → (r : Option (Bor (Bor EntityUid)))
    → option_copied r ≡ slice_get ys 0 → r ≡ None → HasCycle parents → ⊥
cycle_none parents xs ys all same r value is = none_found parents xs all (sym (ap option_copied is) ∙ value ∙ ap (λ (zs : List (Bor EntityUid)). slice_get zs 0) same)
