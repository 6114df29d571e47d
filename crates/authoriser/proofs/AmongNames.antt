-- An entity among those that are named, one after another.
use Rattle.std.specs.Prelude.{◌≡◌, ℕ, ◌+◌, ◌<◌, ◌≤◌, List, [], ◌∷◌, ◌++◌, length, slice_index_or, Contains, refl}
use Rattle.std.specs.Borrow.{Bor}
use Rattle.std.proofs.Common.{inl, inr, sym, ap, subst, ◌∙◌, take}
use Rattle.std.proofs.lemmas.List.{take_more, take_all}
use Rattle.std.proofs.lemmas.List.Elements.{Contains-push_cases}
use Rattle.values.specs.declared.entity_uid.EntityUid.{EntityUid}
use Rattle.evaluator.specs.ancestor_search.Hierarchy.{referenced}

names_push : (ps : List (Bor EntityUid)) (p : Bor EntityUid) → referenced (ps ++ p ∷ []) ≡ referenced ps ++ p.now ∷ []
names_push [] p = refl
names_push (n ∷ ps) p = ap (λ r. n.now ∷ r) (names_push ps p)

-- one more of these is not the one that is looked for
pub not_yet : (xs : List (Bor EntityUid)) (i : ℕ) (x : Bor EntityUid) (of : EntityUid) → i < length xs → x ≡ slice_index_or xs i x → (x.now ≡ of → ⊥) → (Contains (referenced (take i xs)) of → ⊥) → Contains (referenced (take (i + 1) xs)) of → ⊥
not_yet xs i x of within is is_not before h =
    let shown : referenced (take (i + 1) xs) ≡ referenced (take i xs) ++ x.now ∷ [] =
    ap referenced (take_more xs i x within ∙ ap (λ y. take i xs ++ y ∷ []) (sym is)) ∙ names_push (take i xs) x in
    elim (Contains-push_cases (referenced (take i xs)) x.now of (subst (λ ys. Contains ys of) shown h)) [
      | inl earlier ↦ before earlier
      | inr here ↦ is_not here
    ]

-- none of them all is
pub none_is : (xs : List (Bor EntityUid)) (i : ℕ) (of : EntityUid) → length xs ≤ i → (Contains (referenced (take i xs)) of → ⊥) → Contains (referenced xs) of → ⊥
none_is xs i of le none h = none (subst (λ ys. Contains (referenced ys) of) (sym (take_all i xs le)) h)
