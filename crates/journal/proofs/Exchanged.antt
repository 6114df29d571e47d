-- A list up to one of its items, and the rest.
use Rattle.std.proofs.Common.{◌≡◌, ◌<◌, ◌+◌, ℕ, get_or, take, drop, take-append-drop, List, [], ◌∷◌, ◌++◌, length, map, sym, ◌∙◌, ap}
use Rattle.std.proofs.lemmas.List.{map-append, take_more, take_more_set, drop_more}
use Rattle.std.proofs.Math.ListN.{set}

module _ {V : Type 0} (f : V → List ℕ) (vs : List V) (i : ℕ) (v : V) (within : i < length vs) (is : v ≡ get_or vs i v) where
  pub one_more : map f (take (i + 1) vs) ≡ map f (take i vs) ++ f v ∷ []
  one_more = ap (map f) (take_more vs i v within ∙ ap (λ (w : V). take i vs ++ w ∷ []) (sym is)) ∙ map-append f (take i vs) (v ∷ [])

  pub one_and_rest : map f vs ≡ map f (take i vs) ++ f v ∷ map f (drop (i + 1) vs)
  one_and_rest =
      ap (map f) (sym (take-append-drop i vs) ∙ ap (λ (ws : List V). take i vs ++ ws) (drop_more vs i v within ∙ ap (λ (w : V). w ∷ drop (i + 1) vs) (sym is)))
      ∙ map-append f (take i vs) (v ∷ drop (i + 1) vs)

-- one more item of a list, as a loop changes it, beside one more of another
pub one_changed : {A B : Type 0} (f : A → List ℕ) (h : B → List ℕ) (done : List A) (d : A) (vs : List B) (i : ℕ) (w : B) → i < length vs
    → map f done ≡ map h (take i vs) → f d ≡ h w → map f (done ++ d ∷ []) ≡ map h (take (i + 1) (set vs i w))
one_changed f h done d vs i w within all one =
    map-append f done (d ∷ []) ∙ ap (λ (rs : List (List ℕ)). rs ++ f d ∷ []) all ∙ ap (λ (r : List ℕ). map h (take i vs) ++ r ∷ []) one
    ∙ sym (ap (map h) (take_more_set vs i w within) ∙ map-append h (take i vs) (w ∷ []))
