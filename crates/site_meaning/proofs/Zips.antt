-- Related lists: there is at most one, and each item of one has a related item in the other.
use Rattle.std.specs.Prelude.{◌≡◌, List, [], ◌∷◌, Contains, refl}
use Rattle.std.specs.List.{AllZip}
use Rattle.std.proofs.Common.{subst, ⊎_elim}
use Rattle.plain.proofs.Members.{Contains-here, Contains-there, Contains-cases, Contains-none}

module _ {T X : Type 0} (R : T → X → Type 0) where
  pub one_list : ((t : T) (x y : X) → R t x → R t y → x ≡ y) → (ts : List T) (xs ys : List X)
      → AllZip R ts xs → AllZip R ts ys → xs ≡ ys
  one_list one [] [] [] h k = refl
  one_list one [] [] (y ∷ ys) h k = absurd k
  one_list one [] (x ∷ xs) ys h k = absurd h
  one_list one (t ∷ ts) [] ys h k = absurd h
  one_list one (t ∷ ts) (x ∷ xs) [] h k = absurd k
  one_list one (t ∷ ts) (x ∷ xs) (y ∷ ys) h k =
      let first : x ≡ y = one t x y h.0 k.0 in
      let rest : xs ≡ ys = one_list one ts xs ys h.1 k.1 in
      λ i. first i ∷ rest i

  pub of_second : (ts : List T) (xs : List X) → AllZip R ts xs → (x : X) → Contains xs x → (t : T) × Contains ts t × R t x
  of_second [] [] h x m = Contains-none x m
  of_second [] (y ∷ ys) h x m = absurd h
  of_second (t ∷ ts) [] h x m = absurd h
  of_second (t ∷ ts) (y ∷ ys) h x m = ⊎_elim
      (λ same. (t, Contains-here t ts, subst (R t) same h.0))
      (λ later. let rest = of_second ts ys h.1 x later in (rest.0, Contains-there t ts rest.0 rest.1, rest.2))
      (Contains-cases y ys x m)

  pub of_first : (ts : List T) (xs : List X) → AllZip R ts xs → (t : T) → Contains ts t → (x : X) × Contains xs x × R t x
  of_first [] xs h t m = Contains-none t m
  of_first (u ∷ ts) [] h t m = absurd h
  of_first (u ∷ ts) (y ∷ ys) h t m = ⊎_elim
      (λ same. (y, Contains-here y ys, subst (λ v. R v y) same h.0))
      (λ later. let rest = of_first ts ys h.1 t later in (rest.0, Contains-there y ys rest.0 rest.1, rest.2))
      (Contains-cases u ts t m)
