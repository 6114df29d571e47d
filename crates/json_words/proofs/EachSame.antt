-- Loops over lists that contracts see as they are, and loops with a view on both sides.
use Rattle.std.proofs.Common.{◌≡◌, ◌∙◌, ℕ, ◌+◌, ◌<◌, ◌≤◌, List, [], ◌∷◌, ◌++◌, map, length, take, drop, get_or, Result, Ok, refl, sym, ap}
use Rattle.std.proofs.lemmas.List.{map-append, drop_more}
use Rattle.json_words.specs.ReadsAs.{Fails}
use Rattle.json_words.specs.Each.{each}
use Rattle.json_words.proofs.EachLemmas.{each_next, each_fails, each_ends}

map_same : {A : Type 0} (xs : List A) → map (λ x. x) xs ≡ xs
map_same [] = refl
map_same {A = A} (x ∷ xs) = ap (λ (l : List A). x ∷ l) (map_same xs)

pub same_fails : {A B F : Type 0} (f : ℕ → A → Result B F) (vs : List A) (i : ℕ) (v : A) (ys : List B) (memory e : F)
    → i < length vs → v ≡ get_or vs i v → each f 0 (map (λ x. x) (take i vs)) ≡ Ok ys → Fails memory e (f i v) → Fails memory e (each f 0 vs)
same_fails {A = A} f vs i v ys memory e lt at read one other =
    ap (λ (l : List A). each f 0 l) (sym (map_same vs)) ∙ each_fails (λ x. x) f vs i v ys memory e lt at read one other

pub same_ends : {A B F : Type 0} (f : ℕ → A → Result B F) (vs : List A) (n : ℕ) (ys : List B)
    → length vs ≤ n → each f 0 (map (λ x. x) (take n vs)) ≡ Ok ys → each f 0 vs ≡ Ok ys
same_ends {A = A} f vs n ys le read = ap (λ (l : List A). each f 0 l) (sym (map_same vs)) ∙ each_ends (λ x. x) f vs n ys le read

-- one more of a list with a view on both sides
pub viewed_next : {X A Y B F : Type 0} (see : X → A) (out : Y → B) (f : ℕ → A → Result B F) (vs : List X) (i : ℕ) (v : X) (ys : List Y) (y : Y)
    → i < length vs → v ≡ get_or vs i v → each f 0 (map see (take i vs)) ≡ Ok (map out ys) → f i (see v) ≡ Ok (out y)
    → each f 0 (map see (take (i + 1) vs)) ≡ Ok (map out (ys ++ y ∷ []))
viewed_next {B = B} see out f vs i v ys y lt at read one =
    each_next see f vs i v (map out ys) (out y) lt at read one ∙ ap (λ (l : List B). Ok l) (sym (map-append out ys (y ∷ [])))

-- what is left at a place, its first apart
pub cut : {X : Type 0} (vs : List X) (i : ℕ) (v : X) → i < length vs → v ≡ get_or vs i v → drop i vs ≡ v ∷ drop (i + 1) vs
cut {X = X} vs i v lt at = drop_more vs i v lt ∙ ap (λ (w : X). w ∷ drop (i + 1) vs) (sym at)
