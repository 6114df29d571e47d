-- Tokens skipped in several steps are skipped at once.
use Rattle.std.proofs.Common.{◌≡◌, ℕ, suc, ◌+◌, ◌<◌, List, [], ◌∷◌, length, drop, get_or, map, refl, sym, ◌∙◌, ap, add-one, drop-cons, arith}
use Rattle.std.proofs.lemmas.List.{drop-drop}
use Rattle.grammar_syntax.specs.declared.tree.ExprTree.{ExprTree}
use Rattle.fault_places.specs.TokenCounts.{tree_count}

pub twice : {A : Type 0} (xs ys zs : List A) (m n : ℕ) → ys ≡ drop m xs → zs ≡ drop n ys → zs ≡ drop (m + n) xs
twice xs ys zs m n first second = second ∙ ap (drop n) first ∙ drop-drop n m xs

-- one token more
pub one_more : {A : Type 0} (xs ys : List A) (n : ℕ) → ys ≡ drop 1 (drop n xs) → ys ≡ drop (n + 1) xs
one_more xs ys n past = past ∙ drop-drop 1 n xs

-- one token skipped first or last
pub swapped : {A : Type 0} (n : ℕ) (xs : List A) → drop n (drop 1 xs) ≡ drop 1 (drop n xs)
swapped n xs = drop-drop n 1 xs ∙ ap (λ k. drop k xs) (let e : 1 + n ≡ n + 1 = omega arith in e) ∙ sym (drop-drop 1 n xs)

next : {A : Type 0} (xs : List A) (i : ℕ) (d : A) → i < length xs → drop i xs ≡ get_or xs i d ∷ drop (i + 1) xs
next xs i d below = drop-cons xs i d below ∙ ap (λ j. get_or xs i d ∷ drop j xs) (sym (add-one i))

-- A turn of a loop: what is left to be skipped from here on is what was left from there on. `f` is how many tokens an
-- item takes, and `sum` how many the items take together.
pub turned : {A X : Type 0} (sum : List ℕ → ℕ) (f : X → ℕ) (more : ℕ → ℕ) → ((n : ℕ) (ns : List ℕ) → sum (n ∷ ns) ≡ more n + sum ns)
    → (items : List X) (i : ℕ) (item : X) (left rest : List A) → item ≡ get_or items i item → i < length items
    → rest ≡ drop (more (f item)) left → drop (sum (map f (drop (i + 1) items))) rest ≡ drop (sum (map f (drop i items))) left
turned sum f more law items i item left rest is below dropped =
    ap (drop (sum (map f (drop (i + 1) items)))) dropped
    ∙ drop-drop (sum (map f (drop (i + 1) items))) (more (f item)) left
    ∙ ap (λ k. drop k left) (sym (law (f item) (map f (drop (i + 1) items))))
    ∙ ap (λ x. drop (sum (f x ∷ map f (drop (i + 1) items))) left) is
    ∙ ap (λ ys. drop (sum (map f ys)) left) (sym (next items i item below))

pub length-mapped : {X : Type 0} (f : X → ℕ) (xs : List X) → length (map f xs) ≡ length xs
length-mapped f [] = refl
length-mapped f (x ∷ xs) = ap (λ n. suc n) (length-mapped f xs)

-- the count of a form
pub counted : {A : Type 0} (x v : ExprTree) (m : ℕ) (ts us : List A) → us ≡ drop m ts → x ≡ v → tree_count v ≡ m → us ≡ drop (tree_count x) ts
counted x v m ts us dropped is same = dropped ∙ ap (λ k. drop k ts) (sym (ap tree_count is ∙ same))
