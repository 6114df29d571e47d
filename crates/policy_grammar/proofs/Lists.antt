-- Lists that a loop goes over or makes, one item more at each turn.
use Rattle.std.proofs.Common.{◌≡◌, ℕ, zero, suc, ◌+◌, ◌<◌, List, [], ◌∷◌, ◌++◌, length, take, drop, get_or, refl, sym}
use Rattle.std.proofs.Common.{◌∙◌, ap, subst, arith, add-one, Bool, true, false, if◌then◌else◌, find, Some, length-take}
use Rattle.std.proofs.Math.Seq.{drop-cons}
use Rattle.grammar_desugaring.specs.grammar_syntax.declared.token.TokenKind.{TokenKind}
use Rattle.grammar_desugaring.specs.grammar_syntax.declared.token.TokenKind.TheVariants as k
use Rattle.grammar_desugaring.specs.grammar_syntax.Kinds.{only, same_kind}
use Rattle.grammar_parsing.specs.declared.tree.PolicyTree.{PolicyTree}
use Rattle.policy_grammar.specs.CoreOf.{IsNameOf, AreNamesOf}
use Rattle.std.specs.List.{AllZip, AllByRecursion, enumerate_from, zip}
use Rattle.std.proofs.lemmas.List.{take_more}

pub all_zip-more : {A B : Type 0} (R : A → B → Type 0) (xs : List A) (ys : List B) (x : A) (y : B) → AllZip R xs ys → R x y → AllZip R (xs ++ x ∷ []) (ys ++ y ∷ [])
all_zip-more R [] [] x y all r = (r, tt)
all_zip-more R [] (b ∷ ys) x y all r = absurd all
all_zip-more R (a ∷ xs) [] x y all r = absurd all
all_zip-more R (a ∷ xs) (b ∷ ys) x y all r = (all.0, all_zip-more R xs ys x y all.1 r)

-- the step of a loop that goes over xs and makes ys
pub all_zip-step : {A B : Type 0} (R : A → B → Type 0) (xs : List A) (ys : List B) (i : ℕ) (d : A) (y : B) → AllZip R (take i xs) ys → i < length xs → R (get_or xs i d) y →
    AllZip R (take (i + 1) xs) (ys ++ y ∷ [])
all_zip-step R xs ys i d y all below r = subst (λ zs. AllZip R zs (ys ++ y ∷ [])) (sym (take_more xs i d below)) (all_zip-more R (take i xs) ys (get_or xs i d) y all r)

-- an item of a list of which each is so
pub all-at : {A : Type 0} (P : A → Type 0) (xs : List A) (i : ℕ) (d : A) → AllByRecursion P xs → i < length xs → P (get_or xs i d)
all-at P [] i d all below = absurd (omega arith)
all-at P (x ∷ xs) zero d all below = all.0
all-at P (x ∷ xs) (suc i) d all below = all-at P xs i d all.1 (omega arith)

moved : (n m : ℕ) → n + 1 + m ≡ n + suc m
moved n m = omega arith

pub enumerate_from-more : {A : Type 0} (n : ℕ) (xs : List A) (x : A) → enumerate_from n (xs ++ x ∷ []) ≡ enumerate_from n xs ++ (n + length xs, x) ∷ []
enumerate_from-more n [] x = ap (λ m. (m, x) ∷ []) (omega arith)
enumerate_from-more n (y ∷ ys) x = ap (λ zs. (n, y) ∷ zs) (enumerate_from-more (n + 1) ys x ∙ ap (λ m. enumerate_from (n + 1) ys ++ (m, x) ∷ []) (moved n (length ys)))

pub zip-more : {A B : Type 0} (xs : List A) (ys : List B) (x : A) (y : B) → length xs ≡ length ys → zip (xs ++ x ∷ []) (ys ++ y ∷ []) ≡ zip xs ys ++ (x, y) ∷ []
zip-more [] [] x y same = refl
zip-more [] (b ∷ ys) x y same = absurd (omega arith)
zip-more (a ∷ xs) [] x y same = absurd (omega arith)
zip-more (a ∷ xs) (b ∷ ys) x y same = ap (λ zs. (a, b) ∷ zs) (zip-more xs ys x y (omega arith))

found : {A : Type 0} (p : A → Bool) (x : A) (xs : List A) → p x ≡ true → find p (x ∷ xs) ≡ Some x
found p x xs yes' = ap (λ b. if b then Some x else find p xs) yes'

passed : {A : Type 0} (p : A → Bool) (x : A) (xs : List A) → p x ≡ false → find p (x ∷ xs) ≡ find p xs
passed p x xs no' = ap (λ b. if b then Some x else find p xs) no'

placed : {A : Type 0} (xs : List A) (i : ℕ) → i < length xs → 0 + length (take i xs) ≡ i
placed xs i below = omega (arith, length-take i xs)

-- the first item that passes is here
pub find-here : {A : Type 0} (p : A → Bool) (xs : List A) (i : ℕ) (d : A) → i < length xs → p (get_or xs i d) ≡ true → find p (drop i xs) ≡ Some (get_or xs i d)
find-here p xs i d below yes' = ap (find p) (drop-cons xs i d below) ∙ found p (get_or xs i d) (drop (suc i) xs) yes'

-- it is further right
pub find-behind : {A : Type 0} (p : A → Bool) (xs : List A) (i : ℕ) (d : A) → i < length xs → p (get_or xs i d) ≡ false → find p (drop i xs) ≡ find p (drop (i + 1) xs)
find-behind p xs i d below no' =
    ap (find p) (drop-cons xs i d below) ∙ passed p (get_or xs i d) (drop (suc i) xs) no' ∙ ap (λ n. find p (drop n xs)) (sym (add-one i))

-- the names of one policy more
pub names-step : (text : List ℕ) (trees : List PolicyTree) (names : List (List ℕ)) (i : ℕ) (tree : PolicyTree) (name : List ℕ) → AreNamesOf text (take i trees) names →
    i < length trees → tree ≡ get_or trees i tree → IsNameOf text i tree name → AreNamesOf text (take (i + 1) trees) (names ++ name ∷ [])
names-step text trees names i tree name named below here is =
    let R = λ (placed : ℕ × PolicyTree). IsNameOf text placed.0 placed.1 in
    let grown : enumerate_from 0 (take (i + 1) trees) ≡ enumerate_from 0 (take i trees) ++ (i, tree) ∷ [] =
    ap (enumerate_from 0) (take_more trees i tree below) ∙ enumerate_from-more 0 (take i trees) (get_or trees i tree)
    ∙ ap (λ n. enumerate_from 0 (take i trees) ++ (n, get_or trees i tree) ∷ []) (placed trees i below)
    ∙ ap (λ t. enumerate_from 0 (take i trees) ++ (i, t) ∷ []) (sym here) in
    subst (λ ps. AllZip R ps (names ++ name ∷ [])) (sym grown) (all_zip-more R (enumerate_from 0 (take i trees)) names (i, tree) name named is)

pub text-kind : (kind : TokenKind) → only k.Text kind ≡ true → kind ≡ k.Text
unfolding same_kind
text-kind k.Text yes' = refl
text-kind _ yes' = absurd (cc)

-- what is left of a list begins with the item here
pub next : {A : Type 0} (xs : List A) (i : ℕ) (d : A) → i < length xs → drop i xs ≡ get_or xs i d ∷ drop (i + 1) xs
next xs i d below = drop-cons xs i d below ∙ ap (λ j. get_or xs i d ∷ drop j xs) (sym (add-one i))

-- of which each item is so
pub all-left : {A : Type 0} (P : A → Type 0) (xs ys : List A) → AllByRecursion P (xs ++ ys) → AllByRecursion P xs
all-left P [] ys all = tt
all-left P (x ∷ xs) ys all = (all.0, all-left P xs ys all.1)

pub all-right : {A : Type 0} (P : A → Type 0) (xs ys : List A) → AllByRecursion P (xs ++ ys) → AllByRecursion P ys
all-right P [] ys all = all
all-right P (x ∷ xs) ys all = all-right P xs ys all.1

-- where there is nothing together, there is nothing of each
pub none-left : {A : Type 0} (xs ys : List A) → xs ++ ys ≡ [] → xs ≡ []
none-left [] ys none = refl
none-left (x ∷ xs) ys none = absurd (cc)

pub none-right : {A : Type 0} (xs ys : List A) → xs ++ ys ≡ [] → ys ≡ []
none-right [] ys none = none
none-right (x ∷ xs) ys none = absurd (cc)
