-- Lists that a loop goes over or makes.
use Rattle.std.proofs.Common.{◌≡◌, ℕ, zero, suc, ◌+◌, ◌<◌, List, [], ◌∷◌, ◌++◌, length, drop, take, get_or, map, refl}
use Rattle.std.proofs.Common.{sym, ◌∙◌, ap, arith, add-one, Result, Ok, Err, IfOk}
use Rattle.std.proofs.Math.Seq.{drop-cons}
use Rattle.std.proofs.lemmas.List.{map-append, take_more}
use Rattle.std.specs.List.{AllByRecursion}
use Rattle.grammar_syntax.specs.declared.token.Token.{Token}
use Rattle.grammar_syntax.specs.declared.tree.Access.{Access}
use Rattle.grammar_syntax.specs.declared.tree.Access.TheVariants as access
use Rattle.grammar_syntax.specs.declared.tree.ExprTree.{ExprTree}
use Rattle.grammar_syntax.specs.declared.tree.KeyTree.{KeyTree}
use Rattle.plain.specs.Words.{AreIdents, IsIdent}

-- an item of a list of which each is so
pub all-at : {A : Type 0} (P : A → Type 0) (xs : List A) (i : ℕ) (d : A) → AllByRecursion P xs → i < length xs → P (get_or xs i d)
all-at P [] i d all below = absurd (omega arith)
all-at P (x ∷ xs) zero d all below = all.0
all-at P (x ∷ xs) (suc i) d all below = all-at P xs i d all.1 (omega arith)

pub idents-more : (words : List (List ℕ)) (word : List ℕ) → AreIdents words → IsIdent word → AreIdents (words ++ word ∷ [])
idents-more [] word idents ident = (ident, tt)
idents-more (w ∷ ws) word idents ident = (idents.0, idents-more ws word idents.1 ident)

pub map_map : {A B C : Type 0} (g : B → C) (f : A → B) (xs : List A) → map g (map f xs) ≡ map (λ x. g (f x)) xs
map_map g f [] = refl
map_map g f (x ∷ xs) = ap (λ r. g (f x) ∷ r) (map_map g f xs)

-- the same result says more
pub ok_as : {A E : Type 0} (P Q : A → Type 0) (r : Result A E) → ((x : A) → P x → Q x) → IfOk r P → IfOk r Q
ok_as P Q (Ok x) there p = there x p
ok_as P Q (Err e) there p = tt

pub next : {A : Type 0} (xs : List A) (i : ℕ) (d : A) → i < length xs → drop i xs ≡ get_or xs i d ∷ drop (i + 1) xs
next xs i d below = drop-cons xs i d below ∙ ap (λ j. get_or xs i d ∷ drop j xs) (sym (add-one i))

-- accesses, each form of which is mapped alike
pub map_accesses : {B C : Type 0} (g : B → C) (h : Access (List ExprTree) → C) (f : Access (List ExprTree) → B) → ((key : KeyTree) → g (f (access.Field key)) ≡ h (access.Field key)) →
    ((name : Token) (arguments : List ExprTree) → g (f (access.Method name arguments)) ≡ h (access.Method name arguments)) →
    (xs : List (Access (List ExprTree))) → map g (map f xs) ≡ map h xs
map_accesses g h f field method [] = refl
map_accesses g h f field method (access.Field key ∷ xs) = ap (λ y. y ∷ map g (map f xs)) (field key) ∙ ap (λ ys. h (access.Field key) ∷ ys) (map_accesses g h f field method xs)
map_accesses g h f field method (access.Method name arguments ∷ xs) =
    ap (λ y. y ∷ map g (map f xs)) (method name arguments) ∙ ap (λ ys. h (access.Method name arguments) ∷ ys) (map_accesses g h f field method xs)

pub length-mapped : {A B : Type 0} (f : A → B) (xs : List A) → length (map f xs) ≡ length xs
length-mapped f [] = refl
length-mapped f (x ∷ xs) = ap (λ n. suc n) (length-mapped f xs)

-- a turn of a loop: what is made from here on is what was made from there on
pub stepped : {A B X : Type 0} (going : A → List X → B) (f : A → X → A) → ((a : A) (x : X) (xs : List X) → going a (x ∷ xs) ≡ going (f a x) xs) → (xs : List X) (i : ℕ) (x : X) (left more : A) →
    x ≡ get_or xs i x → i < length xs → more ≡ f left x → going more (drop (i + 1) xs) ≡ going left (drop i xs)
stepped going f here xs i x left more same below made =
    ap (λ a. going a (drop (i + 1) xs)) made ∙ sym (here left x (drop (i + 1) xs)) ∙ ap (λ y. going left (y ∷ drop (i + 1) xs)) same ∙ sym (ap (going left) (next xs i x below))

-- a turn of a loop that maps a list
pub taken : {A B : Type 0} (f : A → B) (xs : List A) (i : ℕ) (x : A) (made more : List B) (y : B) → x ≡ get_or xs i x → i < length xs → made ≡ map f (take i xs) → y ≡ f x → more ≡ made ++ y ∷ [] →
    more ≡ map f (take (i + 1) xs)
taken f xs i x made more y same below before is pushed =
    pushed ∙ ap (λ ys. ys ++ y ∷ []) before ∙ ap (λ z. map f (take i xs) ++ z ∷ []) (is ∙ ap f same) ∙ sym (ap (map f) (take_more xs i x below) ∙ map-append f (take i xs) (get_or xs i x ∷ []))
