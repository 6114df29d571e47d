-- Lists put together of the lists of their pieces. Meant to be imported by the proofs of crates above.
use Rattle.std.specs.Prelude.{◌≡◌, List, [], ◌∷◌, ◌++◌, map, refl}
use mathlib.Core.Path.{◌∙◌, ap}
use Rattle.std.specs.List.{AllByRecursion, flat_map}
use Rattle.grammar_syntax.specs.declared.token.Token.{Token}
use Rattle.grammar_syntax.specs.declared.tree.Access.{Access}
use Rattle.grammar_syntax.specs.declared.tree.Access.TheVariants as access
use Rattle.grammar_syntax.specs.declared.tree.ExprTree.{ExprTree}
use Rattle.grammar_syntax.specs.declared.tree.KeyTree.{KeyTree}

pub joined : {A : Type 0} {us vs xs ys : List A} → us ≡ vs → xs ≡ ys → us ++ xs ≡ vs ++ ys
joined {A} {us} {vs} {xs} {ys} e f = ap (λ zs. zs ++ xs) e ∙ ap (λ zs. vs ++ zs) f

pub flat_map_map : {A B C : Type 0} (g : B → List C) (f : A → B) (xs : List A) → flat_map g (map f xs)
    ≡ flat_map (λ x. g (f x)) xs
flat_map_map g f [] = refl
flat_map_map g f (x ∷ xs) = ap (λ r. g (f x) ++ r) (flat_map_map g f xs)

pub flat_map_each : {A B C : Type 0} (g : B → List C) (h : A → List C) (f : A → B) → ((x : A) → g (f x)
    ≡ h x) → (xs : List A) → flat_map g (map f xs) ≡ flat_map h xs
flat_map_each g h f each [] = refl
flat_map_each g h f each (x ∷ xs) = joined (each x) (flat_map_each g h f each xs)

-- accesses, each form of which is mapped alike
pub flat_map_accesses : {B C : Type 0} (g : B → List C) (h : Access (List ExprTree)
    → List C) (f : Access (List ExprTree) → B) →
    ((key : KeyTree) → g (f (access.Field key)) ≡ h (access.Field key)) →
    ((name : Token) (arguments : List ExprTree) → g (f (access.Method name arguments))
    ≡ h (access.Method name arguments)) →
    (xs : List (Access (List ExprTree))) → flat_map g (map f xs) ≡ flat_map h xs
flat_map_accesses g h f field method [] = refl
flat_map_accesses g h f field method (access.Field key ∷ xs) =
    joined (field key) (flat_map_accesses g h f field method xs)
flat_map_accesses g h f field method (access.Method name arguments ∷ xs) =
    joined (method name arguments) (flat_map_accesses g h f field method xs)

-- ---- of which each item is so

pub all_both : {A : Type 0} (P : A → Type 0) (xs ys : List A) → AllByRecursion P xs → AllByRecursion P ys
    → AllByRecursion P (xs ++ ys)
all_both P [] ys front back = back
all_both P (x ∷ xs) ys front back = (front.0, all_both P xs ys front.1 back)

pub all_left : {A : Type 0} (P : A → Type 0) (xs ys : List A) → AllByRecursion P (xs ++ ys) → AllByRecursion P xs
all_left P [] ys all = tt
all_left P (x ∷ xs) ys all = (all.0, all_left P xs ys all.1)

pub all_right : {A : Type 0} (P : A → Type 0) (xs ys : List A) → AllByRecursion P (xs ++ ys) → AllByRecursion P ys
all_right P [] ys all = all
all_right P (x ∷ xs) ys all = all_right P xs ys all.1

pub flat_all : {X A : Type 0} (P : A → Type 0) (Q : X → Type 0) (f : X → List A) → ((x : X) → Q x
    → AllByRecursion P (f x)) → (xs : List X) →
    AllByRecursion Q xs → AllByRecursion P (flat_map f xs)
flat_all P Q f each [] all = tt
flat_all P Q f each (x ∷ xs) all = all_both P (f x) (flat_map f xs) (each x all.0) (flat_all P Q f each xs all.1)

pub all_flat : {X A : Type 0} (P : A → Type 0) (Q : X → Type 0) (f : X → List A) → ((x : X)
    → AllByRecursion P (f x) → Q x) → (xs : List X) →
    AllByRecursion P (flat_map f xs) → AllByRecursion Q xs
all_flat P Q f each [] all = tt
all_flat P Q f each (x ∷ xs) all =
    (each x (all_left P (f x) (flat_map f xs) all), all_flat P Q f each xs (all_right P (f x) (flat_map f xs) all))

pub mapped_all : {X A : Type 0} (P : A → Type 0) (Q : X → Type 0) (f : X → A) → ((x : X) → Q x → P (f x))
    → (xs : List X) → AllByRecursion Q xs → AllByRecursion P (map f xs)
mapped_all P Q f each [] all = tt
mapped_all P Q f each (x ∷ xs) all = (each x all.0, mapped_all P Q f each xs all.1)

pub all_mapped : {X A : Type 0} (P : A → Type 0) (Q : X → Type 0) (f : X → A) → ((x : X) → P (f x) → Q x)
    → (xs : List X) → AllByRecursion P (map f xs) → AllByRecursion Q xs
all_mapped P Q f each [] all = tt
all_mapped P Q f each (x ∷ xs) all = (each x all.0, all_mapped P Q f each xs all.1)

pub all_as : {A : Type 0} (P Q : A → Type 0) → ((x : A) → P x → Q x) → (xs : List A) → AllByRecursion P xs
    → AllByRecursion Q xs
all_as P Q each [] all = tt
all_as P Q each (x ∷ xs) all = (each x all.0, all_as P Q each xs all.1)
