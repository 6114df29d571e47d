-- What is made of results that are known.
use Rattle.std.proofs.Common.{◌≡◌, ◌∙◌, ap, subst, Result, Ok, Err, IfOk}
use Rattle.grammar_desugaring.specs.inner.Giving.{Gave}

pub one : {A B E F : Type 0} (f : A → B) (a : A) (b : B) (first : Result A E) (r : Result B F) → IfOk first (λ x. x ≡ a) →
    IfOk r (λ e. Gave first (λ x. e ≡ f x)) → f a ≡ b → IfOk r (λ e. e ≡ b)
one f a b (Ok x) (Ok e) is made same = made ∙ ap f is ∙ same
one f a b (Err d) (Ok e) is made same = absurd made
one f a b first (Err d) is made same = tt

pub two : {A B C E F G : Type 0} (f : A → B → C) (a : A) (b : B) (c : C) (first : Result A E) (second : Result B F) (r : Result C G) → IfOk first (λ x. x ≡ a) →
    IfOk second (λ y. y ≡ b) → IfOk r (λ e. Gave first (λ x. Gave second (λ y. e ≡ f x y))) → f a b ≡ c → IfOk r (λ e. e ≡ c)
two f a b c (Ok x) (Ok y) (Ok e) is also made same = made ∙ ap (λ z. f z y) is ∙ ap (f a) also ∙ same
two f a b c (Ok x) (Err d) (Ok e) is also made same = absurd made
two f a b c (Err d) second (Ok e) is also made same = absurd made
two f a b c first second (Err d) is also made same = tt

pub three : {A B C D E F G H : Type 0} (f : A → B → C → D) (a : A) (b : B) (c : C) (d : D) (first : Result A E) (second : Result B F) (third : Result C G) (r : Result D H) →
    IfOk first (λ x. x ≡ a) → IfOk second (λ y. y ≡ b) → IfOk third (λ z. z ≡ c) → IfOk r (λ e. Gave first (λ x. Gave second (λ y. Gave third (λ z. e ≡ f x y z)))) → f a b c ≡ d →
    IfOk r (λ e. e ≡ d)
three f a b c d (Ok x) (Ok y) (Ok z) (Ok e) is also last made same = made ∙ ap (λ i. f i y z) is ∙ ap (λ i. f a i z) also ∙ ap (f a b) last ∙ same
three f a b c d (Ok x) (Ok y) (Err g) (Ok e) is also last made same = absurd made
three f a b c d (Ok x) (Err g) third (Ok e) is also last made same = absurd made
three f a b c d (Err g) second third (Ok e) is also last made same = absurd made
three f a b c d first second third (Err g) is also last made same = tt

-- what is as before is still what was to be made
pub still : {A B E : Type 0} (whole : A → B) (now before : B) (first : Result A E) → now ≡ before → Gave first (λ a. before ≡ whole a) → Gave first (λ a. now ≡ whole a)
still whole now before (Ok a) same was = same ∙ was
still whole now before (Err e) same was = absurd was

-- what is said of a value that was given is said of the one that it is known to be
pub given : {A E : Type 0} (P : A → Type 0) (a : A) (r : Result A E) → IfOk r (λ x. x ≡ a) → Gave r P → P a
given P a (Ok x) is gave = subst P is gave
given P a (Err e) is gave = absurd gave
