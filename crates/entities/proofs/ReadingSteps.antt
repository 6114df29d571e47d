-- Steps of reading, and tests as what they decide.
use Rattle.std.proofs.Common.{◌≡◌, ℕ, List, Bool, true, false, Option, Some, None, Result, Ok, Err, refl, ap, inl, inr}
use Rattle.std.proofs.Common.{subst}
use Rattle.std.specs.Prelude.{⊤}
use Rattle.std.specs.Str.{bytes_eq}
use Rattle.std.proofs.lemmas.Slice.Eq.{bytes_eq-Decides}
use Rattle.json_words.specs.ReadsAs.{or_fault, demand}
use Rattle.values.specs.extensions.Decided.{Decided, witness}

abbrev pub done : {A F : Type 0} → A → Result A F
done x = Ok x

abbrev pub failed : {A F : Type 0} → F → Result A F
failed f = Err f

pub ok_is : {A F : Type 0} (x y : A) → done {F = F} x ≡ done y → x ≡ y
ok_is x y e = cc

pub err_is : {A F : Type 0} (f g : F) → failed {A = A} f ≡ failed g → f ≡ g
err_is f g e = cc

pub never : {A F : Type 0} (x : A) (f : F) → done x ≡ failed f → ⊥
never x f e = absurd cc

pub some_is : {A : Type 0} (x y : A) → Some x ≡ Some y → x ≡ y
some_is x y e = cc

pub none_some : {A : Type 0} (x : A) (o : Option A) → o ≡ None → o ≡ Some x → ⊥
none_some x o e g = absurd cc

pub true_false : (b : Bool) → b ≡ true → b ≡ false → ⊥
true_false b e g = absurd cc

pub untrue : (b : Bool) → (b ≡ true → ⊥) → b ≡ false
untrue true never = absurd (never refl)
untrue false never = refl

pub some_of : {A F : Type 0} (f : F) (o : Option A) (x : A) → or_fault f o ≡ done x → o ≡ Some x
some_of f (Some y) x e = cc
some_of f None x e = absurd cc

pub passes : {F : Type 0} (f : F) (b : Bool) (u : ⊤) → demand f b ≡ done u → b ≡ true
passes f true u e = refl
passes f false u e = absurd cc

pub same_bytes : (s t : List ℕ) → s ≡ t → bytes_eq s t ≡ true
same_bytes s t e = (bytes_eq-Decides s t).1 e

pub bytes_same : (s t : List ℕ) → bytes_eq s t ≡ true → s ≡ t
bytes_same s t e = (bytes_eq-Decides s t).0 e

-- ---- what was found

pub found_of : {A : Type 0} {P : A → Type 0} (d : Decided ((a : A) × P a)) (a : A) → witness d ≡ Some a → P a
found_of {P = P} (inl h) a e = let same : h.0 ≡ a = cc in subst P same h.1
found_of (inr n) a e = absurd cc

pub found_is : {A : Type 0} {P : A → Type 0} (d : Decided ((a : A) × P a)) (a : A) → ((x y : A) → P x → P y → x ≡ y) → P a → witness d ≡ Some a
found_is {A = A} (inl h) a one p = ap (λ (b : A). Some b) (one h.0 a h.1 p)
found_is (inr n) a one p = absurd (n (a, p))
