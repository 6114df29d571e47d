-- Steps of reading, and tests as what they decide.
use Rattle.std.proofs.Common.{◌≡◌, ℕ, List, Bool, true, false, Option, Some, None, Result, Ok, Err, refl}
use Rattle.std.specs.Str.{bytes_eq}
use Rattle.std.proofs.lemmas.Slice.Eq.{bytes_eq-Decides}

abbrev pub done : {A F : Type 0} → A → Result A F
done x = Ok x

abbrev pub failed : {A F : Type 0} → F → Result A F
failed f = Err f

pub ok_is : {A F : Type 0} (x y : A) → done {F = F} x ≡ done y → x ≡ y
ok_is x y e = cc

pub err_is : {A F : Type 0} (f g : F) → failed {A = A} f ≡ failed g → f ≡ g
err_is f g e = cc

pub never : {A F : Type 0} (x : A) (f : F) → done x ≡ failed f → ⊥
never x f e = absurd cc

pub some_is : {A : Type 0} (x y : A) → Some x ≡ Some y → x ≡ y
some_is x y e = cc

pub none_some : {A : Type 0} (x : A) (o : Option A) → o ≡ None → o ≡ Some x → ⊥
none_some x o e g = absurd cc

pub true_false : (b : Bool) → b ≡ true → b ≡ false → ⊥
true_false b e g = absurd cc

pub untrue : (b : Bool) → (b ≡ true → ⊥) → b ≡ false
untrue true never = absurd (never refl)
untrue false never = refl

pub same_bytes : (s t : List ℕ) → s ≡ t → bytes_eq s t ≡ true
same_bytes s t e = (bytes_eq-Decides s t).1 e

pub bytes_same : (s t : List ℕ) → bytes_eq s t ≡ true → s ≡ t
bytes_same s t e = (bytes_eq-Decides s t).0 e

pub apart : (s t : List ℕ) → (s ≡ t → ⊥) → bytes_eq s t ≡ false
apart s t other = untrue (bytes_eq s t) (λ e. other (bytes_same s t e))
