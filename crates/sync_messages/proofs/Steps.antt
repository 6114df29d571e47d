-- Steps of reading, tests as what they decide, and reading that has one fault at most.
use Rattle.std.proofs.Common.{◌≡◌, ◌∙◌, ℕ, suc, List, [], ◌∷◌, Bool, true, false, Option, Some, None, Result, Ok, Err, refl, sym}
use Rattle.std.specs.Prelude.{⊤}
use Rattle.std.specs.Str.{bytes_eq}
use Rattle.std.proofs.lemmas.Slice.Eq.{bytes_eq-Decides}
use Rattle.json_words.specs.ReadsAs.{◌>>=◌, or_fault, demand}
use Rattle.json_words.specs.Each.{each}

abbrev pub done : {A F : Type 0} → A → Result A F
done x = Ok x

abbrev pub failed : {A F : Type 0} → F → Result A F
failed f = Err f

pub ok_is : {A F : Type 0} (x y : A) → done {F = F} x ≡ done y → x ≡ y
ok_is x y e = cc

pub err_is : {A F : Type 0} (f g : F) → failed {A = A} f ≡ failed g → f ≡ g
err_is f g e = cc

pub never : {A F : Type 0} (x : A) (f : F) → done x ≡ failed f → ⊥
never x f e = absurd cc

pub some_is : {A : Type 0} (x y : A) → Some x ≡ Some y → x ≡ y
some_is x y e = cc

pub none_some : {A : Type 0} (x : A) (o : Option A) → o ≡ None → o ≡ Some x → ⊥
none_some x o e g = absurd cc

pub true_false : (b : Bool) → b ≡ true → b ≡ false → ⊥
true_false b e g = absurd cc

pub untrue : (b : Bool) → (b ≡ true → ⊥) → b ≡ false
untrue true none = absurd (none refl)
untrue false none = refl

pub some_of : {A F : Type 0} (f : F) (o : Option A) (x : A) → or_fault f o ≡ done x → o ≡ Some x
some_of f (Some y) x e = cc
some_of f None x e = absurd cc

pub passes : {F : Type 0} (f : F) (b : Bool) (u : ⊤) → demand f b ≡ done u → b ≡ true
passes f true u e = refl
passes f false u e = absurd cc

pub same_bytes : (s t : List ℕ) → s ≡ t → bytes_eq s t ≡ true
same_bytes s t e = (bytes_eq-Decides s t).1 e

pub bytes_same : (s t : List ℕ) → bytes_eq s t ≡ true → s ≡ t
bytes_same s t e = (bytes_eq-Decides s t).0 e

-- ---- reading with the one fault `w`

abbrev pub Only : {A F : Type 0} → F → Result A F → Type 0
Only {F = F} w r = (f : F) → r ≡ failed f → f ≡ w

pub only_ok : {A F : Type 0} (w : F) (x : A) → Only w (done x)
only_ok w x f e = absurd (never x f e)

pub only_wrong : {A F : Type 0} (w : F) → Only {A = A} w (failed w)
only_wrong w f e = sym (err_is w f e)

pub only_bind : {A B F : Type 0} {w : F} (r : Result A F) (k : A → Result B F) → Only w r → ((x : A) → Only w (k x)) → Only w (r >>= k)
only_bind (Ok x) k first then f e = then x f e
only_bind (Err g) k first then f e = sym (err_is g f e) ∙ first g refl

pub only_demand : {F : Type 0} (w : F) (b : Bool) → Only w (demand w b)
only_demand w true = only_ok w tt
only_demand w false = only_wrong w

pub only_or : {A F : Type 0} (w : F) (o : Option A) → Only w (or_fault w o)
only_or w (Some x) = only_ok w x
only_or w None = only_wrong w

pub only_each : {A B F : Type 0} (w : F) (f : ℕ → A → Result B F) → ((i : ℕ) (x : A) → Only w (f i x)) → (k : ℕ) (xs : List A) → Only w (each f k xs)
unfolding each
only_each w f one k [] = only_ok w []
only_each w f one k (x ∷ xs) =
    only_bind (f k x) (λ y. each f (suc k) xs >>= λ ys. Ok (y ∷ ys)) (one k x) (λ y.
    only_bind (each f (suc k) xs) (λ ys. Ok (y ∷ ys)) (only_each w f one (suc k) xs) (λ ys. only_ok w (y ∷ ys)))
