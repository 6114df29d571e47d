-- Steps of reading that gave a value.
use Rattle.std.proofs.Common.{◌≡◌, Bool, true, false, Option, Some, None, Result, Ok, refl, subst}
use Rattle.std.specs.Prelude.{⊤}
use Rattle.json_words.specs.ReadsAs.{or_fault, demand}

abbrev done : {A F : Type 0} → A → Result A F
done x = Ok x

-- what holds of the value that was made holds of the value that was given
pub carried : {A F : Type 0} (P : A → Type 0) (x y : A) → done {F = F} x ≡ done y → P x → P y
carried P x y e p = let same : x ≡ y = cc in subst P same p

pub some_of : {A F : Type 0} (f : F) (o : Option A) (x : A) → or_fault f o ≡ Ok x → o ≡ Some x
some_of f (Some y) x e = cc
some_of f None x e = absurd cc

pub passes : {F : Type 0} (f : F) (b : Bool) (u : ⊤) → demand f b ≡ Ok u → b ≡ true
passes f true u e = refl
passes f false u e = absurd cc
