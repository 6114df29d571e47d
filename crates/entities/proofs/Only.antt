-- The faults that reading may have.
use Rattle.std.proofs.Common.{◌≡◌, ◌∙◌, Bool, true, false, Option, Some, None, Result, Ok, Err, refl, sym, subst}
use Rattle.json_words.specs.ReadsAs.{◌>>=◌, or_fault, demand}
use Rattle.entities.proofs.ReadingSteps.{done, failed, err_is, never}

-- `Within P r` holds if `r` has no fault for which `P` does not hold
abbrev pub Within : {A F : Type 0} → (F → Type 0) → Result A F → Type 0
Within {F = F} P r = (f : F) → r ≡ failed f → P f

pub within_bind : {A B F : Type 0} {P : F → Type 0} (r : Result A F) (k : A → Result B F) → Within P r → ((x : A) → Within P (k x)) → Within P (r >>= k)
within_bind (Ok x) k first then f e = then x f e
within_bind {P = P} (Err g) k first then f e = subst P (err_is g f e) (first g refl)

-- `Only w r` holds if `r` has no fault but `w`
abbrev pub Only : {A F : Type 0} → F → Result A F → Type 0
Only w r = Within (λ f. f ≡ w) r

pub only_ok : {A F : Type 0} (w : F) (x : A) → Only w (done x)
only_ok w x f e = absurd (never x f e)

pub only_wrong : {A F : Type 0} (w : F) → Only {A = A} w (failed w)
only_wrong w f e = sym (err_is w f e)

pub only_bind : {A B F : Type 0} {w : F} (r : Result A F) (k : A → Result B F) → Only w r → ((x : A) → Only w (k x)) → Only w (r >>= k)
only_bind {w = w} r k first then = within_bind {P = λ f. f ≡ w} r k first then

pub only_demand : {F : Type 0} (w : F) (b : Bool) → Only w (demand w b)
only_demand w true = only_ok w tt
only_demand w false = only_wrong w

pub only_or : {A F : Type 0} (w : F) (o : Option A) → Only w (or_fault w o)
only_or w (Some x) = only_ok w x
only_or w None = only_wrong w
