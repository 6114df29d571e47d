-- Reading that has one fault at most.
use Rattle.std.proofs.Common.{◌≡◌, ◌∙◌, Bool, true, false, Option, Some, None, Result, Ok, Err, refl, sym}
use Rattle.json_words.specs.ReadsAs.{◌>>=◌, or_fault, demand}
use Rattle.schema.proofs.Steps.{done, failed, err_is, never}

-- `Only w r` holds if `r` has no fault but `w`
abbrev pub Only : {A F : Type 0} → F → Result A F → Type 0
Only {F = F} w r = (f : F) → r ≡ failed f → f ≡ w

pub only_ok : {A F : Type 0} (w : F) (x : A) → Only w (done x)
only_ok w x f e = absurd (never x f e)

pub only_wrong : {A F : Type 0} (w : F) → Only {A = A} w (failed w)
only_wrong w f e = sym (err_is w f e)

pub only_bind : {A B F : Type 0} {w : F} (r : Result A F) (k : A → Result B F) → Only w r → ((x : A) → Only w (k x)) → Only w (r >>= k)
only_bind (Ok x) k first then f e = then x f e
only_bind (Err g) k first then f e = sym (err_is g f e) ∙ first g refl

pub only_demand : {F : Type 0} (w : F) (b : Bool) → Only w (demand w b)
only_demand w true = only_ok w tt
only_demand w false = only_wrong w

pub only_or : {A F : Type 0} (w : F) (o : Option A) → Only w (or_fault w o)
only_or w (Some x) = only_ok w x
only_or w None = only_wrong w

-- a later step fails, whatever the first does
pub fails_later : {A B F : Type 0} {w : F} (r : Result A F) (k : A → Result B F) → Only w r → ((x : A) → k x ≡ failed w) → (r >>= k) ≡ failed w
fails_later (Ok x) k first then = then x
fails_later (Err g) k first then = let same = first g refl in rw same refl
