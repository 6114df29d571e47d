-- Defines results of parsing, each a value or the first error, and when the result of code that may run out of memory
-- agrees with such a result.
use Rattle.std.specs.Prelude.{◌≡◌, ⊤, Bool, true, false, Option, Some, None, Result, Ok, Err}

-- `r >>= f` is `f` of the value of `r`, or the error of `r`. The notation `do` uses it.
infixl 10 ◌>>=◌
abbrev pub ◌>>=◌ : {A B F : Type 0} → Result A F → (A → Result B F) → Result B F
(Ok x) >>= f = f x
(Err e) >>= f = Err e

-- `or_fault f o` is the value of `o`, or the error `f` if `o` is `None`.
abbrev pub or_fault : {A F : Type 0} → F → Option A → Result A F
or_fault f (Some x) = Ok x
or_fault f None = Err f

-- `demand f test` is the error `f` if `test` is false, and else no error.
abbrev pub demand : {F : Type 0} → F → Bool → Result ⊤ F
demand f true = Ok tt
demand f false = Err f

-- `Fails memory e read` holds if the error `e` is that of the result `read`, or is `memory`, the error of a failed
-- allocation.
abbrev pub Fails : {Y F : Type 0} → F → F → Result Y F → Type 0
Fails memory e read = (e ≡ memory → ⊥) → read ≡ Err e

-- `ReadsAs memory view r read` holds if the result `r` of code agrees with the defined result `read`. If `r` has a
-- value, `read` has the same value, as `view` shows it. If `r` has an error, `read` has the same error, unless that is
-- `memory`, the error of a failed allocation.
abbrev pub ReadsAs : {X Y F : Type 0} → F → (X → Y) → Result X F → Result Y F → Type 0
ReadsAs memory view (Ok x) read = read ≡ Ok (view x)
ReadsAs memory view (Err e) read = Fails memory e read

-- `AlwaysReadsAs view r read` holds if `read` has the value of the result `r`, as `view` shows it, or the error of `r`.
-- It is `ReadsAs` for code that does not allocate.
abbrev pub AlwaysReadsAs : {X Y F : Type 0} → (X → Y) → Result X F → Result Y F → Type 0
AlwaysReadsAs view (Ok x) read = read ≡ Ok (view x)
AlwaysReadsAs view (Err e) read = read ≡ Err e
