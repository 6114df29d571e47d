-- Bytes that are appended, one after the other.
use Rattle.std.specs.Prelude.{Result, Ok, Err, OnOk, is_ok, if◌then◌else◌}
use Rattle.std.proofs.Common.{◌≡◌, ◌∙◌, ℕ, List, [], ◌++◌, sym, ap}
use Rattle.std.proofs.lemmas.List.{append_assoc, append-nil}

-- first these, and then those
pub in_turn : (old mid new first second : List ℕ) → mid ≡ old ++ first → new ≡ mid ++ second → new ≡ old ++ (first ++ second)
in_turn old mid new first second e f = f ∙ ap (λ (l : List ℕ). l ++ second) e ∙ append_assoc old first second

-- none
pub nothing_more : (old : List ℕ) → old ≡ old ++ []
nothing_more old = sym (append-nil old)

-- by the last call
pub appended_last : {T E P : Type 0} (r : Result T E) (mid piece new : List ℕ) → new ≡ (if is_ok r then mid ++ piece else mid)
    → (new ≡ mid ++ piece → P) → OnOk r P
appended_last (Ok v) mid piece new e so = so e
appended_last (Err f) mid piece new e so = tt
