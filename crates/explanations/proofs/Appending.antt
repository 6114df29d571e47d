-- Bytes that are appended, one after the other.
use Rattle.std.proofs.Common.{◌≡◌, ◌∙◌, ℕ, List, [], ◌++◌, Result, Ok, Err, OnOk, IfOk, sym, ap}
use Rattle.std.proofs.lemmas.List.{append_assoc, append-nil}

-- first these, and then those
pub in_turn : (old mid new first second : List ℕ) → mid ≡ old ++ first → new ≡ mid ++ second → new ≡ old ++ (first ++ second)
in_turn old mid new first second e f = f ∙ ap (λ (l : List ℕ). l ++ second) e ∙ append_assoc old first second

-- none
pub nothing_more : (old : List ℕ) → old ≡ old ++ []
nothing_more old = sym (append-nil old)

-- what follows if a call succeeds
pub on_ok : {T E P Q : Type 0} (r : Result T E) → OnOk r P → (P → Q) → OnOk r Q
on_ok (Ok v) h so = so h
on_ok (Err e) h so = tt

-- what follows of the value if a call succeeds
pub if_ok : {T E : Type 0} {P Q : T → Type 0} (r : Result T E) → IfOk r P → ((v : T) → P v → Q v) → IfOk r Q
if_ok (Ok v) h so = so v h
if_ok (Err e) h so = tt
