-- How many of the first bytes of a text pass a test.
use Rattle.std.proofs.Common.{◌≡◌, ℕ, suc, ◌≤◌, Bool, true, List, [], ◌∷◌, ◌++◌, inl, inr, refl, sym, ◌∙◌, ap, arith, length, take}
use Rattle.std.proofs.lemmas.Bool.{cases_Bool}
use Rattle.plain.specs.Words.{AllAre, run}

-- the first of a run pass
pub run_all : (p : ℕ → Bool) (cs : List ℕ) → AllAre p (take (run p cs) cs)
run_all p [] = tt
run_all p (c ∷ cs) = elim (cases_Bool (p c)) [
  | inl y ↦ rw y (y, run_all p cs)
  | inr n ↦ rw n tt
]

-- no beginning of which all pass is longer
pub run_most : (p : ℕ → Bool) (cs v more : List ℕ) → AllAre p v → cs ≡ v ++ more → length v ≤ run p cs
run_most p cs [] more a e = omega arith
run_most p [] (x ∷ v) more a e = absurd (cc)
run_most p (c ∷ cs) (x ∷ v) more a e =
    let same : x ≡ c = cc in
    let tail : cs ≡ v ++ more = cc in
    let y : p c ≡ true = ap p (sym same) ∙ a.0 in
    let most = run_most p cs v more a.1 tail in
    rw y (omega arith)

pub run_within : (p : ℕ → Bool) (cs : List ℕ) → length (take (run p cs) cs) ≡ run p cs
run_within p [] = refl
run_within p (c ∷ cs) = elim (cases_Bool (p c)) [
  | inl y ↦ rw y (ap suc (run_within p cs))
  | inr n ↦ rw n refl
]
