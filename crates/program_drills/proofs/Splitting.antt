-- The first line of bytes, by the place of the first line feed.
use Rattle.std.proofs.Common.{◌≡◌, ℕ, zero, suc, ◌+◌, ◌-◌, ◌<◌, ◌==◌, true, false, List, [], ◌∷◌, length, take, drop, get_or, refl, sym, ap, arith}
use Rattle.std.proofs.lemmas.List.{take_all, length-drop}
use Rattle.program_drills.specs.Lines.{lines, line_end, begun_with}

-- a line feed stands at this place, and none before
pub ended_at : (bytes : List ℕ) (at : ℕ) → at < length bytes → ((k : ℕ) → k < at → (get_or bytes k 0 == line_end) ≡ false)
    → (get_or bytes at 0 == line_end) ≡ true → lines bytes ≡ take at bytes ∷ lines (drop (suc at) bytes)
ended_at [] at within before here = absurd (omega (arith, within))
ended_at (b ∷ bs) zero within before here = rw here refl
ended_at (b ∷ bs) (suc at) within before here =
    rw (before 0 (omega arith))
    (ap (begun_with b) (ended_at bs at (omega (arith, within)) (λ k below. before (suc k) (omega (arith, below))) here))

-- there is none
pub never_ended : (bytes : List ℕ) → 0 < length bytes → ((k : ℕ) → k < length bytes → (get_or bytes k 0 == line_end) ≡ false)
    → lines bytes ≡ bytes ∷ []
never_ended [] some before = absurd (omega (arith, some))
never_ended (b ∷ []) some before = rw (before 0 (omega arith)) refl
never_ended (b ∷ c ∷ cs) some before =
    rw (before 0 (omega arith))
    (ap (begun_with b) (never_ended (c ∷ cs) (omega arith) (λ k below. before (suc k) (omega (arith, below)))))

-- what is left behind it, as the code takes it
pub rest_of : (bytes : List ℕ) (at : ℕ)
    → drop (suc at) bytes ≡ take (length bytes - (at + 1)) (drop (at + 1) bytes)
rest_of bytes at =
    let one : suc at ≡ at + 1 = omega arith in
    rw one (sym (take_all (length bytes - (at + 1)) (drop (at + 1) bytes) (rw (length-drop (at + 1) bytes) (omega arith))))

pub none_left : (bytes : List ℕ) → [] ≡ take (length bytes - length bytes) (drop (length bytes) bytes)
none_left bytes =
    let none : length bytes - length bytes ≡ 0 = omega arith in
    rw none refl
