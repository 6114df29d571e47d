-- Whether names ascend, decided from each index on.
use Rattle.std.proofs.Common.{◌≡◌, ◌∙◌, ℕ, suc, ◌+◌, ◌-◌, ◌<◌, ◌≤◌, [], ◌∷◌, length, drop, get_or, Bool, true, false}
use Rattle.std.proofs.Common.{refl, sym, ap, arith}
use Prim.Native.Nat.{zero}
use Rattle.std.specs.Prelude.{◌&&◌}
use Rattle.std.specs.Ordering.{is_lt}
use Rattle.values.specs.declared.name.Name.{Name}
use Rattle.values.specs.Names.{name_cmp}
use Rattle.json_words.proofs.EachSame.{cut}
use Rattle.stamped_store.specs.declared.entry.Stamp.{Stamp}
use Rattle.stamped_store.specs.Deltas.{Summary}
use Rattle.sync_format.specs.Summaries.{ascend}

-- at an index with a next one
step : (m : Summary) (i : ℕ) (a b : Name × Stamp) → i + 1 < length m → a ≡ get_or m i a → b ≡ get_or m (i + 1) b
    → ascend (drop i m) ≡ (is_lt (name_cmp a.0 b.0) && ascend (drop (i + 1) m))
step m i a b lt at next =
    let rest : drop (i + 1) m ≡ b ∷ drop (i + 1 + 1) m = cut m (i + 1) b lt next in
    ap ascend (cut m i a (omega arith) at ∙ ap (λ (r : Summary). a ∷ r) rest) ∙ ap (λ (r : Summary). is_lt (name_cmp a.0 b.0) && ascend r) (sym rest)

nothing : (i : ℕ) → ascend (drop i []) ≡ true
nothing zero = refl
nothing (suc i) = refl

-- at the last index
last : (m : Summary) (i : ℕ) → length m ≤ i + 1 → ascend (drop i m) ≡ true
last [] i h = nothing i
last (a ∷ []) zero h = refl
last (a ∷ b ∷ m) zero h = absurd (omega (arith, h))
last (a ∷ m) (suc i) h = last m i (omega (arith, h))

told : (m : Summary) (p : ℕ) (a b : Name × Stamp) (test : Bool) → a ≡ get_or m (p - 1) a → b ≡ get_or m p b
    → test ≡ is_lt (name_cmp (get_or m (p - 1) a).0 (get_or m p b).0) → test ≡ is_lt (name_cmp a.0 b.0)
told m p a b test at next is =
    is ∙ ap (λ (x : Name × Stamp). is_lt (name_cmp x.0 (get_or m p b).0)) (sym at) ∙ ap (λ (x : Name × Stamp). is_lt (name_cmp a.0 x.0)) (sym next)

-- an index before p, and p itself
pub goes_on : (m : Summary) (p : ℕ) (a b : Name × Stamp) (test : Bool) → 1 ≤ p → p < length m → a ≡ get_or m (p - 1) a → b ≡ get_or m p b
    → test ≡ is_lt (name_cmp (get_or m (p - 1) a).0 (get_or m p b).0) → test ≡ true → ascend m ≡ ascend (drop (p - 1) m) → ascend m ≡ ascend (drop (p + 1 - 1) m)
goes_on m p a b test from lt at next is yes_ so =
    let back : p - 1 + 1 ≡ p = omega arith in
    let same : p + 1 - 1 ≡ p - 1 + 1 = omega arith in
    so ∙ step m (p - 1) a b (omega arith) at (next ∙ ap (λ k. get_or m k b) (sym back))
    ∙ ap (λ t. t && ascend (drop (p - 1 + 1) m)) (sym (told m p a b test at next is) ∙ yes_)
    ∙ ap (λ k. ascend (drop k m)) (sym same)

pub stops : (m : Summary) (p : ℕ) (a b : Name × Stamp) (test : Bool) → 1 ≤ p → p < length m → a ≡ get_or m (p - 1) a → b ≡ get_or m p b
    → test ≡ is_lt (name_cmp (get_or m (p - 1) a).0 (get_or m p b).0) → test ≡ false → ascend m ≡ ascend (drop (p - 1) m) → false ≡ ascend m
stops m p a b test from lt at next is no_ so =
    let back : p - 1 + 1 ≡ p = omega arith in
    sym (so ∙ step m (p - 1) a b (omega arith) at (next ∙ ap (λ k. get_or m k b) (sym back))
    ∙ ap (λ t. t && ascend (drop (p - 1 + 1) m)) (sym (told m p a b test at next is) ∙ no_))

pub ends : (m : Summary) (p : ℕ) → 1 ≤ p → length m ≤ p → ascend m ≡ ascend (drop (p - 1) m) → true ≡ ascend m
ends m p from le so = sym (so ∙ last m (p - 1) (omega (arith, le)))
