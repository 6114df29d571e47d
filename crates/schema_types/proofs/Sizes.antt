-- Which tables hold each type whole.
use Rattle.std.proofs.Common.{◌≡◌, ◌∙◌, ◌⊎◌, inl, inr, ℕ, List, [], ◌∷◌, Some, Bool, true, false, refl, sym, ap, arith, subst, true≢false, ltb-true, ltb-false}
use Rattle.std.specs.Prelude.{◌&&◌, nat_lt}
use Rattle.schema_types.specs.Qualified.{Qualified}
use Rattle.schema_types.specs.Cedar.{Cedar, IsTooLarge}
use Rattle.schema_types.specs.Expansions.{Declarations, Declares}
use Rattle.schema_types.specs.TypeTables.{Extent, size_of, TypeTable, AreWritten, AreWhole}
use Rattle.schema_types.specs.inner.Table.{IsWithin, fits, size_in, IsCounted, is_small_at, all_small}
use Rattle.schema_types.specs.Outcome.{SomeIsTooLarge}

first_true : (a b : Bool) → (a && b) ≡ true → a ≡ true
first_true true b e = refl
first_true false b e = absurd (true≢false (sym e))

second_true : (a b : Bool) → (a && b) ≡ true → b ≡ true
second_true true b e = e
second_true false b e = absurd (true≢false (sym e))

pub one_false : (a b : Bool) → (a && b) ≡ false → (a ≡ false) ⊎ (b ≡ false)
one_false true b e = inr e
one_false false b e = inl refl

pub within : (s : Extent) → (nat_lt s.parts 10001 && nat_lt s.deep 65) ≡ true → IsWithin s
within s e =
    let a = ltb-true s.parts 10001 (first_true (nat_lt s.parts 10001) (nat_lt s.deep 65) e) in
    let b = ltb-true s.deep 65 (second_true (nat_lt s.parts 10001) (nat_lt s.deep 65) e) in
    (omega (arith, a), omega (arith, b))

pub too_large : (s : Extent) (t : Cedar) → s ≡ size_of t → (nat_lt s.parts 10001 ≡ false) ⊎ (nat_lt s.deep 65 ≡ false) → IsTooLarge t
too_large s t is (inl e) = let a = ap (λ (x : Extent). x.parts) is in let b = ltb-false s.parts 10001 e in inl (omega (arith, a, b))
too_large s t is (inr e) = let a = ap (λ (x : Extent). x.deep) is in let b = ltb-false s.deep 65 e in inr (omega (arith, a, b))

pub not_large : (s : Extent) (t : Cedar) → s ≡ size_of t → IsWithin s → IsTooLarge t → ⊥
not_large s t is w (inl many) = let a = ap (λ (x : Extent). x.parts) is in absurd (omega (arith, a, many, w.0))
not_large s t is w (inr far) = let a = ap (λ (x : Extent). x.deep) is in absurd (omega (arith, a, far, w.1))

pub fits_small : (s : Extent) (t : Cedar) → s ≡ size_of t → (IsTooLarge t → ⊥) → fits s ≡ true
fits_small s t is small = by (fits s) refl
  where
    by : (b : Bool) → fits s ≡ b → fits s ≡ true
    by true e = e
    by false e = absurd (small (too_large s t is (one_false _ _ e)))

pub fits_large : (s : Extent) (t : Cedar) → s ≡ size_of t → IsTooLarge t → fits s ≡ false
fits_large s t is large = by (fits s) refl
  where
    by : (b : Bool) → fits s ≡ b → fits s ≡ false
    by true e = absurd (not_large s t is (within s e) large)
    by false e = e

small_at : (known : TypeTable) (ds : Declarations) → all_small known ds ≡ true → (q : List ℕ) (r : Qualified) → Declares ds q r → is_small_at (known q) ≡ true
small_at known [] all q r here = absurd here
small_at known (d ∷ ds) all q r (inl p) = subst (λ x. is_small_at (known x) ≡ true) p.0 (first_true _ _ all)
small_at known (d ∷ ds) all q r (inr p) = small_at known ds (second_true _ _ all) q r p

pub are_whole : (commons : Declarations) (known : TypeTable) → AreWritten commons known → all_small known commons ≡ true → AreWhole commons known
are_whole commons known w all = λ q r here k at.
    let s = w.table q k at in
    let small = sym (ap is_small_at at) ∙ small_at known commons all q r here in
    (s.type, s.is_written, s.at_hand (not_large k.size s.type s.size_is (within k.size small)), not_large k.size s.type s.size_is (within k.size small))

large_at : (known : TypeTable) (ds : Declarations) → all_small known ds ≡ false → (q : List ℕ) × (r : Qualified) × Declares ds q r × (is_small_at (known q) ≡ false)
large_at known [] lacks = absurd (true≢false lacks)
large_at known (d ∷ ds) lacks = at_first (λ rest. large_at known ds rest) (one_false _ _ lacks)
  where
    later : ((q : List ℕ) × (r : Qualified) × Declares ds q r × (is_small_at (known q) ≡ false)) → (q : List ℕ) × (r : Qualified) × Declares (d ∷ ds) q r × (is_small_at (known q) ≡ false)
    later (q, r, here, large) = (q, r, inr here, large)

    at_first : (all_small known ds ≡ false → (q : List ℕ) × (r : Qualified) × Declares ds q r × (is_small_at (known q) ≡ false)) → (is_small_at (known d.0) ≡ false) ⊎ (all_small known ds ≡ false)
        → (q : List ℕ) × (r : Qualified) × Declares (d ∷ ds) q r × (is_small_at (known q) ≡ false)
    at_first more (inl large) = (d.0, d.1, inl (refl, refl), large)
    at_first more (inr rest) = later (more rest)

pub some_large : (commons : Declarations) (known : TypeTable) → AreWritten commons known → all_small known commons ≡ false → SomeIsTooLarge commons
some_large commons known w lacks =
    let p = large_at known commons lacks in
    let k = w.all p.0 p.1 p.2 in
    let s = w.table p.0 k.0 k.1 in record {
      name = p.0;
      type = s.type;
      is_written = s.is_written;
      too_large = too_large k.0.size s.type s.size_is (one_false _ _ (sym (ap is_small_at k.1) ∙ p.3));
    }

pub large_left : (known : TypeTable) (d : List ℕ × Qualified) (ds : Declarations) → is_small_at (known d.0) ≡ false → all_small known (d ∷ ds) ≡ false
large_left known d ds large = rw large refl

pub small_left : (known : TypeTable) (d : List ℕ × Qualified) (ds : Declarations) → is_small_at (known d.0) ≡ true → all_small known (d ∷ ds) ≡ all_small known ds
small_left known d ds small = rw small refl

-- a type whose size is known to be within was counted
pub counted : (known : TypeTable) (r : Qualified) (s : Extent) → Some s ≡ size_in known r → true ≡ fits s → IsCounted known r
counted known r s is small = record { size = s; is = sym is; small = sym small }
