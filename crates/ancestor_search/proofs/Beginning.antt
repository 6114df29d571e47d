-- The beginning of a search by groups of numbers.
use Rattle.std.proofs.Common.{◌≡◌, ℕ, ◌<◌, ◌≤◌, zero, suc, Bool, false, List, [], ◌∷◌, length, replicate, refl, ap, sym, subst, inl, inr, arith}
use Rattle.std.specs.Prelude.{Contains, slice_index_or, Vec}
use Rattle.std.specs.declared.alloc.Global.{Global}
use Rattle.ancestor_search.specs.inner.Walking.{edges_of, Way, mark_of, done_mark, IsDone, IsWalking, IsSeen}
use Rattle.ancestor_search.specs.Deciding.{Contains-none}
use Rattle.ancestor_search.proofs.Marks.{below}
use Rattle.ancestor_search.proofs.Reading.{edges_of-past}

zero_at : (n x : ℕ) → x < n → mark_of (replicate n 0) x ≡ 0
zero_at zero x lt = absurd (omega (arith, lt))
zero_at (suc n) zero lt = refl
zero_at (suc n) (suc x) lt = zero_at n x (omega (arith, lt))

past_at : (n x : ℕ) → n ≤ x → mark_of (replicate n 0) x ≡ done_mark
past_at zero x le = refl
past_at (suc n) zero le = absurd (omega (arith, le))
past_at (suc n) (suc x) le = past_at n x (omega (arith, le))

false_at : (n x : ℕ) → slice_index_or (replicate n false) x false ≡ false
false_at zero x = refl
false_at (suc n) zero = refl
false_at (suc n) (suc x) = false_at n x

false_len : (n : ℕ) → length (replicate n false) ≡ n
false_len zero = refl
false_len (suc n) = ap suc (false_len n)

module _ (es : List (Vec ℕ Global)) where
  done_past : (x : ℕ) → IsDone (replicate (length es) 0) x → edges_of es x ≡ []
  done_past x d = elim (below x (length es)) [ inl lt ↦ let z = zero_at (length es) x lt in absurd (omega (arith, z, d)) | inr le ↦ edges_of-past es x le ]

  no_way : (x : ℕ) → edges_of es x ≡ [] → (cs : List ℕ) → Way (edges_of es) x cs x → ⊥
  no_way x e [] h = Contains-none x (subst (λ l. Contains l x) e h)
  no_way x e (c ∷ cs) h = Contains-none c (subst (λ l. Contains l c) e h.0)

  pub begins : (place : List ℕ) (found : List Bool) → place ≡ replicate (length es) 0 → found ≡ replicate (length es) false → IsWalking (edges_of es) place found [] [] []
  begins place found ep ef = subst (λ p. IsWalking (edges_of es) p found [] [] []) (sym ep) (subst (λ f. IsWalking (edges_of es) (replicate (length es) 0) f [] [] []) (sym ef) (
    [],
    refl,
    refl,
    record {
      groups = tt;
      stands = λ x. elim (below x (length es)) [ inl lt ↦ inr (inl (zero_at (length es) x lt, λ h. Contains-none x h)) | inr le ↦ inl (past_at (length es) x le) ];
      same = refl;
      finished = record {
        closed = λ x y d edge. Contains-none y (subst (λ l. Contains l y) (done_past x d) edge);
        empty = λ x le. edges_of-past es x (subst (λ k. k ≤ x) (false_len (length es)) le);
        right = λ x. (λ t. let f = false_at (length es) x in cc (f, t), λ both. absurd (no_way x (done_past x both.0) both.1.0 both.1.1));
      };
    },
  ))

  pub seen_past : (place : List ℕ) → place ≡ replicate (length es) 0 → (x : ℕ) → length es ≤ x → IsSeen place x
  seen_past place ep x le z = let p = past_at (length es) x le in let q : mark_of (replicate (length es) 0) x ≡ 0 = subst (λ l. mark_of l x ≡ 0) ep z in omega (arith, p, q)
