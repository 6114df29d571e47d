-- Lists of numbers, and what is found among them.
use Rattle.std.proofs.Common.{◌≡◌, ℕ, ◌+◌, ◌<◌, ◌≤◌, zero, suc, Bool, true, false, List, [], ◌∷◌, ◌++◌, length, refl, ap, sym, subst, inl, inr, ◌∙◌, arith, slice_set, ◌*◌, ◌^◌, length-append}
use Rattle.std.specs.Prelude.{Contains, ◌⊎◌, IsTrue, slice_index_or, Vec}
use Rattle.std.specs.declared.alloc.Global.{Global}
use Rattle.std.proofs.lemmas.List.{get_or-set_other}
use Rattle.std.proofs.lemmas.Grind.{get_or-set_at}
use Rattle.std.proofs.lemmas.List.Elements.{Contains-append_left, Contains-push, Contains-push_cases}
use Rattle.ancestor_search.specs.inner.Walking.{Edges, edges_of, mark_of, done_mark, HasOpen, FindsOpen, Ends, unseen, effort}
use Rattle.ancestor_search.specs.declared.walk.Bound.{Bound}
use Rattle.ancestor_search.proofs.Marks.{differ, below, mark-set, mark-other, unseen-less, unseen-set}

pub edges_of-at : (es : List (Vec ℕ Global)) (x : ℕ) (v : Vec ℕ Global) → x < length es → v ≡ slice_index_or es x v → edges_of es x ≡ v.items
edges_of-at [] x v lt e = absurd (omega (arith, lt))
edges_of-at (w ∷ ws) zero v lt e = ap (λ z. z.items) (sym e)
edges_of-at (w ∷ ws) (suc x) v lt e = edges_of-at ws x v (omega (arith, lt)) e

pub edges_of-past : (es : List (Vec ℕ Global)) (x : ℕ) → length es ≤ x → edges_of es x ≡ []
edges_of-past [] x le = refl
edges_of-past (w ∷ ws) zero le = absurd (omega (arith, le))
edges_of-past (w ∷ ws) (suc x) le = edges_of-past ws x (omega (arith, le))

pub edges_short : (es : List (Vec ℕ Global)) (x : ℕ) → length (edges_of es x) < 2 ^ 64
edges_short [] x = omega arith
edges_short (w ∷ ws) zero = omega (arith, w.ok.0, w.ok.1, w.small)
edges_short (w ∷ ws) (suc x) = edges_short ws x

steps : (u u' p p' k b b' : ℕ) → u' + 1 ≡ u → p' ≡ p + k → k < 2 ^ 64 → b' ≡ b + 2 → u' * 2 ^ 65 + p' + b' ≤ u * 2 ^ 65 + p + b + 1
steps u u' p p' k b b' eu ep lt eb = omega (arith, eu, ep, lt, eb)

pub effort-enter : (place : List ℕ) (n m : ℕ) (ps more : List ℕ) (bs : List Bound) (b b' : Bound) → mark_of place n ≡ 0 → 0 < m → length more < 2 ^ 64 → effort (slice_set place n m) (ps ++ more) ((bs ++ b ∷ []) ++ b' ∷ []) ≤ effort place ps bs + 1
effort-enter place n m ps more bs b b' new pos lt =
    let one = length-append bs (b ∷ []) in
    let two = length-append (bs ++ b ∷ []) (b' ∷ []) in
    steps (unseen place) (unseen (slice_set place n m)) (length ps) (length (ps ++ more)) (length more) (length bs) (length ((bs ++ b ∷ []) ++ b' ∷ [])) (unseen-set place n m new pos) (length-append ps more) lt (omega (arith, one, two))

tick-past : (found : List Bool) (n : ℕ) → length found ≤ n → slice_set found n true ≡ found
tick-past [] n le = refl
tick-past (b ∷ bs) zero le = absurd (omega (arith, le))
tick-past (b ∷ bs) (suc n) le = ap (λ r. b ∷ r) (tick-past bs n (omega (arith, le)))

tick-len : (found : List Bool) (n : ℕ) → length (slice_set found n true) ≡ length found
tick-len [] n = refl
tick-len (b ∷ bs) zero = refl
tick-len (b ∷ bs) (suc n) = ap suc (tick-len bs n)

module _ (e : Edges) (place ms : List ℕ) (found found1 : List Bool) (f : FindsOpen e place ms found found1) (n : ℕ) where
  pub finds-skip : (HasOpen (e n) place → ⊥) → FindsOpen e place (ms ++ n ∷ []) found found1
  finds-skip none = record {
    len = f.len;
    same = λ x. (
      λ t. elim ((f.same x).0 t) [ inl u ↦ inl u | inr u ↦ inr (u.0, Contains-append_left ms (n ∷ []) x u.1, u.2) ],
      λ t. (f.same x).1 (elim t [
        | inl u ↦ inl u
        | inr u ↦ elim (Contains-push_cases ms n x u.1) [ inl v ↦ inr (u.0, v, u.2) | inr same ↦ absurd (none (subst (λ z. HasOpen (e z) place) (sym same) u.2)) ]
      ]),
    );
  }

  pub finds-take : HasOpen (e n) place → FindsOpen e place (ms ++ n ∷ []) found (slice_set found1 n true)
  finds-take has = record {
    len = tick-len found1 n ∙ f.len;
    same = λ x. (
      λ t. elim (below n (length found1)) [
        | inl lt ↦ elim (differ x n) [
          | inl same ↦ inr (subst (λ z. z < length found) (sym same) (subst (λ k. n < k) f.len lt), subst (λ z. Contains (ms ++ n ∷ []) z) (sym same) (Contains-push ms n), subst (λ z. HasOpen (e z) place) (sym same) has)
          | inr off ↦ old x (sym (get_or-set_other found1 n x true false off) ∙ t)
        ]
        | inr le ↦ old x (sym (ap (λ l. slice_index_or l x false) (tick-past found1 n le)) ∙ t)
      ],
      λ t. elim t [
        | inl u ↦ kept x ((f.same x).1 (inl u))
        | inr u ↦ elim (Contains-push_cases ms n x u.1) [
          | inl v ↦ kept x ((f.same x).1 (inr (u.0, v, u.2)))
          | inr same ↦ get_or-set_at found1 n x true false (sym same) (subst (λ z. z < length found1) (sym same) (subst (λ k. x < k) (sym f.len) u.0))
        ]
      ],
    );
  }
    where
      old : (x : ℕ) → IsTrue (slice_index_or found1 x false) → IsTrue (slice_index_or found x false) ⊎ ((x < length found) × Contains (ms ++ n ∷ []) x × HasOpen (e x) place)
      old x t = elim ((f.same x).0 t) [ inl u ↦ inl u | inr u ↦ inr (u.0, Contains-append_left ms (n ∷ []) x u.1, u.2) ]

      kept : (x : ℕ) → IsTrue (slice_index_or found1 x false) → IsTrue (slice_index_or (slice_set found1 n true) x false)
      kept x t = elim (differ x n) [
        | inl same ↦ elim (below n (length found1)) [ inl lt ↦ get_or-set_at found1 n x true false same lt | inr le ↦ ap (λ l. slice_index_or l x false) (tick-past found1 n le) ∙ t ]
        | inr off ↦ get_or-set_other found1 n x true false off ∙ t
      ]

pub ends-more : (ms place place1 : List ℕ) → Ends ms place place1 → (n : ℕ) → Ends (ms ++ n ∷ []) place (slice_set place1 n done_mark)
ends-more ms place place1 s n = record {
  each = λ x. elim (differ x n) [
    | inl e ↦ inl (
      subst (λ z. Contains (ms ++ n ∷ []) z) (sym e) (Contains-push ms n),
      elim (below n (length place1)) [
        | inl lt ↦ mark-set place1 n done_mark x lt e
        | inr le ↦ done_past place1 n x le e
      ],
    )
    | inr off ↦ elim (s.each x) [
      | inl h ↦ inl (Contains-append_left ms (n ∷ []) x h.0, mark-other place1 n done_mark x off ∙ h.1)
      | inr h ↦ inr (λ t. elim (Contains-push_cases ms n x t) [ inl u ↦ h.0 u | inr same ↦ off (sym same) ], mark-other place1 n done_mark x off ∙ h.1)
    ]
  ];
  fewer = let less = unseen-less place1 n done_mark (omega arith) in omega (arith, less, s.fewer);
}
  where
    done_past : (l : List ℕ) (n x : ℕ) → length l ≤ n → x ≡ n → mark_of (slice_set l n done_mark) x ≡ done_mark
    done_past [] n x le e = refl
    done_past (m ∷ l) zero x le e = absurd (omega (arith, le))
    done_past (m ∷ l) (suc n) zero le e = absurd (omega (arith, e))
    done_past (m ∷ l) (suc n) (suc x) le e = done_past l n x (omega (arith, le)) (omega (arith, e))
