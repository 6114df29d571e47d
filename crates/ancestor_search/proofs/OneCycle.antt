-- There is one least cycle at most, and one where some entity is on a cycle.
use Rattle.std.proofs.Common.{◌≡◌, ℕ, zero, suc, ◌<◌, Bool, true, false, List, [], ◌∷◌, length, refl, ap, sym, subst}
use Rattle.std.proofs.Common.{◌∙◌, inl, inr, arith}
use Rattle.std.specs.Prelude.{Contains, ◌⊎◌, IsTrue}
use Rattle.std.specs.Ordering.{is_gt, ordering_reverse}
use Rattle.std.specs.declared.cmp.Ordering.{Ordering}
use Rattle.std.specs.declared.cmp.Ordering.TheVariants.{Less, Equal, Greater}
use Rattle.std.specs.Cmp.{IsTotalOrder, upto, tied_itself}
use Rattle.std.specs.Cmp.Lexicographic.{slice_cmp}
use Rattle.std.proofs.lemmas.Cmp.{lists_total}
use Rattle.std.specs.FinMap.{slice_cmp-IsAntisymmetric, IsAntisymmetric}
use Rattle.std.proofs.lemmas.Bool.{cases_lt}
use Rattle.values.specs.declared.entity_uid.EntityUid.{EntityUid}
use Rattle.values.specs.Names.{uid_cmp, uid_cmp-IsTotalOrder, uid_cmp-IsAntisymmetric}
use Rattle.ancestor_search.specs.Hierarchy.{Parents, Path, IsOnCycle}
use Rattle.ancestor_search.specs.Decided.{HaveAllParents, reaches}
use Rattle.ancestor_search.specs.Deciding.{decided, Contains-here, Contains-there, Contains-cases, Contains-none}
use Rattle.ancestor_search.specs.LeastCycle.{IsLeastCycleFrom, LeastCyclesAreOne, CyclesHaveALeast}
use Rattle.ancestor_search.proofs.Levels.{among}
use Rattle.ancestor_search.proofs.Walks.{then_least}

module _ {K : Type 0} (R : K → K → Ordering) (total : IsTotalOrder R) where
  -- neither is greater
  same_place : IsAntisymmetric R → (a b : K) → is_gt (R a b) ≡ false → is_gt (R b a) ≡ false → a ≡ b
  same_place exact a b h k = at (R a b) refl h (ap is_gt (sym (total.antisymm b a)) ∙ k)
    where
      at : (o : Ordering) → R a b ≡ o → is_gt o ≡ false → is_gt (ordering_reverse (R a b)) ≡ false → a ≡ b
      at Less e h k = let f : is_gt (ordering_reverse Less) ≡ false = subst (λ z. is_gt (ordering_reverse z) ≡ false) e k in cc f
      at Equal e h k = exact a b e
      at Greater e h k = cc h

  -- the least of those at which the test holds
  record IsLeastWhere (test : K → Bool) (xs : List K) (c : K) : Type 0 where
    among : Contains xs c
    holds : IsTrue (test c)
    least : (y : K) → Contains xs y → IsTrue (test y) → is_gt (R c y) ≡ false

  not_above_itself : (x : K) → is_gt (R x x) ≡ false
  not_above_itself x = ap is_gt (tied_itself total x)

  least_where : (test : K → Bool) (xs : List K) →
      ((c : K) × IsLeastWhere test xs c) ⊎ ((y : K) → Contains xs y → IsTrue (test y) → ⊥)
  least_where test [] = inr (λ y h t. Contains-none y h)
  least_where test (x ∷ xs) = at (test x) refl (least_where test xs)
    where
      first : (c : K) → IsLeastWhere test xs c → IsTrue (test x) → is_gt (R x c) ≡ false → (d : K) × IsLeastWhere test (x ∷ xs) d
      first c l t le = (
        x,
        record {
          among = Contains-here x xs;
          holds = t;
          least = λ y h ty. elim (Contains-cases x xs y h) [
            | inl same ↦ subst (λ z. is_gt (R x z) ≡ false) same (not_above_itself x)
            | inr r ↦ upto total x c y le (l.least y r ty)
          ];
        },
      )

      two : (c : K) → IsLeastWhere test xs c → IsTrue (test x) → (o : Ordering) → R x c ≡ o → (d : K) × IsLeastWhere test (x ∷ xs) d
      two c l t Less e = first c l t (ap is_gt e)
      two c l t Equal e = first c l t (ap is_gt e)
      two c l t Greater e = (
        c,
        record {
          among = Contains-there x xs c l.among;
          holds = l.holds;
          least = λ y h ty. elim (Contains-cases x xs y h) [
            | inl same ↦ subst (λ z. is_gt (R c z) ≡ false) same (ap is_gt (total.antisymm c x ∙ ap ordering_reverse e))
            | inr r ↦ l.least y r ty
          ];
        },
      )

      at : (b : Bool) → test x ≡ b → ((c : K) × IsLeastWhere test xs c) ⊎ ((y : K) → Contains xs y → IsTrue (test y) → ⊥) →
          ((c : K) × IsLeastWhere test (x ∷ xs) c) ⊎ ((y : K) → Contains (x ∷ xs) y → IsTrue (test y) → ⊥)
      at true e (inl l) = inl (two l.0 l.1 e (R x l.0) refl)
      at true e (inr none) = inl (
        x,
        record {
          among = Contains-here x xs;
          holds = e;
          least = λ y h ty. elim (Contains-cases x xs y h) [
            | inl same ↦ subst (λ z. is_gt (R x z) ≡ false) same (not_above_itself x)
            | inr r ↦ absurd (none y r ty)
          ];
        },
      )
      at false e (inl l) = inl (
        l.0,
        record {
          among = Contains-there x xs l.0 l.1.among;
          holds = l.1.holds;
          least = λ y h ty. elim (Contains-cases x xs y h) [
            | inl same ↦ let yes : test x ≡ true = subst (λ z. test z ≡ true) (sym same) ty in cc (yes, e)
            | inr r ↦ l.1.least y r ty
          ];
        },
      )
      at false e (inr none) = inr (λ y h ty. elim (Contains-cases x xs y h) [
        | inl same ↦ let yes : test x ≡ true = subst (λ z. test z ≡ true) (sym same) ty in cc (yes, e)
        | inr r ↦ none y r ty
      ])

-- ---- at most one
one_from : (p : Parents) (c : EntityUid) (xs ys : List EntityUid) → IsLeastCycleFrom p c xs → IsLeastCycleFrom p c ys → xs ≡ ys
one_from p c xs ys h k =
    let le = h.shortest ys k.closed in
    let ge = k.shortest xs h.closed in
    same_place (slice_cmp uid_cmp) (lists_total uid_cmp-IsTotalOrder) (slice_cmp-IsAntisymmetric uid_cmp-IsAntisymmetric) xs ys
    (h.least ys k.closed (omega (arith, le, ge))) (k.least xs h.closed (omega (arith, le, ge)))

pub least_cycles_are_one : LeastCyclesAreOne
least_cycles_are_one p [] ys h k = absurd h
least_cycles_are_one p (c ∷ cs) [] h k = absurd k
least_cycles_are_one p (c ∷ cs) (d ∷ ds) h k =
    let same : c ≡ d = same_place uid_cmp uid_cmp-IsTotalOrder uid_cmp-IsAntisymmetric c d (h.first d (ds, k.closed)) (k.first c (cs, h.closed)) in
    let rest : cs ≡ ds = one_from p c cs ds h (subst (λ z. IsLeastCycleFrom p z ds) (sym same) k) in
    ap (λ z. z ∷ cs) same ∙ ap (λ zs. d ∷ zs) rest

-- ---- there is one
module _ (p : Parents) (end : EntityUid) where
  -- the least path of this length
  record IsLeastOfLength (n : ℕ) (b : EntityUid) (ws : List EntityUid) : Type 0 where
    path : Path p b ws end
    long : length ws ≡ n
    least : (ds : List EntityUid) → Path p b ds end → length ds ≡ n → is_gt (slice_cmp uid_cmp ws ds) ≡ false

  abbrev OfLength : ℕ → EntityUid → Type 0
  OfLength n b = ((ws : List EntityUid) × IsLeastOfLength n b ws) ⊎ ((ds : List EntityUid) → Path p b ds end → length ds ≡ n → ⊥)

  is_there : (n : ℕ) (b : EntityUid) → OfLength n b → Bool
  is_there n b (inl h) = true
  is_there n b (inr h) = false

  there : (n : ℕ) (b : EntityUid) (o : OfLength n b) → is_there n b o ≡ true → (ws : List EntityUid) × IsLeastOfLength n b ws
  unfolding is_there
  there n b (inl h) e = h
  there n b (inr h) e = cc e

  has : (n : ℕ) (b : EntityUid) (o : OfLength n b) (ds : List EntityUid) → Path p b ds end → length ds ≡ n → is_there n b o ≡ true
  unfolding is_there
  has n b (inl h) ds path long = refl
  has n b (inr h) ds path long = absurd (h ds path long)

  begin : (b : EntityUid) → Contains (p b) end ⊎ (Contains (p b) end → ⊥) → OfLength 0 b
  begin b (inl h) = inl ([], record { path = h; long = refl; least = none })
    where
      none : (ds : List EntityUid) → Path p b ds end → length ds ≡ 0 → is_gt (slice_cmp uid_cmp [] ds) ≡ false
      none [] path e = refl
      none (d ∷ ds) path e = absurd (omega arith)
  begin b (inr no_edge) = inr none
    where
      none : (ds : List EntityUid) → Path p b ds end → length ds ≡ 0 → ⊥
      none [] path e = no_edge path
      none (d ∷ ds) path e = absurd (omega arith)

  further : (n : ℕ) → ((c : EntityUid) → OfLength n c) → (b : EntityUid) → OfLength (suc n) b
  further n of b = at (least_where uid_cmp uid_cmp-IsTotalOrder (λ c. is_there n c (of c)) (p b))
    where
      none : ((y : EntityUid) → Contains (p b) y → is_there n y (of y) ≡ true → ⊥) → (ds : List EntityUid) → Path p b ds end → length ds ≡ suc n → ⊥
      none no_one [] path e = absurd (omega arith)
      none no_one (d ∷ ds) path e = no_one d path.0 (has n d (of d) ds path.1 (omega (arith, e)))

      least : (c : EntityUid) → IsLeastWhere uid_cmp uid_cmp-IsTotalOrder (λ c. is_there n c (of c)) (p b) c → (ws : List EntityUid) → IsLeastOfLength n c ws →
          (ds : List EntityUid) → Path p b ds end → length ds ≡ suc n → is_gt (slice_cmp uid_cmp (c ∷ ws) ds) ≡ false
      least c l ws s [] path e = absurd (omega arith)
      least c l ws s (d ∷ ds) path e =
          let long : length ds ≡ n = omega (arith, e) in
          then_least c d ws ds (uid_cmp c d) refl (l.least d path.0 (has n d (of d) ds path.1 long))
          (λ same. s.least ds (subst (λ z. Path p z ds end) (sym same) path.1) long)

      at : ((c : EntityUid) × IsLeastWhere uid_cmp uid_cmp-IsTotalOrder (λ c. is_there n c (of c)) (p b) c)
          ⊎ ((y : EntityUid) → Contains (p b) y → is_there n y (of y) ≡ true → ⊥) → OfLength (suc n) b
      at (inl (c, l)) =
          let (ws, s) = there n c (of c) l.holds in
          let long = s.long in
          inl (c ∷ ws, record { path = (l.among, s.path); long = omega (arith, long); least = least c l ws s })
      at (inr no_one) = inr (none no_one)

  of_length : (n : ℕ) (b : EntityUid) → OfLength n b
  of_length zero b = begin b (among (p b) end)
  of_length (suc n) b = further n (of_length n) b

  -- the least of the shortest
  record IsLeastShortest (b : EntityUid) (ws : List EntityUid) : Type 0 where
    least : IsLeastOfLength (length ws) b ws
    shortest : (ds : List EntityUid) → Path p b ds end → length ds < length ws → ⊥

  first_below : (b : EntityUid) (n : ℕ) →
      ((ws : List EntityUid) × IsLeastShortest b ws) ⊎ ((ds : List EntityUid) → Path p b ds end → length ds < n → ⊥)
  first_below b zero = inr (λ ds path lt. absurd (omega arith))
  first_below b (suc n) = elim (first_below b n) [
    | inl h ↦ inl h
    | inr none ↦ elim (of_length n b) [
      | inl h ↦ inl (
        h.0,
        record {
          least = subst (λ m. IsLeastOfLength m b h.0) (sym h.1.long) h.1;
          shortest = λ ds path lt. let long = h.1.long in none ds path (omega (arith, lt, long));
        },
      )
      | inr no_one ↦ inr (λ ds path lt. elim (cases_lt (length ds) n) [
        | inl below ↦ none ds path below
        | inr above ↦ no_one ds path (omega (arith, lt, above))
      ])
    ]
  ]

  least_shortest : (b : EntityUid) (ds : List EntityUid) → Path p b ds end → (ws : List EntityUid) × IsLeastShortest b ws
  least_shortest b ds path = elim (first_below b (suc (length ds))) [
    | inl h ↦ h
    | inr none ↦ absurd (none ds path (omega arith))
  ]

on_cycle_is_stored : (p : Parents) (stored : List EntityUid) → HaveAllParents p stored → (x : EntityUid) → IsOnCycle p x → Contains stored x
on_cycle_is_stored p stored all x ([], h) = all x x h
on_cycle_is_stored p stored all x ((c ∷ cs), h) = all x c h.0

pub cycles_have_a_least : CyclesHaveALeast
cycles_have_a_least p stored all x on =
    elim (least_where uid_cmp uid_cmp-IsTotalOrder (λ u. reaches p stored u u) stored) [
      | inl (c, l) ↦
          let back = (decided p stored all c c).0 l.holds in
          let (ws, s) = least_shortest p c c back.0 back.1 in (
            c ∷ ws,
            record {
              closed = s.least.path;
              first = λ y h. l.least y (on_cycle_is_stored p stored all y h) ((decided p stored all y y).1 h);
              shortest = λ ds path. elim (cases_lt (length ds) (length ws)) [ inl below ↦ absurd (s.shortest ds path below) | inr above ↦ omega (arith, above) ];
              least = s.least.least;
            },
          )
      | inr none ↦ absurd (none x (on_cycle_is_stored p stored all x on) ((decided p stored all x x).1 on))
    ]
