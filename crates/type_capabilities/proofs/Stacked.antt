-- Stacks of pairs, changed at their tops.
use Rattle.std.proofs.Common.{◌≡◌, ◌≤◌, ◌<◌, ◌+◌, ◌⊎◌, Result, Ok, Err, get_or, append_assoc, ℕ, zero, suc, List, [], ◌∷◌, ◌++◌, length, take, Contains, Option, Some, None, Bool, true, false, refl, sym, subst, ap, ◌∙◌, inl, inr, arith}
use Rattle.std.specs.Prelude.{cond, IsTrue, ◌↔◌, OnErr}
use Rattle.std.specs.Option.{option_map}
use Rattle.std.proofs.lemmas.Option.{slice_get-map}
use Rattle.std.proofs.lemmas.List.{map-append, length-map, append-nil, take_more, take_all}
use Rattle.std.specs.List.{slice_get}
use Rattle.std.specs.Ordering.{is_eq}
use Rattle.std.specs.BTreeMap.{BTreeMap, Updates}
use Rattle.std.proofs.lemmas.Bool.{cases_Bool, false≢true}
use Rattle.plain.proofs.Members.{Contains-here, Contains-there, Contains-cases, Contains-none}
use Rattle.values.specs.Uids.{equal-is}
use Rattle.type_capabilities.specs.CapabilityList.{CapabilityValue, capability_of, capabilities, capability_cmp, borrowed_cmp, capability_cmp-IsTotalOrder, capability_cmp-IsAntisymmetric}
use Rattle.type_capabilities.specs.Stacks.{place_of, AreFound}
use Rattle.type_capabilities.specs.declared.capability.Capability.{Capability}

-- ---- items by their places

no_item : {A G : Type 0} {a : A} → None ≡ Some a → G
no_item e = absurd (cc)

some_same : {A : Type 0} {a b : A} → Some a ≡ Some b → a ≡ b
some_same e = cc

pub stays : (ps rs : List CapabilityValue) (i : ℕ) (q : CapabilityValue) → slice_get ps i ≡ Some q → slice_get (ps ++ rs) i ≡ Some q
stays [] rs i q e = no_item e
stays (p ∷ ps) rs zero q e = e
stays (p ∷ ps) rs (suc i) q e = stays ps rs i q e

pub on_top : (ps : List CapabilityValue) (p : CapabilityValue) → slice_get (ps ++ p ∷ []) (length ps) ≡ Some p
on_top [] p = refl
on_top (q ∷ ps) p = on_top ps p

pub below_or_top : (ps : List CapabilityValue) (p : CapabilityValue) (i : ℕ) (q : CapabilityValue) → slice_get (ps ++ p ∷ []) i ≡ Some q
    → (slice_get ps i ≡ Some q) ⊎ ((i ≡ length ps) × (q ≡ p))
below_or_top [] p zero q e = inr (refl, sym (some_same e))
below_or_top [] p (suc i) q e = no_item e
below_or_top (r ∷ ps) p zero q e = inl e
below_or_top (r ∷ ps) p (suc i) q e = elim (below_or_top ps p i q e) [
  | inl h ↦ inl h
  | inr h ↦ inr (ap suc h.0, h.1)
]

pub within : (ps : List CapabilityValue) (i : ℕ) (q : CapabilityValue) → slice_get ps i ≡ Some q → suc i ≤ length ps
within [] i q e = no_item e
within (p ∷ ps) zero q e = omega arith
within (p ∷ ps) (suc i) q e = omega (arith, within ps i q e)

pub below : (h : ℕ) (ps : List CapabilityValue) (i : ℕ) (q : CapabilityValue) → slice_get (take h ps) i ≡ Some q
    → (suc i ≤ h) × (slice_get ps i ≡ Some q)
below zero ps i q e = no_item e
below (suc h) [] i q e = no_item e
below (suc h) (p ∷ ps) zero q e = (omega arith, e)
below (suc h) (p ∷ ps) (suc i) q e =
    let g = below h ps i q e in
    (omega (arith, g.0), g.1)

pub kept : (h : ℕ) (ps : List CapabilityValue) (i : ℕ) (q : CapabilityValue) → suc i ≤ h → slice_get ps i ≡ Some q
    → slice_get (take h ps) i ≡ Some q
kept zero ps i q lt e = absurd (omega (arith, lt))
kept (suc h) [] i q lt e = no_item e
kept (suc h) (p ∷ ps) zero q lt e = e
kept (suc h) (p ∷ ps) (suc i) q lt e = kept h ps i q (omega (arith, lt)) e

pub stands : (ps : List CapabilityValue) (i : ℕ) (q : CapabilityValue) → slice_get ps i ≡ Some q → Contains ps q
stands [] i q e = no_item e
stands (p ∷ ps) zero q e = subst (λ r. Contains (p ∷ ps) r) (some_same e) (Contains-here p ps)
stands (p ∷ ps) (suc i) q e = Contains-there p ps q (stands ps i q e)

pub somewhere : (ps : List CapabilityValue) (q : CapabilityValue) → Contains ps q → (i : ℕ) × (slice_get ps i ≡ Some q)
somewhere [] q c = Contains-none q c
somewhere (p ∷ ps) q c = elim (Contains-cases p ps q c) [
  | inl e ↦ (zero, ap Some e)
  | inr h ↦ (let g = somewhere ps q h in (suc g.0, g.1))
]

-- ---- pairs that compare as equal

pub tied : (p : CapabilityValue) → is_eq (capability_cmp p p) ≡ true
tied p = (equal-is capability_cmp-IsTotalOrder capability_cmp-IsAntisymmetric p p).1 refl

pub apart : (p q : CapabilityValue) → ¬ (p ≡ q) → is_eq (capability_cmp p q) ≡ false
apart p q n = elim (cases_Bool (is_eq (capability_cmp p q))) [
  | inl e ↦ absurd (n ((equal-is capability_cmp-IsTotalOrder capability_cmp-IsAntisymmetric p q).0 e))
  | inr e ↦ e
]

-- what is noted, after the place of a pair was
pub noted_so : (m n : BTreeMap Capability ℕ) (k : Capability) (w : Option ℕ) → Updates borrowed_cmp m n k w → (p : CapabilityValue)
    → place_of n p ≡ cond (is_eq (capability_cmp (capability_of k) p)) w (place_of m p)
noted_so m n k w u p =
    u.0 (record { whole = record { ref_ptr = (0, 0); now = p.0 }; name = record { ref_ptr = (0, 0); now = p.1 } })

-- ---- stacks

module _ (ps : List CapabilityValue) (at : CapabilityValue → Option ℕ) where
  pub found_put_again : (p : CapabilityValue) → AreFound ps at → Contains ps p → AreFound (ps ++ p ∷ []) at
  found_put_again p f c i q e = elim (below_or_top ps p i q e) [
    | inl h ↦ (let g = f i q h in record { place = g.place; noted = g.noted; low = g.low; there = stays ps (p ∷ []) g.place q g.there })
    | inr h ↦ (
        let s = somewhere ps p c in
        let g = f s.0 p s.1 in
        let lt = within ps s.0 p s.1 in
        let same : p ≡ q = sym h.1 in
        record {
          place = g.place;
          noted = ap at h.1 ∙ g.noted;
          low = omega (arith, g.low, lt, h.0);
          there = stays ps (p ∷ []) g.place p g.there ∙ ap Some same;
        })
  ]

  module _ (after : CapabilityValue → Option ℕ) (p : CapabilityValue) (n : ¬ Contains ps p)
      (so : (q : CapabilityValue) → after q ≡ cond (is_eq (capability_cmp p q)) (Some (length ps)) (at q)) where
    as_before : (i : ℕ) (q : CapabilityValue) → slice_get ps i ≡ Some q → after q ≡ at q
    as_before i q e =
        so q ∙ ap (λ b. cond b (Some (length ps)) (at q)) (apart p q (λ s. n (subst (λ r. Contains ps r) (sym s) (stands ps i q e))))

    pub found_noted : AreFound ps at → AreFound ps after
    found_noted f i q e =
        let g = f i q e in
        record { place = g.place; noted = as_before i q e ∙ g.noted; low = g.low; there = g.there }

    pub found_put : AreFound ps at → AreFound (ps ++ p ∷ []) after
    found_put f i q e = elim (below_or_top ps p i q e) [
      | inl h ↦ (
          let g = f i q h in
          record { place = g.place; noted = as_before i q h ∙ g.noted; low = g.low; there = stays ps (p ∷ []) g.place q g.there })
      | inr h ↦ record {
        place = length ps;
        noted = ap after h.1 ∙ (so p ∙ ap (λ b. cond b (Some (length ps)) (at p)) (tied p));
        low = omega (arith, h.0);
        there = on_top ps p ∙ ap Some (sym h.1);
      }
    ]

  pub found_below : (h : ℕ) → AreFound ps at → AreFound (take h ps) at
  found_below h f i q e =
      let b = below h ps i q e in
      let g = f i q b.1 in
      record { place = g.place; noted = g.noted; low = g.low; there = kept h ps g.place q (omega (arith, b.0, g.low)) g.there }

  -- what is noted of a pair that stands somewhere
  pub noted_of : (p : CapabilityValue) → AreFound ps at → Contains ps p → (j : ℕ) × (at p ≡ Some j) × (slice_get ps j ≡ Some p)
  noted_of p f c =
      let s = somewhere ps p c in
      let g = f s.0 p s.1 in
      (g.place, g.noted, g.there)

-- whether a pair stands below a height, by what is noted of it
pub below_so : (h : ℕ) (ps : List CapabilityValue) (at : CapabilityValue → Option ℕ) (p : CapabilityValue) (j : ℕ) → at p ≡ Some j
    → (suc j ≤ h) × (slice_get ps j ≡ Some p) → Contains (take h ps) p
below_so h ps at p j e g = stands (take h ps) j p (kept h ps j p g.0 g.1)

pub noted_low : (h : ℕ) (ps : List CapabilityValue) (at : CapabilityValue → Option ℕ) (p : CapabilityValue) → AreFound ps at
    → Contains (take h ps) p → (j : ℕ) × (at p ≡ Some j) × (suc j ≤ h) × (slice_get ps j ≡ Some p)
noted_low h ps at p f c =
    let s = somewhere (take h ps) p c in
    let b = below h ps s.0 p s.1 in
    let g = f s.0 p b.1 in
    (g.place, g.noted, omega (arith, b.0, g.low), g.there)

pub taken_more : (h : ℕ) (ps : List CapabilityValue) (p : CapabilityValue) → slice_get ps h ≡ Some p → take (suc h) ps ≡ take h ps ++ p ∷ []
taken_more h [] p e = no_item e
taken_more zero (q ∷ ps) p e = ap (λ r. r ∷ []) (some_same e)
taken_more (suc h) (q ∷ ps) p e = ap (λ qs. q ∷ qs) (taken_more h ps p e)

-- ---- what code finds

pub at_value : (ps : List Capability) (i : ℕ) (f : Capability) → slice_get ps i ≡ Some f → slice_get (capabilities ps) i ≡ Some (capability_of f)
at_value ps i f e = slice_get-map capability_of ps i ∙ ap (option_map capability_of) e

pub stands_so : (ps : List Capability) (i : ℕ) (f : Capability) (p : CapabilityValue) (r : Bool) → slice_get ps i ≡ Some f
    → (IsTrue r ↔ (capability_of f ≡ p)) → (IsTrue r ↔ (slice_get (capabilities ps) i ≡ Some p))
stands_so ps i f p r e h = (
  λ t. at_value ps i f e ∙ ap Some (h.0 t),
  λ s. h.1 (some_same (sym (at_value ps i f e) ∙ s)),
)

pub stands_nowhere : (ps : List Capability) (i : ℕ) (p : CapabilityValue) → slice_get ps i ≡ None
    → (IsTrue false ↔ (slice_get (capabilities ps) i ≡ Some p))
stands_nowhere ps i p e = (
  λ t. absurd (false≢true t),
  λ s. no_item (sym (slice_get-map capability_of ps i ∙ ap (option_map capability_of) e) ∙ s),
)

module _ (h : ℕ) (ps : List CapabilityValue) (at : CapabilityValue → Option ℕ) (p : CapabilityValue) where
  pub below_iff : (j : ℕ) (r : Bool) → at p ≡ Some j → (IsTrue r ↔ ((suc j ≤ h) × (slice_get ps j ≡ Some p))) → AreFound ps at
      → (IsTrue r ↔ Contains (take h ps) p)
  below_iff j r e i f = (
    λ t. below_so h ps at p j e (i.0 t),
    λ c. (
        let g = noted_low h ps at p f c in
        let same : g.0 ≡ j = some_same (sym g.1 ∙ e) in
        i.1 (subst (λ k. (suc k ≤ h) × (slice_get ps k ≡ Some p)) same (g.2, g.3))),
  )

  pub below_none : at p ≡ None → AreFound ps at → (IsTrue false ↔ Contains (take h ps) p)
  below_none e f = (
    λ t. absurd (false≢true t),
    λ c. no_item (sym e ∙ (noted_low h ps at p f c).1),
  )

pub found_as : (ps : List CapabilityValue) (at after : CapabilityValue → Option ℕ) → AreFound ps at → ((p : CapabilityValue) → after p ≡ at p)
    → AreFound ps after
found_as ps at after f so i q e =
    let g = f i q e in
    record { place = g.place; noted = so q ∙ g.noted; low = g.low; there = g.there }

pub taken_all : (ps : List CapabilityValue) → take (length ps) ps ≡ ps
taken_all [] = refl
taken_all (p ∷ ps) = ap (λ qs. p ∷ qs) (taken_all ps)

pub one_behind : (ps : List Capability) (p : Capability) → capabilities (ps ++ p ∷ []) ≡ capabilities ps ++ capability_of p ∷ []
one_behind ps p = map-append capability_of ps (p ∷ [])

-- ---- what was taken away

pub taken_pairs : (h : ℕ) (items : List Capability) → capabilities (take h items) ≡ take h (capabilities items)
taken_pairs zero items = refl
taken_pairs (suc h) [] = refl
taken_pairs (suc h) (p ∷ items) = ap (λ ps. capability_of p ∷ ps) (taken_pairs h items)

taken_length : (h : ℕ) (items : List Capability) → h ≤ length items → length (take h items) ≡ h
taken_length zero items le = refl
taken_length (suc h) [] le = absurd (omega (arith, le))
taken_length (suc h) (p ∷ items) le = ap suc (taken_length h items (omega (arith, le)))

taken_twice : (h : ℕ) (ps : List CapabilityValue) → take h (take h ps) ≡ take h ps
taken_twice zero ps = refl
taken_twice (suc h) [] = refl
taken_twice (suc h) (p ∷ ps) = ap (λ qs. p ∷ qs) (taken_twice h ps)

whole_taken : (n : ℕ) (ps : List CapabilityValue) → length ps ≡ n → take n ps ≡ ps
whole_taken n ps e = ap (λ m. take m ps) (sym e) ∙ taken_all ps

module _ (h : ℕ) (items after : List Capability) (v : List CapabilityValue) (le : h ≤ length items) (seen : take h (capabilities items) ≡ v) where
  -- nothing is put behind what is left
  pub left : after ≡ take h items → (h ≤ length after) × (take h (capabilities after) ≡ v)
  left e = (
    (let l = ap length e ∙ taken_length h items le in omega (arith, l)),
    ap (λ xs. take h (capabilities xs)) e ∙ (ap (take h) (taken_pairs h items) ∙ (taken_twice h (capabilities items) ∙ seen)),
  )

  -- one is
  pub put_behind : (p : Capability) → after ≡ take h items ++ p ∷ [] → (suc h ≤ length after) × (take (suc h) (capabilities after) ≡ v ++ capability_of p ∷ [])
  put_behind p e =
      let apart : capabilities after ≡ take h (capabilities items) ++ capability_of p ∷ [] =
      ap capabilities e ∙ (one_behind (take h items) p ∙ ap (λ ps. ps ++ capability_of p ∷ []) (taken_pairs h items)) in
      let long : length after ≡ suc h = ap length e ∙ (longer (take h items) p ∙ ap suc (taken_length h items le)) in (
        omega (arith, long),
        whole_taken (suc h) (capabilities after) (length-map after capability_of ∙ long) ∙ (apart ∙ ap (λ ps. ps ++ capability_of p ∷ []) seen),
      )
    where
      longer : (xs : List Capability) (x : Capability) → length (xs ++ x ∷ []) ≡ suc (length xs)
      longer [] x = refl
      longer (y ∷ xs) x = ap suc (longer xs x)

pub plus_one : (h : ℕ) → h + 1 ≡ suc h
plus_one h = omega arith

pub on_err : {A B : Type 0} {P : Type 0} (r : Result A B) → P → OnErr r P
on_err (Ok u) h = tt
on_err (Err e) h = h

-- ---- several are put

pub none_put : (K : List CapabilityValue) (ps : List Capability) → K ≡ K ++ capabilities (take 0 ps)
none_put K ps = sym (append-nil K)

pub one_put : (K L M : List CapabilityValue) (ps : List Capability) (i : ℕ) (x : Capability) → i < length ps → x ≡ get_or ps i x
    → L ≡ K ++ capabilities (take i ps) → M ≡ L ++ capability_of x ∷ [] → M ≡ K ++ capabilities (take (i + 1) ps)
one_put K L M ps i x lt e l m =
    let more = take_more ps i x lt ∙ ap (λ y. take i ps ++ y ∷ []) (sym e) in
    m ∙ (ap (λ N. N ++ capability_of x ∷ []) l ∙ (append_assoc K (capabilities (take i ps)) (capability_of x ∷ [])
    ∙ ap (λ N. K ++ N) (sym (ap capabilities more ∙ one_behind (take i ps) x))))

pub all_put : (K L : List CapabilityValue) (ps : List Capability) (i : ℕ) → length ps ≤ i → L ≡ K ++ capabilities (take i ps) → L ≡ K ++ capabilities ps
all_put K L ps i le l = l ∙ ap (λ qs. K ++ capabilities qs) (take_all i ps le)
