-- Tests that compute tell what they stand for.
use Rattle.std.specs.Prelude.{◌≡◌, ◌⊎◌, ◌↔◌, ℤ, pos, neg_ℤ, ◌≤ℤ◌, ◌<ℤ◌, int_lt, int_le, List, [], ◌∷◌, Bool, true}
use Rattle.std.specs.Prelude.{false, not, ◌||◌, if◌then◌else◌, IsTrue, Contains, FitsSigned, Ok, Err, refl}
use Rattle.std.proofs.Common.{inl, inr, arith, sym, subst}
use Rattle.std.proofs.lemmas.Bool.{false≢true, and_from, and_parts, cases_Bool}
use Rattle.std.proofs.lemmas.Int.{ints}
use Rattle.std.specs.Int.{w64}
use Rattle.std.specs.List.{list_any, list_all}
use Rattle.std.specs.Ordering.{is_eq}
use Rattle.values.specs.extensions.Decided.{Decided, is_proved}
use Rattle.values.specs.extensions.declared.ip_net.Version.{Version}
use Rattle.values.specs.extensions.declared.ip_net.Version.TheVariants.{V4, V6}
use Rattle.values.specs.declared.entity_uid.EntityUid.{EntityUid}
use Rattle.values.specs.Names.{uid_cmp, uid_cmp-IsTotalOrder, uid_cmp-IsAntisymmetric}
use Rattle.values.specs.Uids.{equal-is}
use Rattle.values.specs.Values.{PlainValue, long}
use Rattle.values.specs.ValueOrder.{value_cmp, value_cmp-IsTotalOrder, value_cmp-IsAntisymmetric}
use Rattle.plain.proofs.Members.{Contains-here, Contains-there, Contains-cases, Contains-none}
use Rattle.ancestor_search.specs.Decided.{Decides}
use Rattle.evaluator.specs.declared.fault.EvalFault.TheVariants.{ArithBoundsError}
use Rattle.evaluator.specs.Outcomes.{EvaluationResult, IsTruthOf, holds, fails, IsChecked, fits, overflows}
use Rattle.ancestor_search.specs.Hierarchy.{IsIn}
use Rattle.evaluator.specs.Operators.{Entities}
use Rattle.evaluator.specs.inner.Computing.{decided_entities, truth, is_bounded, bounded, is_in, is_v4}

pub told_iff : {P : Type 0} (d : Decided P) → IsTrue (is_proved d) ↔ P
told_iff (inl p) = ((λ t. p), (λ p. refl))
told_iff (inr n) = ((λ t. absurd (false≢true t)), (λ p. absurd (n p)))

pub tells_test : {P : Type 0} (b : Bool) → (IsTrue b ↔ P) → IsTruthOf P (truth b)
tells_test true i = holds (i.0 refl)
tells_test false i = fails (λ p. false≢true (i.1 p))

pub test_is : {P : Type 0} (b : Bool) → (IsTrue b ↔ P) → (r : EvaluationResult) → IsTruthOf P r → truth b ≡ r
test_is true i _ (holds p) = refl
test_is true i _ (fails n) = absurd (n (i.0 refl))
test_is false i _ (holds p) = absurd (false≢true (i.1 p))
test_is false i _ (fails n) = refl

pub int_lt_iff : (x y : ℤ) → IsTrue (int_lt x y) ↔ (x <ℤ y)
int_lt_iff x y = ((λ h. omega (arith, ints)), (λ h. elim (cases_Bool (int_lt x y)) [ inl e ↦ e | inr n ↦ absurd (omega (arith, ints)) ]))

pub int_le_iff : (x y : ℤ) → IsTrue (int_le x y) ↔ (x ≤ℤ y)
int_le_iff x y = ((λ h. omega (arith, ints)), (λ h. elim (cases_Bool (int_le x y)) [ inl e ↦ e | inr n ↦ absurd (omega (arith, ints)) ]))

pub bounded_iff : (z : ℤ) → IsTrue (is_bounded z) ↔ FitsSigned w64 z
bounded_iff z = (there, back)
  where
    there : IsTrue (is_bounded z) → FitsSigned w64 z
    there h = let parts = and_parts (int_le (neg_ℤ (pos 9223372036854775808)) z) (int_lt z (pos 9223372036854775808)) h in omega (arith, ints, parts.0, parts.1)

    back : FitsSigned w64 z → IsTrue (is_bounded z)
    back f = and_from (int_le (neg_ℤ (pos 9223372036854775808)) z) (int_lt z (pos 9223372036854775808)) ((int_le_iff (neg_ℤ (pos 9223372036854775808)) z).1 (omega (arith, ints, f))) ((int_lt_iff z (pos 9223372036854775808)).1 (omega (arith, ints, f)))

comes_test : (z : ℤ) (b : Bool) → (IsTrue b ↔ FitsSigned w64 z) → IsChecked z (if b then Ok (long z) else Err ArithBoundsError)
comes_test z true i = fits (i.0 refl)
comes_test z false i = overflows (λ p. false≢true (i.1 p))

pub comes_bounded : (z : ℤ) → IsChecked z (bounded z)
comes_bounded z = comes_test z (is_bounded z) (bounded_iff z)

pub value_eq_iff : (v w : PlainValue) → IsTrue (is_eq (value_cmp v w)) ↔ (v ≡ w)
value_eq_iff = equal-is value_cmp-IsTotalOrder value_cmp-IsAntisymmetric

pub v4_iff : (v : Version) → IsTrue (is_v4 v) ↔ (v ≡ V4)
v4_iff V4 = ((λ h. refl), (λ h. refl))
v4_iff V6 = ((λ h. absurd (false≢true h)), (λ h. absurd (cc)))

pub v6_iff : (v : Version) → IsTrue (not (is_v4 v)) ↔ (v ≡ V6)
v6_iff V4 = ((λ h. absurd (false≢true h)), (λ h. absurd (cc)))
v6_iff V6 = ((λ h. refl), (λ h. refl))

or_parts : (x y : Bool) → IsTrue (x || y) → IsTrue x ⊎ IsTrue y
or_parts true y h = inl refl
or_parts false y h = inr h

or_left : (x y : Bool) → IsTrue x → IsTrue (x || y)
or_left true y h = refl
or_left false y h = absurd (false≢true h)

or_right : (x y : Bool) → IsTrue y → IsTrue (x || y)
or_right true y h = refl
or_right false y h = h

pub either_iff : {P Q : Type 0} (x y : Bool) → (IsTrue x ↔ P) → (IsTrue y ↔ Q) → IsTrue (x || y) ↔ (P ⊎ Q)
either_iff x y i j = (
  (λ h. elim (or_parts x y h) [ inl l ↦ inl (i.0 l) | inr r ↦ inr (j.0 r) ]),
  (λ h. elim h [ inl p ↦ or_left x y (i.1 p) | inr q ↦ or_right x y (j.1 q) ]),
)

module _ {X : Type 0} (p : X → Bool) (P : X → Type 0) (i : (x : X) → IsTrue (p x) ↔ P x) where
  any_there : (x : X) (xs : List X) → (IsTrue (list_any p xs) → (y : X) × Contains xs y × P y) → IsTrue (list_any p (x ∷ xs)) → (y : X) × Contains (x ∷ xs) y × P y
  any_there x xs further h = elim (or_parts (p x) (list_any p xs) h) [
    | inl l ↦ (x, Contains-here x xs, (i x).0 l)
    | inr r ↦ let more = further r in (more.0, Contains-there x xs more.0 more.1, more.2)
  ]

  any_back : (x : X) (xs : List X) → (((y : X) × Contains xs y × P y) → IsTrue (list_any p xs)) → ((y : X) × Contains (x ∷ xs) y × P y) → IsTrue (list_any p (x ∷ xs))
  any_back x xs further (y, c, q) = elim (Contains-cases x xs y c) [
    | inl e ↦ or_left (p x) (list_any p xs) ((i x).1 (subst P (sym e) q))
    | inr m ↦ or_right (p x) (list_any p xs) (further (y, m, q))
  ]

  pub any_iff : (xs : List X) → IsTrue (list_any p xs) ↔ ((x : X) × Contains xs x × P x)
  any_iff [] = ((λ h. absurd (false≢true h)), (λ h. absurd (Contains-none h.0 h.1)))
  any_iff (x ∷ xs) = (any_there x xs (any_iff xs).0, any_back x xs (any_iff xs).1)

  all_there : (x : X) (xs : List X) → (IsTrue (list_all p xs) → (y : X) → Contains xs y → P y) → IsTrue (list_all p (x ∷ xs)) → (y : X) → Contains (x ∷ xs) y → P y
  all_there x xs further h y c =
      let parts = and_parts (p x) (list_all p xs) h in
      elim (Contains-cases x xs y c) [ inl e ↦ subst P e ((i x).0 parts.0) | inr m ↦ further parts.1 y m ]

  pub all_iff : (xs : List X) → IsTrue (list_all p xs) ↔ ((x : X) → Contains xs x → P x)
  all_iff [] = ((λ h x c. Contains-none x c), (λ h. refl))
  all_iff (x ∷ xs) = (
    all_there x xs (all_iff xs).0,
    (λ h. and_from (p x) (list_all p xs) ((i x).1 (h x (Contains-here x xs))) ((all_iff xs).1 (λ y c. h y (Contains-there x xs y c)))),
  )

-- being in, where a test decides who is above whom
pub is_in_iff : (W : Entities) (ancestor_test : EntityUid → EntityUid → Bool) → Decides W.parents ancestor_test → (a b : EntityUid) → IsTrue (is_in (decided_entities W.stored ancestor_test) a b) ↔ IsIn W.parents a b
is_in_iff W ancestor_test d a b = either_iff (is_eq (uid_cmp a b)) (ancestor_test b a) (equal-is uid_cmp-IsTotalOrder uid_cmp-IsAntisymmetric a b) (d b a)

pub bounded_is : (z : ℤ) (r : EvaluationResult) → IsChecked z r → bounded z ≡ r
bounded_is z r h = by (is_bounded z) (bounded_iff z) r h
  where
    by : (b : Bool) → (IsTrue b ↔ FitsSigned w64 z) → (r : EvaluationResult) → IsChecked z r → (if b then Ok (long z) else Err ArithBoundsError) ≡ r
    by true i _ (fits f) = refl
    by true i _ (overflows n) = absurd (n (i.0 refl))
    by false i _ (fits f) = absurd (false≢true (i.1 f))
    by false i _ (overflows n) = refl
