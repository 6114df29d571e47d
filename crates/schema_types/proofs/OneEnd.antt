-- A type stands for one type at most, and one that leads back to itself for none.
use Rattle.std.proofs.Common.{◌≡◌, ◌∙◌, inl, inr, ℕ, zero, suc, ◌≤◌, max, List, refl, ap, arith, subst}
use Rattle.schema_types.specs.Qualified as qualified
use Rattle.schema_types.specs.Qualified.{Qualified, QualifiedFields}
use Rattle.schema_types.specs.Cedar as cedar
use Rattle.schema_types.specs.Cedar.{Cedar, CedarFields}
use Rattle.schema_types.specs.Expansions as written
use Rattle.schema_types.specs.Expansions.{Declarations, Declares, IsExpansion, AreFieldExpansions}
use Rattle.schema_types.specs.Mentions.{Mentions, FieldsMention, Leads, step, steps}
use Rattle.schema_types.specs.Law.{AreOnce, OneWritten, CyclesHaveNoExpansion}

mutual
  one : (commons : Declarations) → AreOnce commons → (r : Qualified) (t u : Cedar) → IsExpansion commons r t → IsExpansion commons r u → t ≡ u
  one commons once _ _ _ written.text written.text = refl
  one commons once _ _ _ written.long written.long = refl
  one commons once _ _ _ written.boolean written.boolean = refl
  one commons once _ _ _ written.decimal written.decimal = refl
  one commons once _ _ _ written.ipaddr written.ipaddr = refl
  one commons once _ _ _ (written.set r t w) (written.set _ u x) = ap cedar.set (one commons once r t u w x)
  one commons once _ _ _ (written.record_of rs ts w) (written.record_of _ us x) = ap cedar.record_of (one_fields commons once rs ts us w x)
  one commons once _ _ _ (written.entity n) (written.entity _) = refl
  one commons once _ _ _ (written.common q r t d w) (written.common _ s u e x) = one commons once r t u w (subst (λ y. IsExpansion commons y u) (once q s r e d) x)

  one_fields : (commons : Declarations) → AreOnce commons → (rs : QualifiedFields) (ts us : CedarFields) → AreFieldExpansions commons rs ts → AreFieldExpansions commons rs us → ts ≡ us
  one_fields commons once _ _ _ written.no_fields written.no_fields = refl
  one_fields commons once _ _ _ (written.field k r t b rs ts w ws) (written.field _ _ u _ _ us x xs) =
      let a : t ≡ u = one commons once r t u w x in
      let c : ts ≡ us = one_fields commons once rs ts us ws xs in
      ap (λ y. cedar.field k y b ts) a ∙ ap (λ y. cedar.field k u b y) c

pub one_written : OneWritten
one_written = one

-- how many steps a derivation has, one upon another
mutual
  height : (commons : Declarations) (r : Qualified) (t : Cedar) → IsExpansion commons r t → ℕ
  height commons _ _ written.text = 0
  height commons _ _ written.long = 0
  height commons _ _ written.boolean = 0
  height commons _ _ written.decimal = 0
  height commons _ _ written.ipaddr = 0
  height commons _ _ (written.set r t w) = height commons r t w
  height commons _ _ (written.record_of rs ts w) = heights commons rs ts w
  height commons _ _ (written.entity n) = 0
  height commons _ _ (written.common q r t d w) = suc (height commons r t w)

  heights : (commons : Declarations) (rs : QualifiedFields) (ts : CedarFields) → AreFieldExpansions commons rs ts → ℕ
  heights commons _ _ written.no_fields = 0
  heights commons _ _ (written.field k r t b rs ts w ws) = max (height commons r t w) (heights commons rs ts ws)

-- a derivation for q, no higher than n
abbrev Below : Declarations → List ℕ → ℕ → Type 0
Below commons q n = (u : Cedar) × (y : IsExpansion commons (qualified.common q) u) × (height commons (qualified.common q) u y ≤ n)

mutual
  unfolding height

  inside : (commons : Declarations) (q : List ℕ) (r : Qualified) (t : Cedar) (w : IsExpansion commons r t) → Mentions r q → Below commons q (height commons r t w)
  inside commons q _ _ written.text m = absurd m
  inside commons q _ _ written.long m = absurd m
  inside commons q _ _ written.boolean m = absurd m
  inside commons q _ _ written.decimal m = absurd m
  inside commons q _ _ written.ipaddr m = absurd m
  inside commons q _ _ (written.set r t w) m = inside commons q r t w m
  inside commons q _ _ (written.record_of rs ts w) m = inside_fields commons q rs ts w m
  inside commons q _ _ (written.entity n) m = absurd m
  inside commons q _ _ (written.common p r t d w) m =
      subst (λ x. Below commons x (suc (height commons r t w))) m (t, written.common p r t d w, omega arith)

  inside_fields : (commons : Declarations) (q : List ℕ) (rs : QualifiedFields) (ts : CedarFields) (w : AreFieldExpansions commons rs ts) → FieldsMention rs q → Below commons q (heights commons rs ts w)
  inside_fields commons q _ _ written.no_fields m = absurd m
  inside_fields commons q _ _ (written.field k r t b rs ts w ws) (inl m) = let i = inside commons q r t w m in (i.0, i.1, omega (arith, i.2))
  inside_fields commons q _ _ (written.field k r t b rs ts w ws) (inr m) = let i = inside_fields commons q rs ts ws m in (i.0, i.1, omega (arith, i.2))

-- one step leads to a lower derivation
lower : (commons : Declarations) → AreOnce commons → (p q : List ℕ) (r : Qualified) → Declares commons p r → Mentions r q → (n : ℕ) → Below commons p (suc n) → Below commons q n
unfolding height
lower commons once p q r d m n (t, written.common _ s _ e w, le) =
    let i = inside commons q s t w (subst (λ y. Mentions y q) (once p r s d e) m) in (i.0, i.1, omega (arith, i.2, le))

none_at_0 : (commons : Declarations) (p : List ℕ) → Below commons p 0 → ⊥
unfolding height
none_at_0 commons p (t, written.common _ s _ e w, le) = absurd (omega (arith, le))

-- a way leads to a lower derivation
along : (commons : Declarations) → AreOnce commons → (p q : List ℕ) (n : ℕ) → Leads commons p q → Below commons p (suc n) → Below commons q n
along commons once p q n (step _ _ r d m) b = lower commons once p q r d m n b
along commons once p q n (steps _ x _ r d m l) b = let i = lower commons once p x r d m n b in along commons once x q n l (i.0, i.1, omega (arith, i.2))

has_no_expansion : (commons : Declarations) → AreOnce commons → (q : List ℕ) → Leads commons q q → (n : ℕ) → Below commons q n → ⊥
has_no_expansion commons once q l zero b = none_at_0 commons q b
has_no_expansion commons once q l (suc n) b = has_no_expansion commons once q l n (along commons once q q n l b)

pub cycles_have_no_expansion : CyclesHaveNoExpansion
cycles_have_no_expansion commons once q l t w = has_no_expansion commons once q l (height commons (qualified.common q) t w) (t, w, omega arith)
