-- The functions that resolve names agree with their relations.
use Rattle.std.proofs.Common.{◌≡◌, ◌∙◌, ℕ, zero, suc, List, [], ◌∷◌, map, Bool, true, false, cond, Option, Some, None, Result, refl, sym, ap, subst, inl, inr, arith, Ordering, Less, Equal, Greater}
use Prim.Native.Char.{code}
use Rattle.std.specs.Prelude.{◌⊎◌, ◌==◌, Contains, codes}
use Rattle.std.specs.List.{list_any, AllZip}
use Rattle.std.specs.Ordering.{is_eq}
use Rattle.std.specs.Cmp.{tied_itself}
use Rattle.std.specs.Str.{bytes_eq}
use Rattle.std.proofs.lemmas.Bool.{eqb-true}
use Rattle.std.proofs.lemmas.List.Folds.{list_any-append}
use Rattle.json_words.specs.ReadsAs.{◌>>=◌, or_fault}
use Rattle.values.specs.declared.entity_uid.EntityUid.{EntityUid}
use Rattle.values.specs.Names.{uid_cmp, uid_cmp-IsTotalOrder, uid_cmp-IsAntisymmetric}
use Rattle.schema_types.specs.Raw as raw
use Rattle.schema_types.specs.Raw.{Raw, RawFields}
use Rattle.schema_types.specs.Qualified as qualified_type
use Rattle.schema_types.specs.Qualified.{Qualified, QualifiedFields}
use Rattle.schema_types.specs.Names.{Scope, is_qualified, full_name, as_declared, found, built_in, any_named, entity_named, common_named, qualified_of, fields_of}
use Rattle.schema_types.specs.Actions.{action_type, action_uid, declared_action, first_of, action_of_type}
use Rattle.schema_types.specs.declared.fault.SchemaFault.{SchemaFault}
use Rattle.schema_types.specs.declared.fault.SchemaFault.TheVariants.{UnknownName}
use Rattle.schema_reading.specs.FileForm.{EntityTypeOf, AppliesToOf, ActionOf, NamespaceOf}
use Rattle.schema_reading.specs.declared.stated.StatedParent.{StatedParent}
use Rattle.schema_reading.specs.Qualifying.{all_of, CommonOf, common_in, scope_in, is_action_in, ResolvedEntityType, ResolvedAppliesTo, ResolvedAction, ResolvedSchema, entity_type_named, entity_types_named, type_named, action_meant_at, action_meant, parent_named, parents_named, qualified_common, qualified_entity_type, qualified_use, applies_to_named, qualified_action, qualified_commons, qualified_entity_types, qualified_actions, qualified_namespace, qualified_namespaces, together, qualified}
use Rattle.schema.specs.NamesResolved.{IsCommon, IsEntityType, IsAction, HasNamespace, Means, MeansNone, MeansAction, IsPrimitive, MeansEither, ResolvesType, ResolvesFields, HasUnknown, SomeFieldHasUnknown, BothOrNeither, ResolvesCommon, ResolvesEntityType, ResolvesAppliesTo, ResolvesAction, ResolvesNamespace, ResolvesFile, AppliesToHasUnknown, EntityTypeHasUnknown, ActionHasUnknown, NamespaceHasUnknown, FileHasUnknown}
use Rattle.schema.specs.NamesResolved as says
use Rattle.schema.specs.Laws.{NamesAreResolved, NamesHaveOneOutcome}
use Rattle.schema.proofs.Steps.{done, failed, some_is, none_some, true_false, untrue, same_bytes, bytes_same}
use Rattle.schema.proofs.KeysRead.{either, or_left, or_right}
use Rattle.schema.proofs.Agree.{Agrees, agreeing_gives, agreeing_has_one, said_as, in_a_row, finish, two_steps, three_steps, each_agrees}

-- ---- tests of lists

abbrev Passing : {A : Type 0} → (A → Bool) → List A → Type 0
Passing {A = A} p xs = (x : A) × Contains xs x × (p x ≡ true)

passing : {A : Type 0} (p : A → Bool) (xs : List A) → list_any p xs ≡ true → Passing p xs
passing p [] e = absurd cc
passing p (x ∷ xs) e = elim (either (p x) (list_any p xs) e) [
  | inl y ↦ (x, (zero, omega arith, refl), y)
  | inr n ↦ let h = passing p xs n in (h.0, (suc h.1.0, omega (arith, h.1.1), h.1.2), h.2)
]

passes : {A : Type 0} (p : A → Bool) (xs : List A) (x : A) → Contains xs x → p x ≡ true → list_any p xs ≡ true
passes p [] x (k, lt, e) h = absurd (omega arith)
passes p (y ∷ xs) x (zero, lt, e) h = or_left (p y) (list_any p xs) (ap p e ∙ h)
passes p (y ∷ xs) x (suc k, lt, e) h = or_right (p y) (list_any p xs) (passes p xs x (k, omega arith, e) h)

passing_mapped : {A B : Type 0} (p : B → Bool) (g : A → B) (xs : List A) → list_any p (map g xs) ≡ true → Passing (λ x. p (g x)) xs
passing_mapped p g [] e = absurd cc
passing_mapped p g (x ∷ xs) e = elim (either (p (g x)) (list_any p (map g xs)) e) [
  | inl y ↦ (x, (zero, omega arith, refl), y)
  | inr n ↦ let h = passing_mapped p g xs n in (h.0, (suc h.1.0, omega (arith, h.1.1), h.1.2), h.2)
]

mapped_passes : {A B : Type 0} (p : B → Bool) (g : A → B) (xs : List A) (x : A) → Contains xs x → p (g x) ≡ true → list_any p (map g xs) ≡ true
mapped_passes p g [] x (k, lt, e) h = absurd (omega arith)
mapped_passes p g (y ∷ xs) x (zero, lt, e) h = or_left (p (g y)) (list_any p (map g xs)) (ap (λ z. p (g z)) e ∙ h)
mapped_passes p g (y ∷ xs) x (suc k, lt, e) h = or_right (p (g y)) (list_any p (map g xs)) (mapped_passes p g xs x (k, omega arith, e) h)

passing_among : {A B : Type 0} (p : B → Bool) (f : A → List B) (xs : List A) → list_any p (all_of f xs) ≡ true → Passing (λ x. list_any p (f x)) xs
passing_among p f [] e = absurd cc
passing_among p f (x ∷ xs) e = elim (either (list_any p (f x)) (list_any p (all_of f xs)) (sym (list_any-append p (f x) (all_of f xs)) ∙ e)) [
  | inl y ↦ (x, (zero, omega arith, refl), y)
  | inr n ↦ let h = passing_among p f xs n in (h.0, (suc h.1.0, omega (arith, h.1.1), h.1.2), h.2)
]

among_passes : {A B : Type 0} (p : B → Bool) (f : A → List B) (xs : List A) (x : A) → Contains xs x → list_any p (f x) ≡ true → list_any p (all_of f xs) ≡ true
among_passes p f [] x (k, lt, e) h = absurd (omega arith)
among_passes p f (y ∷ xs) x (zero, lt, e) h =
    list_any-append p (f y) (all_of f xs) ∙ or_left (list_any p (f y)) (list_any p (all_of f xs)) (ap (λ z. list_any p (f z)) e ∙ h)
among_passes p f (y ∷ xs) x (suc k, lt, e) h =
    list_any-append p (f y) (all_of f xs) ∙ or_right (list_any p (f y)) (list_any p (all_of f xs)) (among_passes p f xs x (k, omega arith, e) h)

-- ---- declarations

abbrev Tests : {A : Type 0} → (A → Bool) → (A → Type 0) → Type 0
Tests {A = A} test P = (x : A) → ((test x ≡ true) → P x) × (P x → test x ≡ true)

commons_told : (ns : List NamespaceOf) → Tests (scope_in ns).commons (IsCommon ns)
commons_told ns q = (
  λ e. let h = passing_among (λ (c : CommonOf). bytes_eq c.name q) (λ (n : NamespaceOf). map (λ (c : List ℕ × Raw). common_in n.name c) n.commons) ns e in
      let g = passing_mapped (λ (c : CommonOf). bytes_eq c.name q) (λ (c : List ℕ × Raw). common_in h.0.name c) h.0.commons h.2 in
      (h.0, h.1, (g.0, g.1, bytes_same (full_name h.0.name g.0.0) q g.2)),
  λ (n, stands, c).
      among_passes (λ (c : CommonOf). bytes_eq c.name q) (λ (n : NamespaceOf). map (λ (c : List ℕ × Raw). common_in n.name c) n.commons) ns n stands
      (mapped_passes (λ (c : CommonOf). bytes_eq c.name q) (λ (c : List ℕ × Raw). common_in n.name c) n.commons c.0 c.1 (same_bytes (full_name n.name c.0.0) q c.2)),
)

entity_types_told : (ns : List NamespaceOf) → Tests (scope_in ns).entities (IsEntityType ns)
entity_types_told ns q = (
  λ e. let h = passing_among (λ (x : List ℕ). bytes_eq x q) (λ (n : NamespaceOf). map (λ (x : EntityTypeOf). full_name n.name x.name) n.entity_types) ns e in
      let g = passing_mapped (λ (x : List ℕ). bytes_eq x q) (λ (x : EntityTypeOf). full_name h.0.name x.name) h.0.entity_types h.2 in
      (h.0, h.1, (g.0, g.1, bytes_same (full_name h.0.name g.0.name) q g.2)),
  λ (n, stands, c).
      among_passes (λ (x : List ℕ). bytes_eq x q) (λ (n : NamespaceOf). map (λ (x : EntityTypeOf). full_name n.name x.name) n.entity_types) ns n stands
      (mapped_passes (λ (x : List ℕ). bytes_eq x q) (λ (x : EntityTypeOf). full_name n.name x.name) n.entity_types c.0 c.1 (same_bytes (full_name n.name c.0.name) q c.2)),
)

equal_of : (o : Ordering) → is_eq o ≡ true → o ≡ Equal
equal_of Less h = absurd cc
equal_of Equal h = refl
equal_of Greater h = absurd cc

same_uid : (u v : EntityUid) → is_eq (uid_cmp u v) ≡ true → u ≡ v
same_uid u v e = uid_cmp-IsAntisymmetric u v (equal_of (uid_cmp u v) e)

uid_same : (u v : EntityUid) → u ≡ v → is_eq (uid_cmp u v) ≡ true
uid_same u v e = ap (λ z. is_eq (uid_cmp z v)) e ∙ ap is_eq (tied_itself uid_cmp-IsTotalOrder v)

abbrev uid_in : NamespaceOf → ActionOf → EntityUid
uid_in n a = action_uid (action_type n.name) a.id

actions_told : (ns : List NamespaceOf) → Tests (is_action_in ns) (IsAction ns)
actions_told ns u = (
  λ e. let h = passing_among (λ (v : EntityUid). is_eq (uid_cmp v u)) (λ (n : NamespaceOf). map (λ (a : ActionOf). uid_in n a) n.actions) ns e in
      let g = passing_mapped (λ (v : EntityUid). is_eq (uid_cmp v u)) (λ (a : ActionOf). uid_in h.0 a) h.0.actions h.2 in
      (h.0, h.1, (g.0, g.1, same_uid (uid_in h.0 g.0) u g.2)),
  λ (n, stands, c).
      among_passes (λ (v : EntityUid). is_eq (uid_cmp v u)) (λ (n : NamespaceOf). map (λ (a : ActionOf). uid_in n a) n.actions) ns n stands
      (mapped_passes (λ (v : EntityUid). is_eq (uid_cmp v u)) (λ (a : ActionOf). uid_in n a) n.actions c.0 c.1 (uid_same (uid_in n c.0) u c.2)),
)

-- ---- names

eqb_same : (c d : ℕ) → c ≡ d → (c == d) ≡ true
eqb_same c d e = grind (arith, e)

qualified_is : (w : List ℕ) → is_qualified w ≡ true → HasNamespace w
qualified_is w e = let h = passing (λ (b : ℕ). b == code ":") w e in subst (λ z. Contains w z) (eqb-true h.0 (code ":") h.2) h.1

is_qualified_by : (w : List ℕ) → HasNamespace w → is_qualified w ≡ true
is_qualified_by w h = passes (λ (b : ℕ). b == code ":") w (code ":") h refl

unqualified_is : (w : List ℕ) → is_qualified w ≡ false → HasNamespace w → ⊥
unqualified_is w e h = true_false (is_qualified w) (is_qualified_by w h) e

is_unqualified : (w : List ℕ) → (HasNamespace w → ⊥) → is_qualified w ≡ false
is_unqualified w none = untrue (is_qualified w) (λ e. none (qualified_is w e))

module _ (test : List ℕ → Bool) (P : List ℕ → Type 0) (told : Tests test P) (own : Option (List ℕ)) (w : List ℕ) where
  failing : (q : List ℕ) → test q ≡ false → P q → ⊥
  failing q e h = true_false (test q) ((told q).1 h) e

  is_failing : (q : List ℕ) → (P q → ⊥) → test q ≡ false
  is_failing q none = untrue (test q) (λ e. none ((told q).0 e))

  is_found : (q : List ℕ) → Means P own w q → found test own w ≡ Some q
  unfolding found as_declared
  is_found q (says.whole many h) = rw (is_qualified_by w many, (told w).1 h) refl
  is_found q (says.in_own one h) = rw (is_unqualified w one, (told (full_name own w)).1 h) refl
  is_found q (says.in_empty one none h) = rw (is_unqualified w one, is_failing (full_name own w) none, (told w).1 h) refl

  abbrev MeaningKnown : Type 0
  MeaningKnown = ((q : List ℕ) × Means P own w q) ⊎ ((q : List ℕ) → Means P own w q → ⊥)

  whole_none : is_qualified w ≡ true → test w ≡ false → (q : List ℕ) → Means P own w q → ⊥
  whole_none many bad q (says.whole h is) = failing w bad is
  whole_none many bad q (says.in_own one is) = one (qualified_is w many)
  whole_none many bad q (says.in_empty one none is) = one (qualified_is w many)

  part_none : is_qualified w ≡ false → test (full_name own w) ≡ false → test w ≡ false → (q : List ℕ) → Means P own w q → ⊥
  part_none few bad worse q (says.whole h is) = unqualified_is w few h
  part_none few bad worse q (says.in_own one is) = failing (full_name own w) bad is
  part_none few bad worse q (says.in_empty one none is) = failing w worse is

  meaning_by : (a b c : Bool) → is_qualified w ≡ a → test (full_name own w) ≡ b → test w ≡ c → MeaningKnown
  meaning_by true b true many own_is is = inl (w, says.whole (qualified_is w many) ((told w).0 is))
  meaning_by true b false many own_is is = inr (whole_none many is)
  meaning_by false true c many own_is is = inl (full_name own w, says.in_own (unqualified_is w many) ((told (full_name own w)).0 own_is))
  meaning_by false false true many own_is is = inl (w, says.in_empty (unqualified_is w many) (failing (full_name own w) own_is) ((told w).0 is))
  meaning_by false false false many own_is is = inr (part_none many own_is is)

  pub meaning_known : MeaningKnown
  meaning_known = meaning_by (is_qualified w) (test (full_name own w)) (test w) refl refl refl

  whole_lost : is_qualified w ≡ true → test w ≡ false → found test own w ≡ None
  unfolding found as_declared
  whole_lost many bad = rw (many, bad) refl

  part_lost : is_qualified w ≡ false → test (full_name own w) ≡ false → test w ≡ false → found test own w ≡ None
  unfolding found as_declared
  part_lost few bad worse = rw (few, bad, worse) refl

  lost_by : (a b c : Bool) → is_qualified w ≡ a → test (full_name own w) ≡ b → test w ≡ c → ((q : List ℕ) → Means P own w q → ⊥) → found test own w ≡ None
  lost_by true b true many own_is is none = absurd (none w (says.whole (qualified_is w many) ((told w).0 is)))
  lost_by true b false many own_is is none = whole_lost many is
  lost_by false true c many own_is is none = absurd (none (full_name own w) (says.in_own (unqualified_is w many) ((told (full_name own w)).0 own_is)))
  lost_by false false true many own_is is none = absurd (none w (says.in_empty (unqualified_is w many) (failing (full_name own w) own_is) ((told w).0 is)))
  lost_by false false false many own_is is none = part_lost many own_is is

  pub is_lost : ((q : List ℕ) → Means P own w q → ⊥) → found test own w ≡ None
  is_lost none = lost_by (is_qualified w) (test (full_name own w)) (test w) refl refl refl none

  pub means_agrees : Agrees UnknownName (or_fault UnknownName (found test own w)) (Means P own w) (MeansNone P own w)
  means_agrees = record {
    states = λ q h. ap (or_fault UnknownName) (is_found q h);
    fails = λ none. ap (or_fault UnknownName) (is_lost none);
    known = meaning_known;
  }

-- ---- actions

declared_is : (test : EntityUid → Bool) (t id : List ℕ) (u : EntityUid) → test (action_uid t id) ≡ true → action_uid t id ≡ u → declared_action test t id ≡ Some u
declared_is test t id u is same = rw is (ap (λ (x : EntityUid). Some x) same)

undeclared_is : (test : EntityUid → Bool) (t id : List ℕ) → test (action_uid t id) ≡ false → declared_action test t id ≡ None
undeclared_is test t id bad = rw bad refl

-- the type of an action, found as other names are
typed_found : (test : EntityUid → Bool) (own : Option (List ℕ)) (w id : List ℕ) (q : List ℕ) → found (λ t. test (action_uid t id)) own w ≡ Some q → action_of_type test own w id ≡ Some (action_uid q id)
unfolding found as_declared action_of_type
typed_found test own w id q e = typed_by (is_qualified w) (test (action_uid (full_name own w) id)) (test (action_uid w id)) e
  where
    typed_by : (a b c : Bool) → cond a (cond c (Some w) None) (cond b (Some (full_name own w)) (cond c (Some w) None)) ≡ Some q
        → cond a (cond c (Some (action_uid w id)) None) (first_of (cond b (Some (action_uid (full_name own w) id)) None) (cond c (Some (action_uid w id)) None)) ≡ Some (action_uid q id)
    typed_by true b true e = ap (λ (z : List ℕ). Some (action_uid z id)) (some_is w q e)
    typed_by true b false e = absurd cc
    typed_by false true c e = ap (λ (z : List ℕ). Some (action_uid z id)) (some_is (full_name own w) q e)
    typed_by false false true e = ap (λ (z : List ℕ). Some (action_uid z id)) (some_is w q e)
    typed_by false false false e = absurd cc

typed_lost : (test : EntityUid → Bool) (own : Option (List ℕ)) (w id : List ℕ) → found (λ t. test (action_uid t id)) own w ≡ None → action_of_type test own w id ≡ None
unfolding found as_declared action_of_type
typed_lost test own w id e = lost_type (is_qualified w) (test (action_uid (full_name own w) id)) (test (action_uid w id)) e
  where
    lost_type : (a b c : Bool) → cond a (cond c (Some w) None) (cond b (Some (full_name own w)) (cond c (Some w) None)) ≡ None
        → cond a (cond c (Some (action_uid w id)) None) (first_of (cond b (Some (action_uid (full_name own w) id)) None) (cond c (Some (action_uid w id)) None)) ≡ None
    lost_type true b true e = absurd cc
    lost_type true b false e = refl
    lost_type false true c e = absurd cc
    lost_type false false true e = absurd cc
    lost_type false false false e = refl

module _ (ns : List NamespaceOf) (own : Option (List ℕ)) where
  abbrev ActionTyped : List ℕ → List ℕ → Type 0
  ActionTyped id t = IsAction ns (action_uid t id)

  typed_told : (id : List ℕ) → Tests (λ t. is_action_in ns (action_uid t id)) (ActionTyped id)
  typed_told id t = actions_told ns (action_uid t id)

  abbrev NoAction : StatedParent → Type 0
  NoAction p = (u : EntityUid) → MeansAction ns own p u → ⊥

  abbrev meant : Option (List ℕ) → List ℕ → Option EntityUid
  meant o id = action_meant_at (is_action_in ns) own o id

  action_is : (p : StatedParent) (u : EntityUid) → MeansAction ns own p u → action_meant (is_action_in ns) own p ≡ Some u
  action_is p u (says.untyped e is) =
      ap (λ (o : Option (List ℕ)). meant o p.id) e
      ∙ declared_is (is_action_in ns) (action_type own) p.id (action_uid (action_type own) p.id) ((actions_told ns (action_uid (action_type own) p.id)).1 is) refl
  action_is p u (says.typed w t e h) =
      ap (λ (o : Option (List ℕ)). meant o p.id) e
      ∙ typed_found (is_action_in ns) own w p.id t (is_found (λ (x : List ℕ). is_action_in ns (action_uid x p.id)) (ActionTyped p.id) (typed_told p.id) own w t h)

  abbrev ActionKnown : StatedParent → Type 0
  ActionKnown p = ((u : EntityUid) × MeansAction ns own p u) ⊎ NoAction p

  untyped_none : (p : StatedParent) → p.type_name ≡ None → (IsAction ns (action_uid (action_type own) p.id) → ⊥) → NoAction p
  untyped_none p e none u (says.untyped g is) = none is
  untyped_none p e none u (says.typed w t g h) = none_some w p.type_name e g

  typed_none : (p : StatedParent) (w : List ℕ) → p.type_name ≡ Some w → MeansNone (ActionTyped p.id) own w → NoAction p
  typed_none p w e none u (says.untyped g is) = none_some w p.type_name g e
  typed_none p w e none u (says.typed v t g h) = none t (subst (λ (z : List ℕ). Means (ActionTyped p.id) own z t) (some_is v w (sym g ∙ e)) h)

  untyped_by : (p : StatedParent) → p.type_name ≡ None → (b : Bool) → is_action_in ns (action_uid (action_type own) p.id) ≡ b
      → (ActionKnown p) × (NoAction p → action_meant (is_action_in ns) own p ≡ None)
  untyped_by p e true is =
      let h : MeansAction ns own p (action_uid (action_type own) p.id) = says.untyped e ((actions_told ns (action_uid (action_type own) p.id)).0 is) in
      (inl (action_uid (action_type own) p.id, h), λ none. absurd (none (action_uid (action_type own) p.id) h))
  untyped_by p e false is = (
    inr (untyped_none p e (λ h. true_false (is_action_in ns (action_uid (action_type own) p.id)) ((actions_told ns (action_uid (action_type own) p.id)).1 h) is)),
    λ none. ap (λ (o : Option (List ℕ)). meant o p.id) e ∙ undeclared_is (is_action_in ns) (action_type own) p.id is,
  )

  typed_known : (p : StatedParent) (w : List ℕ) → p.type_name ≡ Some w → ((t : List ℕ) × Means (ActionTyped p.id) own w t) ⊎ MeansNone (ActionTyped p.id) own w
      → (ActionKnown p) × (NoAction p → action_meant (is_action_in ns) own p ≡ None)
  typed_known p w e (inl h) = (inl (action_uid h.0 p.id, says.typed w h.0 e h.1), λ none. absurd (none (action_uid h.0 p.id) (says.typed w h.0 e h.1)))
  typed_known p w e (inr none) = (
    inr (typed_none p w e none),
    λ lost. ap (λ (o : Option (List ℕ)). meant o p.id) e
        ∙ typed_lost (is_action_in ns) own w p.id (is_lost (λ (x : List ℕ). is_action_in ns (action_uid x p.id)) (ActionTyped p.id) (typed_told p.id) own w none),
  )

  action_by : (p : StatedParent) (o : Option (List ℕ)) → p.type_name ≡ o → (ActionKnown p) × (NoAction p → action_meant (is_action_in ns) own p ≡ None)
  action_by p None e = untyped_by p e (is_action_in ns (action_uid (action_type own) p.id)) refl
  action_by p (Some w) e = typed_known p w e (meaning_known (λ (x : List ℕ). is_action_in ns (action_uid x p.id)) (ActionTyped p.id) (typed_told p.id) own w)

  parent_agrees : (p : StatedParent) → Agrees UnknownName (parent_named (is_action_in ns) own p) (MeansAction ns own p) (NoAction p)
  unfolding parent_named
  parent_agrees p = record {
    states = λ u h. ap (or_fault UnknownName) (action_is p u h);
    fails = λ none. ap (or_fault UnknownName) ((action_by p p.type_name refl).1 none);
    known = (action_by p p.type_name refl).0;
  }

  -- ---- types

  abbrev Commons : List ℕ → Type 0
  Commons = IsCommon ns

  abbrev EntityTypes : List ℕ → Type 0
  EntityTypes = IsEntityType ns

  common_agrees : (w : List ℕ) → Agrees UnknownName (or_fault UnknownName (found (scope_in ns).commons own w)) (Means Commons own w) (MeansNone Commons own w)
  common_agrees w = means_agrees (scope_in ns).commons Commons (commons_told ns) own w

  entity_agrees : (w : List ℕ) → Agrees UnknownName (or_fault UnknownName (found (scope_in ns).entities own w)) (Means EntityTypes own w) (MeansNone EntityTypes own w)
  entity_agrees w = means_agrees (scope_in ns).entities EntityTypes (entity_types_told ns) own w

-- one step, and what is made of it
one_step : {A X F : Type 0} {w : F} {r : Result A F} {P : A → Type 0} {N : Type 0} (make : A → X) → Agrees w r P N
    → Agrees w (r >>= λ a. done (make a)) (λ x. (a : A) × P a × (make a ≡ x)) (N ⊎ ⊥)
one_step {w = w} {r = r} {P = P} {N = N} make one = in_a_row w r (λ a. done (make a)) P N (λ a x. make a ≡ x) ⊥ one (λ a p. finish w (make a))

pub built_in_is : (w : List ℕ) (t : Qualified) → IsPrimitive w t → built_in w ≡ Some t
unfolding built_in
built_in_is w t says.of_string = refl
built_in_is w t says.of_long = refl
built_in_is w t says.of_boolean = refl
built_in_is w t says.of_bool = refl
built_in_is w t says.of_ipaddr = refl
built_in_is w t says.of_decimal = refl

primitive_by : (w x : List ℕ) (t u : Qualified) (b : Bool) (rest : Option Qualified) → bytes_eq w x ≡ b → cond b (Some u) rest ≡ Some t → IsPrimitive x u → (rest ≡ Some t → IsPrimitive w t) → IsPrimitive w t
primitive_by w x t u true rest same e here later = subst (λ (z : List ℕ). IsPrimitive z t) (sym (bytes_same w x same)) (subst (λ (v : Qualified). IsPrimitive x v) (some_is u t e) here)
primitive_by w x t u false rest same e here later = later e

pub is_primitive : (w : List ℕ) (t : Qualified) → built_in w ≡ Some t → IsPrimitive w t
unfolding built_in
is_primitive w t e =
    primitive_by w (codes "String") t qualified_type.text (bytes_eq w (codes "String")) _ refl e says.of_string (λ e1.
    primitive_by w (codes "Long") t qualified_type.long (bytes_eq w (codes "Long")) _ refl e1 says.of_long (λ e2.
    primitive_by w (codes "Boolean") t qualified_type.boolean (bytes_eq w (codes "Boolean")) _ refl e2 says.of_boolean (λ e3.
    primitive_by w (codes "Bool") t qualified_type.boolean (bytes_eq w (codes "Bool")) _ refl e3 says.of_bool (λ e4.
    primitive_by w (codes "ipaddr") t qualified_type.ipaddr (bytes_eq w (codes "ipaddr")) _ refl e4 says.of_ipaddr (λ e5.
    primitive_by w (codes "decimal") t qualified_type.decimal (bytes_eq w (codes "decimal")) _ refl e5 says.of_decimal (λ e6. absurd cc))))))

module _ (ns : List NamespaceOf) (own : Option (List ℕ)) (w : List ℕ) where
  abbrev pub Common : List ℕ → Type 0
  Common q = Means (IsCommon ns) own w q

  abbrev pub Entity : List ℕ → Type 0
  Entity q = Means (IsEntityType ns) own w q

  pub common_found : (q : List ℕ) → Common q → found (scope_in ns).commons own w ≡ Some q
  common_found q h = is_found (scope_in ns).commons (IsCommon ns) (commons_told ns) own w q h

  pub common_lost : MeansNone (IsCommon ns) own w → found (scope_in ns).commons own w ≡ None
  common_lost none = is_lost (scope_in ns).commons (IsCommon ns) (commons_told ns) own w none

  pub entity_found : (q : List ℕ) → Entity q → found (scope_in ns).entities own w ≡ Some q
  entity_found q h = is_found (scope_in ns).entities (IsEntityType ns) (entity_types_told ns) own w q h

  pub entity_lost : MeansNone (IsEntityType ns) own w → found (scope_in ns).entities own w ≡ None
  entity_lost none = is_lost (scope_in ns).entities (IsEntityType ns) (entity_types_told ns) own w none

  pub common_known : ((q : List ℕ) × Common q) ⊎ MeansNone (IsCommon ns) own w
  common_known = meaning_known (scope_in ns).commons (IsCommon ns) (commons_told ns) own w

  pub entity_known : ((q : List ℕ) × Entity q) ⊎ MeansNone (IsEntityType ns) own w
  entity_known = meaning_known (scope_in ns).entities (IsEntityType ns) (entity_types_told ns) own w

  either_is : (t : Qualified) → MeansEither ns own w t → any_named (scope_in ns) own w ≡ Some t
  unfolding any_named
  either_is t (says.common q h) = rw (common_found q h) refl
  either_is t (says.entity q none h) = rw (common_lost none, entity_found q h) refl
  either_is t (says.primitive u none nor h) = rw (common_lost none, entity_lost nor, built_in_is w u h) refl

  abbrev NoEither : Type 0
  NoEither = (t : Qualified) → MeansEither ns own w t → ⊥

  abbrev EitherKnown : Type 0
  EitherKnown = ((t : Qualified) × MeansEither ns own w t) ⊎ NoEither

  no_either : MeansNone (IsCommon ns) own w → MeansNone (IsEntityType ns) own w → built_in w ≡ None → NoEither
  no_either none nor bad t (says.common q h) = none q h
  no_either none nor bad t (says.entity q m h) = nor q h
  no_either none nor bad t (says.primitive u m k h) = none_some u (built_in w) bad (built_in_is w u h)

  primitive_known : MeansNone (IsCommon ns) own w → MeansNone (IsEntityType ns) own w → (o : Option Qualified) → built_in w ≡ o → EitherKnown
  primitive_known none nor (Some t) e = inl (t, says.primitive t none nor (is_primitive w t e))
  primitive_known none nor None e = inr (no_either none nor e)

  either_known : EitherKnown
  either_known = elim common_known [
    | inl q ↦ inl (qualified_type.common q.0, says.common q.0 q.1)
    | inr none ↦ elim entity_known [
      | inl q ↦ inl (qualified_type.entity q.0, says.entity q.0 none q.1)
      | inr nor ↦ primitive_known none nor (built_in w) refl
    ]
  ]

  lost_either : MeansNone (IsCommon ns) own w → MeansNone (IsEntityType ns) own w → built_in w ≡ None → any_named (scope_in ns) own w ≡ None
  unfolding any_named
  lost_either none nor bad = rw (common_lost none, entity_lost nor, bad) refl

  no_primitive : NoEither → MeansNone (IsCommon ns) own w → MeansNone (IsEntityType ns) own w → (o : Option Qualified) → built_in w ≡ o → any_named (scope_in ns) own w ≡ None
  no_primitive never none nor (Some t) e = absurd (never t (says.primitive t none nor (is_primitive w t e)))
  no_primitive never none nor None e = lost_either none nor e

  either_lost : NoEither → any_named (scope_in ns) own w ≡ None
  either_lost never =
      let none : MeansNone (IsCommon ns) own w = λ q h. never (qualified_type.common q) (says.common q h) in
      let nor : MeansNone (IsEntityType ns) own w = λ q h. never (qualified_type.entity q) (says.entity q none h) in
      no_primitive never none nor (built_in w) refl

  either_agrees : Agrees UnknownName (or_fault UnknownName (any_named (scope_in ns) own w)) (MeansEither ns own w) NoEither
  either_agrees = record {
    states = λ t h. ap (or_fault UnknownName) (either_is t h);
    fails = λ never. ap (or_fault UnknownName) (either_lost never);
    known = either_known;
  }

module _ (ns : List NamespaceOf) (own : Option (List ℕ)) where
  abbrev Resolves : Raw → Qualified → Type 0
  Resolves = ResolvesType ns own

  abbrev Lacks : Raw → Type 0
  Lacks = HasUnknown ns own

  abbrev TypeAgrees : Raw → Type 0
  TypeAgrees r = Agrees UnknownName (qualified_of (scope_in ns) own r) (Resolves r) (Lacks r)

  abbrev FieldsAgree : RawFields → Type 0
  FieldsAgree rs = Agrees UnknownName (fields_of (scope_in ns) own rs) (ResolvesFields ns own rs) (SomeFieldHasUnknown ns own rs)

  -- leaves
  text_agrees : TypeAgrees raw.text
  unfolding qualified_of
  text_agrees = record { states = text_is; fails = text_has; known = inl (qualified_type.text, says.text) }
    where
      text_is : (t : Qualified) → Resolves raw.text t → done {F = SchemaFault} qualified_type.text ≡ done t
      text_is t says.text = refl

      text_has : Lacks raw.text → done qualified_type.text ≡ failed UnknownName
      text_has h = elim h [ ]

  long_agrees : TypeAgrees raw.long
  unfolding qualified_of
  long_agrees = record { states = long_is; fails = long_has; known = inl (qualified_type.long, says.long) }
    where
      long_is : (t : Qualified) → Resolves raw.long t → done {F = SchemaFault} qualified_type.long ≡ done t
      long_is t says.long = refl

      long_has : Lacks raw.long → done qualified_type.long ≡ failed UnknownName
      long_has h = elim h [ ]

  boolean_agrees : TypeAgrees raw.boolean
  unfolding qualified_of
  boolean_agrees = record { states = boolean_is; fails = boolean_has; known = inl (qualified_type.boolean, says.boolean) }
    where
      boolean_is : (t : Qualified) → Resolves raw.boolean t → done {F = SchemaFault} qualified_type.boolean ≡ done t
      boolean_is t says.boolean = refl

      boolean_has : Lacks raw.boolean → done qualified_type.boolean ≡ failed UnknownName
      boolean_has h = elim h [ ]

  decimal_agrees : TypeAgrees raw.decimal
  unfolding qualified_of
  decimal_agrees = record { states = decimal_is; fails = decimal_has; known = inl (qualified_type.decimal, says.decimal) }
    where
      decimal_is : (t : Qualified) → Resolves raw.decimal t → done {F = SchemaFault} qualified_type.decimal ≡ done t
      decimal_is t says.decimal = refl

      decimal_has : Lacks raw.decimal → done qualified_type.decimal ≡ failed UnknownName
      decimal_has h = elim h [ ]

  ipaddr_agrees : TypeAgrees raw.ipaddr
  unfolding qualified_of
  ipaddr_agrees = record { states = ipaddr_is; fails = ipaddr_has; known = inl (qualified_type.ipaddr, says.ipaddr) }
    where
      ipaddr_is : (t : Qualified) → Resolves raw.ipaddr t → done {F = SchemaFault} qualified_type.ipaddr ≡ done t
      ipaddr_is t says.ipaddr = refl

      ipaddr_has : Lacks raw.ipaddr → done qualified_type.ipaddr ≡ failed UnknownName
      ipaddr_has h = elim h [ ]

  -- sets
  abbrev SetSteps : Raw → Qualified → Type 0
  SetSteps r t = (x : Qualified) × Resolves r x × (qualified_type.set x ≡ t)

  set_to : (r : Raw) (t : Qualified) → SetSteps r t → Resolves (raw.set r) t
  set_to r t (x, h, e) = subst (Resolves (raw.set r)) e (says.set r x h)

  set_from : (r : Raw) (t : Qualified) → Resolves (raw.set r) t → SetSteps r t
  set_from r t (says.set s x h) = (x, h, refl)

  set_cause : (r : Raw) → Lacks r ⊎ ⊥ → Lacks (raw.set r)
  set_cause r (inl n) = says.in_set r n
  set_cause r (inr h) = absurd h

  cause_set : (r : Raw) → Lacks (raw.set r) → Lacks r ⊎ ⊥
  cause_set r (says.in_set s n) = inl n

  set_agrees : (r : Raw) → TypeAgrees r → TypeAgrees (raw.set r)
  unfolding qualified_of
  set_agrees r one = said_as (Resolves (raw.set r)) (Lacks (raw.set r)) (one_step qualified_type.set one) (set_to r) (set_from r) (set_cause r) (cause_set r)

  -- records
  abbrev RecordSteps : RawFields → Qualified → Type 0
  RecordSteps rs t = (ts : QualifiedFields) × ResolvesFields ns own rs ts × (qualified_type.record_of ts ≡ t)

  record_to : (rs : RawFields) (t : Qualified) → RecordSteps rs t → Resolves (raw.record_of rs) t
  record_to rs t (ts, h, e) = subst (Resolves (raw.record_of rs)) e (says.record_of rs ts h)

  record_from : (rs : RawFields) (t : Qualified) → Resolves (raw.record_of rs) t → RecordSteps rs t
  record_from rs t (says.record_of ss ts h) = (ts, h, refl)

  record_cause : (rs : RawFields) → SomeFieldHasUnknown ns own rs ⊎ ⊥ → Lacks (raw.record_of rs)
  record_cause rs (inl n) = says.in_record rs n
  record_cause rs (inr h) = absurd h

  cause_record : (rs : RawFields) → Lacks (raw.record_of rs) → SomeFieldHasUnknown ns own rs ⊎ ⊥
  cause_record rs (says.in_record ss n) = inl n

  record_agrees : (rs : RawFields) → FieldsAgree rs → TypeAgrees (raw.record_of rs)
  unfolding qualified_of
  record_agrees rs one =
      said_as (Resolves (raw.record_of rs)) (Lacks (raw.record_of rs)) (one_step qualified_type.record_of one) (record_to rs) (record_from rs) (record_cause rs) (cause_record rs)

  -- names
  entity_to : (w : List ℕ) (t : Qualified) → ((q : List ℕ) × Means (IsEntityType ns) own w q × (qualified_type.entity q ≡ t)) → Resolves (raw.entity w) t
  entity_to w t (q, h, e) = subst (Resolves (raw.entity w)) e (says.entity w q h)

  entity_from : (w : List ℕ) (t : Qualified) → Resolves (raw.entity w) t → (q : List ℕ) × Means (IsEntityType ns) own w q × (qualified_type.entity q ≡ t)
  entity_from w t (says.entity v q h) = (q, h, refl)

  entity_cause : (w : List ℕ) → MeansNone (IsEntityType ns) own w ⊎ ⊥ → Lacks (raw.entity w)
  entity_cause w (inl n) = says.no_entity w n
  entity_cause w (inr h) = absurd h

  cause_entity : (w : List ℕ) → Lacks (raw.entity w) → MeansNone (IsEntityType ns) own w ⊎ ⊥
  cause_entity w (says.no_entity v n) = inl n

  entity_type_agrees : (w : List ℕ) → TypeAgrees (raw.entity w)
  unfolding qualified_of entity_named
  entity_type_agrees w =
      said_as (Resolves (raw.entity w)) (Lacks (raw.entity w)) (one_step qualified_type.entity (entity_agrees ns own w)) (entity_to w) (entity_from w) (entity_cause w) (cause_entity w)

  common_to : (w : List ℕ) (t : Qualified) → ((q : List ℕ) × Means (IsCommon ns) own w q × (qualified_type.common q ≡ t)) → Resolves (raw.common w) t
  common_to w t (q, h, e) = subst (Resolves (raw.common w)) e (says.common w q h)

  common_from : (w : List ℕ) (t : Qualified) → Resolves (raw.common w) t → (q : List ℕ) × Means (IsCommon ns) own w q × (qualified_type.common q ≡ t)
  common_from w t (says.common v q h) = (q, h, refl)

  common_cause : (w : List ℕ) → MeansNone (IsCommon ns) own w ⊎ ⊥ → Lacks (raw.common w)
  common_cause w (inl n) = says.no_common w n
  common_cause w (inr h) = absurd h

  cause_common : (w : List ℕ) → Lacks (raw.common w) → MeansNone (IsCommon ns) own w ⊎ ⊥
  cause_common w (says.no_common v n) = inl n

  common_type_agrees : (w : List ℕ) → TypeAgrees (raw.common w)
  unfolding qualified_of common_named
  common_type_agrees w =
      said_as (Resolves (raw.common w)) (Lacks (raw.common w)) (one_step qualified_type.common (common_agrees ns own w)) (common_to w) (common_from w) (common_cause w) (cause_common w)

  either_to : (w : List ℕ) (t : Qualified) → MeansEither ns own w t → Resolves (raw.entity_or_common w) t
  either_to w t h = says.either w t h

  either_from : (w : List ℕ) (t : Qualified) → Resolves (raw.entity_or_common w) t → MeansEither ns own w t
  either_from w t (says.either v u h) = h

  neither_to : (w : List ℕ) → ((t : Qualified) → MeansEither ns own w t → ⊥) → Lacks (raw.entity_or_common w)
  neither_to w n = says.neither w n

  neither_from : (w : List ℕ) → Lacks (raw.entity_or_common w) → (t : Qualified) → MeansEither ns own w t → ⊥
  neither_from w (says.neither v n) = n

  either_type_agrees : (w : List ℕ) → TypeAgrees (raw.entity_or_common w)
  unfolding qualified_of
  either_type_agrees w = said_as (Resolves (raw.entity_or_common w)) (Lacks (raw.entity_or_common w)) (either_agrees ns own w) (either_to w) (either_from w) (neither_to w) (neither_from w)

  -- fields
  none_agree : FieldsAgree raw.no_fields
  unfolding qualified_of
  none_agree = record { states = none_is; fails = none_has; known = inl (qualified_type.no_fields, says.no_fields) }
    where
      none_is : (ts : QualifiedFields) → ResolvesFields ns own raw.no_fields ts → done {F = SchemaFault} qualified_type.no_fields ≡ done ts
      none_is ts says.no_fields = refl

      none_has : SomeFieldHasUnknown ns own raw.no_fields → done qualified_type.no_fields ≡ failed UnknownName
      none_has h = elim h [ ]

  module _ (k : List ℕ) (r : Raw) (b : Bool) (rs : RawFields) where
    abbrev FieldSteps : QualifiedFields → Type 0
    FieldSteps fs = (t : Qualified) × Resolves r t × ((ts : QualifiedFields) × ResolvesFields ns own rs ts × (qualified_type.field k t b ts ≡ fs))

    field_to : (fs : QualifiedFields) → FieldSteps fs → ResolvesFields ns own (raw.field k r b rs) fs
    field_to fs (t, h, (ts, hs, e)) = subst (ResolvesFields ns own (raw.field k r b rs)) e (says.field k r t b rs ts h hs)

    field_from : (fs : QualifiedFields) → ResolvesFields ns own (raw.field k r b rs) fs → FieldSteps fs
    field_from fs (says.field l s t c ss ts h hs) = (t, h, (ts, hs, refl))

    field_cause : Lacks r ⊎ (SomeFieldHasUnknown ns own rs ⊎ ⊥) → SomeFieldHasUnknown ns own (raw.field k r b rs)
    field_cause (inl n) = says.in_first k r b rs n
    field_cause (inr (inl n)) = says.in_later k r b rs n
    field_cause (inr (inr h)) = absurd h

    cause_field : SomeFieldHasUnknown ns own (raw.field k r b rs) → Lacks r ⊎ (SomeFieldHasUnknown ns own rs ⊎ ⊥)
    cause_field (says.in_first l s c ss n) = inl n
    cause_field (says.in_later l s c ss n) = inr (inl n)

    field_agrees : TypeAgrees r → FieldsAgree rs → FieldsAgree (raw.field k r b rs)
    unfolding qualified_of
    field_agrees one more =
        said_as (ResolvesFields ns own (raw.field k r b rs)) (SomeFieldHasUnknown ns own (raw.field k r b rs))
        (two_steps (λ (t : Qualified) (ts : QualifiedFields). qualified_type.field k t b ts) one more) field_to field_from field_cause cause_field

  mutual
    type_agrees : (r : Raw) → TypeAgrees r
    type_agrees raw.text = text_agrees
    type_agrees raw.long = long_agrees
    type_agrees raw.boolean = boolean_agrees
    type_agrees raw.decimal = decimal_agrees
    type_agrees raw.ipaddr = ipaddr_agrees
    type_agrees (raw.set r) = set_agrees r (type_agrees r)
    type_agrees (raw.record_of rs) = record_agrees rs (fields_agree rs)
    type_agrees (raw.entity w) = entity_type_agrees w
    type_agrees (raw.common w) = common_type_agrees w
    type_agrees (raw.entity_or_common w) = either_type_agrees w

    fields_agree : (rs : RawFields) → FieldsAgree rs
    fields_agree raw.no_fields = none_agree
    fields_agree (raw.field k r b rs) = field_agrees k r b rs (type_agrees r) (fields_agree rs)

-- ---- lists and options

module _ {A B F : Type 0} (w : F) (g : Option A → Result (Option B) F) (f : A → Result B F) (R : A → B → Type 0) (N : A → Type 0)
    (none : g None ≡ done None) (some : (a : A) → g (Some a) ≡ (f a >>= λ x. done (Some x))) (one : (a : A) → Agrees w (f a) (R a) (N a)) where
  abbrev SomeLacks : Option A → Type 0
  SomeLacks o = (a : A) × (o ≡ Some a) × N a

  none_states : (p : Option B) → BothOrNeither R None p → g None ≡ done p
  none_states p says.neither = none

  none_fails : SomeLacks None → g None ≡ failed w
  none_fails (a, e, n) = absurd cc

  some_states : (a : A) (p : Option B) → BothOrNeither R (Some a) p → g (Some a) ≡ done p
  some_states a p (says.both c b h) = some c ∙ ap (λ (r : Result B F). r >>= λ x. done (Some x)) ((one c).states b h)

  some_fails : (a : A) → SomeLacks (Some a) → g (Some a) ≡ failed w
  some_fails a (c, e, n) =
      some a ∙ ap (λ (r : Result B F). r >>= λ x. done (Some x)) ((one a).fails (subst N (sym (some_is a c e)) n))

  some_known : (a : A) → ((b : B) × R a b) ⊎ N a → ((p : Option B) × BothOrNeither R (Some a) p) ⊎ SomeLacks (Some a)
  some_known a (inl h) = inl (Some h.0, says.both a h.0 h.1)
  some_known a (inr n) = inr (a, refl, n)

  option_agrees : (o : Option A) → Agrees w (g o) (BothOrNeither R o) ((a : A) × (o ≡ Some a) × N a)
  option_agrees None = record { states = none_states; fails = none_fails; known = inl (None, says.neither) }
  option_agrees (Some a) = record { states = some_states a; fails = some_fails a; known = some_known a (one a).known }

-- ---- files

module _ (ns : List NamespaceOf) where
  abbrev scope : Scope
  scope = scope_in ns

  abbrev is_action : EntityUid → Bool
  is_action = is_action_in ns

  module _ (own : Option (List ℕ)) where
    abbrev Name : List ℕ → List ℕ → Type 0
    Name = Means (IsEntityType ns) own

    abbrev NoName : List ℕ → Type 0
    NoName = MeansNone (IsEntityType ns) own

    abbrev SomeName : List (List ℕ) → Type 0
    SomeName ws = (w : List ℕ) × Contains ws w × NoName w

    names_agree : (ws : List (List ℕ)) → Agrees UnknownName (entity_types_named scope own ws) (AllZip Name ws) (SomeName ws)
    unfolding entity_types_named
    names_agree ws = each_agrees UnknownName (λ i w. entity_type_named scope own w) Name NoName (λ i w. entity_agrees ns own w) 0 ws

    abbrev SomeType : Option Raw → Type 0
    SomeType o = (r : Raw) × (o ≡ Some r) × HasUnknown ns own r

    maybe_type_agrees : (o : Option Raw) → Agrees UnknownName (type_named scope own o) (BothOrNeither (ResolvesType ns own) o) (SomeType o)
    maybe_type_agrees o =
        option_agrees UnknownName (λ x. type_named scope own x) (qualified_of scope own) (ResolvesType ns own) (HasUnknown ns own) refl (λ r. refl) (type_agrees ns own) o

    -- common types
    module _ (c : List ℕ × Raw) where
      abbrev declared_made : Qualified → List ℕ × Qualified
      declared_made t = (full_name own c.0, t)

      abbrev CommonSteps : List ℕ × Qualified → Type 0
      CommonSteps d = (t : Qualified) × ResolvesType ns own c.1 t × (declared_made t ≡ d)

      declared_to : (d : List ℕ × Qualified) → CommonSteps d → ResolvesCommon ns own c d
      declared_to d (t, h, e) = subst (ResolvesCommon ns own c) e (record { name = refl; type = h })

      named_pair : (d : List ℕ × Qualified) → d.0 ≡ full_name own c.0 → declared_made d.1 ≡ d
      named_pair d e = ap (λ (l : List ℕ). (let x : List ℕ × Qualified = (l, d.1) in x)) (sym e)

      declared_from : (d : List ℕ × Qualified) → ResolvesCommon ns own c d → CommonSteps d
      declared_from d h = (d.1, h.type, named_pair d h.name)

      declared_cause : HasUnknown ns own c.1 ⊎ ⊥ → HasUnknown ns own c.1
      declared_cause (inl n) = n
      declared_cause (inr h) = absurd h

      declared_agrees : Agrees UnknownName (qualified_common scope own c) (ResolvesCommon ns own c) (HasUnknown ns own c.1)
      unfolding qualified_common
      declared_agrees =
          said_as (ResolvesCommon ns own c) (HasUnknown ns own c.1) (one_step declared_made (type_agrees ns own c.1))
          declared_to declared_from declared_cause (λ n. inl n)

    -- entity types
    module _ (e : EntityTypeOf) where
      abbrev entity_made : List (List ℕ) → Option Qualified → ResolvedEntityType
      entity_made ps o = record { name = full_name own e.name; parents = ps; shape = o }

      abbrev EntitySteps : ResolvedEntityType → Type 0
      EntitySteps f = (ps : List (List ℕ)) × AllZip Name e.parents ps × ((o : Option Qualified) × BothOrNeither (ResolvesType ns own) e.shape o × (entity_made ps o ≡ f))

      resolved_to : (f : ResolvedEntityType) → EntitySteps f → ResolvesEntityType ns own e f
      resolved_to f (ps, parents, (o, shape, same)) = subst (ResolvesEntityType ns own e) same (record { name = refl; parents = parents; shape = shape })

      named_type : (f : ResolvedEntityType) → f.name ≡ full_name own e.name → entity_made f.parents f.shape ≡ f
      named_type f same = ap (λ (l : List ℕ). (let x : ResolvedEntityType = record { name = l; parents = f.parents; shape = f.shape } in x)) (sym same)

      resolved_from : (f : ResolvedEntityType) → ResolvesEntityType ns own e f → EntitySteps f
      resolved_from f h = (f.parents, h.parents, (f.shape, h.shape, named_type f h.name))

      resolved_cause : SomeName e.parents ⊎ (SomeType e.shape ⊎ ⊥) → EntityTypeHasUnknown ns own e
      resolved_cause (inl (w, stands, n)) = says.in_parents w stands n
      resolved_cause (inr (inl (r, same, n))) = says.in_shape r same n
      resolved_cause (inr (inr h)) = absurd h

      cause_resolved : EntityTypeHasUnknown ns own e → SomeName e.parents ⊎ (SomeType e.shape ⊎ ⊥)
      cause_resolved (says.in_parents w stands n) = inl (w, stands, n)
      cause_resolved (says.in_shape r same n) = inr (inl (r, same, n))

      resolved_agrees : Agrees UnknownName (qualified_entity_type scope own e) (ResolvesEntityType ns own e) (EntityTypeHasUnknown ns own e)
      unfolding qualified_entity_type
      resolved_agrees =
          said_as (ResolvesEntityType ns own e) (EntityTypeHasUnknown ns own e) (two_steps entity_made (names_agree e.parents) (maybe_type_agrees e.shape))
          resolved_to resolved_from resolved_cause cause_resolved

    -- what an action applies to
    module _ (u : AppliesToOf) where
      abbrev use_made : List (List ℕ) → List (List ℕ) → Option Qualified → ResolvedAppliesTo
      use_made ps rs o = record { principals = ps; resources = rs; context = o }

      abbrev UseSteps : ResolvedAppliesTo → Type 0
      UseSteps v =
          (ps : List (List ℕ)) × AllZip Name u.principals ps × ((rs : List (List ℕ)) × AllZip Name u.resources rs
          × ((o : Option Qualified) × BothOrNeither (ResolvesType ns own) u.context o × (use_made ps rs o ≡ v)))

      applied_to : (v : ResolvedAppliesTo) → UseSteps v → ResolvesAppliesTo ns own u v
      applied_to v (ps, principals, (rs, resources, (o, context, same))) =
          subst (ResolvesAppliesTo ns own u) same (record { principals = principals; resources = resources; context = context })

      applied_from : (v : ResolvedAppliesTo) → ResolvesAppliesTo ns own u v → UseSteps v
      applied_from v h = (v.principals, h.principals, (v.resources, h.resources, (v.context, h.context, refl)))

      abbrev UseCauses : Type 0
      UseCauses = SomeName u.principals ⊎ (SomeName u.resources ⊎ (SomeType u.context ⊎ ⊥))

      applied_cause : UseCauses → AppliesToHasUnknown ns own u
      applied_cause (inl (w, stands, n)) = says.in_principals w stands n
      applied_cause (inr (inl (w, stands, n))) = says.in_resources w stands n
      applied_cause (inr (inr (inl (r, same, n)))) = says.in_context r same n
      applied_cause (inr (inr (inr h))) = absurd h

      cause_applied : AppliesToHasUnknown ns own u → UseCauses
      cause_applied (says.in_principals w stands n) = inl (w, stands, n)
      cause_applied (says.in_resources w stands n) = inr (inl (w, stands, n))
      cause_applied (says.in_context r same n) = inr (inr (inl (r, same, n)))

      use_agrees : Agrees UnknownName (qualified_use scope own u) (ResolvesAppliesTo ns own u) (AppliesToHasUnknown ns own u)
      unfolding qualified_use
      use_agrees =
          said_as (ResolvesAppliesTo ns own u) (AppliesToHasUnknown ns own u)
          (three_steps use_made (names_agree u.principals) (names_agree u.resources) (maybe_type_agrees u.context))
          applied_to applied_from applied_cause cause_applied

    abbrev SomeUse : Option AppliesToOf → Type 0
    SomeUse o = (u : AppliesToOf) × (o ≡ Some u) × AppliesToHasUnknown ns own u

    maybe_use_agrees : (o : Option AppliesToOf) → Agrees UnknownName (applies_to_named scope own o) (BothOrNeither (ResolvesAppliesTo ns own) o) (SomeUse o)
    maybe_use_agrees o =
        option_agrees UnknownName (λ x. applies_to_named scope own x) (qualified_use scope own) (ResolvesAppliesTo ns own) (AppliesToHasUnknown ns own) refl (λ u. refl) use_agrees o

    -- actions
    abbrev SomeParent : List StatedParent → Type 0
    SomeParent ps = (p : StatedParent) × Contains ps p × ((u : EntityUid) → MeansAction ns own p u → ⊥)

    parents_agree : (ps : List StatedParent) → Agrees UnknownName (parents_named is_action own ps) (AllZip (MeansAction ns own) ps) (SomeParent ps)
    unfolding parents_named
    parents_agree ps =
        each_agrees UnknownName (λ i p. parent_named is_action own p) (MeansAction ns own) (λ (p : StatedParent). (u : EntityUid) → MeansAction ns own p u → ⊥) (λ i p. parent_agrees ns own p) 0 ps

    module _ (a : ActionOf) where
      abbrev action_made : List EntityUid → Option ResolvedAppliesTo → ResolvedAction
      action_made ps o = record { uid = action_uid (action_type own) a.id; parents = ps; applies_to = o }

      abbrev ActionSteps : ResolvedAction → Type 0
      ActionSteps b = (ps : List EntityUid) × AllZip (MeansAction ns own) a.parents ps × ((o : Option ResolvedAppliesTo) × BothOrNeither (ResolvesAppliesTo ns own) a.applies_to o × (action_made ps o ≡ b))

      acting_to : (b : ResolvedAction) → ActionSteps b → ResolvesAction ns own a b
      acting_to b (ps, parents, (o, applied, same)) = subst (ResolvesAction ns own a) same (record { uid = refl; parents = parents; applies_to = applied })

      named_action : (b : ResolvedAction) → b.uid ≡ action_uid (action_type own) a.id → action_made b.parents b.applies_to ≡ b
      named_action b same = ap (λ (v : EntityUid). (let x : ResolvedAction = record { uid = v; parents = b.parents; applies_to = b.applies_to } in x)) (sym same)

      acting_from : (b : ResolvedAction) → ResolvesAction ns own a b → ActionSteps b
      acting_from b h = (b.parents, h.parents, (b.applies_to, h.applies_to, named_action b h.uid))

      acting_cause : SomeParent a.parents ⊎ (SomeUse a.applies_to ⊎ ⊥) → ActionHasUnknown ns own a
      acting_cause (inl (p, stands, n)) = says.in_parents p stands n
      acting_cause (inr (inl (u, same, n))) = says.in_use u same n
      acting_cause (inr (inr h)) = absurd h

      cause_acting : ActionHasUnknown ns own a → SomeParent a.parents ⊎ (SomeUse a.applies_to ⊎ ⊥)
      cause_acting (says.in_parents p stands n) = inl (p, stands, n)
      cause_acting (says.in_use u same n) = inr (inl (u, same, n))

      action_agrees : Agrees UnknownName (qualified_action scope is_action own a) (ResolvesAction ns own a) (ActionHasUnknown ns own a)
      unfolding qualified_action
      action_agrees =
          said_as (ResolvesAction ns own a) (ActionHasUnknown ns own a) (two_steps action_made (parents_agree a.parents) (maybe_use_agrees a.applies_to))
          acting_to acting_from acting_cause cause_acting

  -- namespaces
  module _ (n : NamespaceOf) where
    abbrev SomeCommon : Type 0
    SomeCommon = (c : List ℕ × Raw) × Contains n.commons c × HasUnknown ns n.name c.1

    abbrev SomeEntityType : Type 0
    SomeEntityType = (e : EntityTypeOf) × Contains n.entity_types e × EntityTypeHasUnknown ns n.name e

    abbrev SomeAction : Type 0
    SomeAction = (a : ActionOf) × Contains n.actions a × ActionHasUnknown ns n.name a

    commons_agree : Agrees UnknownName (qualified_commons scope n.name n.commons) (AllZip (ResolvesCommon ns n.name) n.commons) SomeCommon
    unfolding qualified_commons
    commons_agree =
        each_agrees UnknownName (λ i c. qualified_common scope n.name c) (ResolvesCommon ns n.name) (λ (c : List ℕ × Raw). HasUnknown ns n.name c.1) (λ i c. declared_agrees n.name c) 0 n.commons

    entity_types_agree : Agrees UnknownName (qualified_entity_types scope n.name n.entity_types) (AllZip (ResolvesEntityType ns n.name) n.entity_types) SomeEntityType
    unfolding qualified_entity_types
    entity_types_agree =
        each_agrees UnknownName (λ i e. qualified_entity_type scope n.name e) (ResolvesEntityType ns n.name) (EntityTypeHasUnknown ns n.name) (λ i e. resolved_agrees n.name e) 0 n.entity_types

    actions_agree : Agrees UnknownName (qualified_actions scope is_action n.name n.actions) (AllZip (ResolvesAction ns n.name) n.actions) SomeAction
    unfolding qualified_actions
    actions_agree =
        each_agrees UnknownName (λ i a. qualified_action scope is_action n.name a) (ResolvesAction ns n.name) (ActionHasUnknown ns n.name) (λ i a. action_agrees n.name a) 0 n.actions

    abbrev namespace_made : List (List ℕ × Qualified) → List ResolvedEntityType → List ResolvedAction → ResolvedSchema
    namespace_made cs es us = record { commons = cs; entity_types = es; actions = us }

    abbrev NamespaceSteps : ResolvedSchema → Type 0
    NamespaceSteps s =
        (cs : List (List ℕ × Qualified)) × AllZip (ResolvesCommon ns n.name) n.commons cs × ((es : List ResolvedEntityType) × AllZip (ResolvesEntityType ns n.name) n.entity_types es
        × ((us : List ResolvedAction) × AllZip (ResolvesAction ns n.name) n.actions us × (namespace_made cs es us ≡ s)))

    part_to : (s : ResolvedSchema) → NamespaceSteps s → ResolvesNamespace ns n s
    part_to s (cs, commons, (es, entity_types, (us, actions, same))) =
        subst (ResolvesNamespace ns n) same (record { commons = commons; entity_types = entity_types; actions = actions })

    part_from : (s : ResolvedSchema) → ResolvesNamespace ns n s → NamespaceSteps s
    part_from s h = (s.commons, h.commons, (s.entity_types, h.entity_types, (s.actions, h.actions, refl)))

    abbrev PartCauses : Type 0
    PartCauses = SomeCommon ⊎ (SomeEntityType ⊎ (SomeAction ⊎ ⊥))

    part_cause : PartCauses → NamespaceHasUnknown ns n
    part_cause (inl (c, stands, h)) = says.in_common c stands h
    part_cause (inr (inl (e, stands, h))) = says.in_entity_type e stands h
    part_cause (inr (inr (inl (a, stands, h)))) = says.in_action a stands h
    part_cause (inr (inr (inr h))) = absurd h

    cause_part : NamespaceHasUnknown ns n → PartCauses
    cause_part (says.in_common c stands h) = inl (c, stands, h)
    cause_part (says.in_entity_type e stands h) = inr (inl (e, stands, h))
    cause_part (says.in_action a stands h) = inr (inr (inl (a, stands, h)))

    namespace_agrees : Agrees UnknownName (qualified_namespace scope is_action n) (ResolvesNamespace ns n) (NamespaceHasUnknown ns n)
    unfolding qualified_namespace
    namespace_agrees =
        said_as (ResolvesNamespace ns n) (NamespaceHasUnknown ns n) (three_steps namespace_made commons_agree entity_types_agree actions_agree)
        part_to part_from part_cause cause_part

  namespaces_agree : Agrees UnknownName (qualified_namespaces scope is_action ns) (AllZip (ResolvesNamespace ns) ns) (FileHasUnknown ns)
  unfolding qualified_namespaces
  namespaces_agree = each_agrees UnknownName (λ i n. qualified_namespace scope is_action n) (ResolvesNamespace ns) (NamespaceHasUnknown ns) (λ i n. namespace_agrees n) 0 ns

  file_to : (s : ResolvedSchema) → ((parts : List ResolvedSchema) × AllZip (ResolvesNamespace ns) ns parts × (together parts ≡ s)) → ResolvesFile ns s
  file_to s (parts, h, e) = record { parts = parts; resolved = h; all = e }

  file_from : (s : ResolvedSchema) → ResolvesFile ns s → (parts : List ResolvedSchema) × AllZip (ResolvesNamespace ns) ns parts × (together parts ≡ s)
  file_from s h = (h.parts, h.resolved, h.all)

  file_cause : FileHasUnknown ns ⊎ ⊥ → FileHasUnknown ns
  file_cause (inl n) = n
  file_cause (inr h) = absurd h

  pub names_are_agreed : Agrees UnknownName (qualified ns) (ResolvesFile ns) (FileHasUnknown ns)
  unfolding qualified
  names_are_agreed = said_as (ResolvesFile ns) (FileHasUnknown ns) (one_step together namespaces_agree) file_to file_from file_cause (λ n. inl n)

-- ---- the laws

pub names_are_resolved : NamesAreResolved
names_are_resolved ns = agreeing_gives UnknownName (qualified ns) (ResolvesFile ns) (FileHasUnknown ns) (names_are_agreed ns)

pub one_meaning : NamesHaveOneOutcome
one_meaning ns = agreeing_has_one UnknownName (qualified ns) (ResolvesFile ns) (FileHasUnknown ns) (names_are_agreed ns)
