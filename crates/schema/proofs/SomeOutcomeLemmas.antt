-- Bytes state a schema or are refused.
use Rattle.std.proofs.Common.{◌≡◌, ◌∙◌, ℕ, ◌≤◌, arith, List, [], ◌∷◌, ◌++◌, map, Bool, true, false, cond, Option, Some}
use Rattle.std.proofs.Common.{None, refl, sym, ap, subst, inl, inr, ltb-true, ltb-false}
use Rattle.std.specs.Prelude.{Contains, IsTrue, ◌⊎◌, nat_lt}
use Rattle.std.specs.List.Sorted.{IsStrictlySortedBy}
use Rattle.std.specs.Ordering.{is_eq}
use Rattle.std.proofs.lemmas.List.Elements.{Contains-append_left, Contains-append_right}
use Rattle.values.specs.declared.entity_uid.EntityUid.{EntityUid}
use Rattle.values.specs.Names.{uid_cmp, uid_cmp-IsTotalOrder, uid_cmp-IsAntisymmetric}
use Rattle.ancestor_search.specs.Hierarchy.{Parents, Path, AreAllAncestorsOf, IsAscending, IsOnCycle, no_parents, with_parents}
use Rattle.ancestor_search.specs.Decided.{Decides, HaveAllParents, PathsAreDecided, reaches}
use Rattle.ancestor_search.specs.Deciding.{Contains-here, Contains-there, Contains-cases, Contains-none, same_uid}
use Rattle.schema_types.specs.Qualified as qualified
use Rattle.schema_types.specs.Qualified.{Qualified}
use Rattle.schema_types.specs.Cedar.{Cedar, parts, deep, IsTooLarge}
use Rattle.schema_types.specs.Expansions.{Declarations, Declares, IsExpansion}
use Rattle.schema_types.specs.Mentions.{IsClosed}
use Rattle.schema_types.specs.Law.{TypesExpandOrSomeCommonDoesNot}
use Rattle.schema_types.specs.Outcome.{SomeHasNoExpansion}
use Rattle.schema_types.specs.declared.fault.SchemaFault.{SchemaFault}
use Rattle.schema_types.specs.declared.fault.SchemaFault.TheVariants.{TypeCycle, ActionCycle, TypeTooLarge}
use Rattle.schema_reading.specs.Qualifying.{ResolvedEntityType, ResolvedAppliesTo, ResolvedAction, ResolvedSchema}
use Rattle.schema_reading.specs.Laws as names
use Rattle.schema_reading.specs.Laws.{DeclaresOnce, DeclaresItsCommonTypes}
use Rattle.schema.specs.Schemas as schemas
use Rattle.schema.specs.Schemas.{HasSmallExpansion, IsSchemaType, SomeActionIsOnCycle, SomeTypeIsTooLarge, IsSound}
use Rattle.schema.specs.inner.ByNaming.{IsUnsound}
use Rattle.schema.specs.inner.ByNaming as parsed
use Rattle.schema.specs.Schemas.{type_uid, with_actions, with_types}
use Rattle.schema.proofs.HierarchyLemmas.{first_edge, has_parent}
use Rattle.schema.proofs.InOrder.{in_order, in_order_ascends, from_in_order, all_in_order}

-- ---- lists

some_or_all : {A : Type 0} (P Q : A → Type 0) (xs : List A) → ((x : A) → Contains xs x → P x ⊎ Q x) → ((x : A) × Contains xs x × P x) ⊎ ((x : A) → Contains xs x → Q x)
some_or_all P Q [] decide = inr (λ x h. Contains-none x h)
some_or_all {A = A} P Q (y ∷ ys) decide = by (decide y (Contains-here y ys)) (some_or_all P Q ys (λ x h. decide x (Contains-there y ys x h)))
  where
    all : Q y → ((x : A) → Contains ys x → Q x) → (x : A) → (y ≡ x) ⊎ Contains ys x → Q x
    all one rest x (inl same) = subst Q same one
    all one rest x (inr later) = rest x later

    by : P y ⊎ Q y → ((x : A) × Contains ys x × P x) ⊎ ((x : A) → Contains ys x → Q x) → ((x : A) × Contains (y ∷ ys) x × P x) ⊎ ((x : A) → Contains (y ∷ ys) x → Q x)
    by (inl p) rest = inl (y, Contains-here y ys, p)
    by (inr q) (inl (x, h, p)) = inl (x, Contains-there y ys x h, p)
    by (inr q) (inr rest) = inr (λ x h. all q rest x (Contains-cases y ys x h))

-- of a search in which all that is found says the same
first : {A P Q : Type 0} (xs : List A) → ((x : A) × Contains xs x × P) ⊎ Q → P ⊎ Q
first xs (inl (x, h, p)) = inl p
first xs (inr q) = inr q

pub map_to : {A B : Type 0} (f : A → B) (xs : List A) (x : A) → Contains xs x → Contains (map f xs) (f x)
map_to f [] x h = Contains-none x h
map_to {A = A} {B = B} f (y ∷ ys) x h = by (Contains-cases y ys x h) (λ later. map_to f ys x later)
  where
    by : (y ≡ x) ⊎ Contains ys x → (Contains ys x → Contains (map f ys) (f x)) → Contains (f y ∷ map f ys) (f x)
    by (inl same) rest = subst (λ (z : A). Contains (f y ∷ map f ys) (f z)) same (Contains-here (f y) (map f ys))
    by (inr later) rest = Contains-there (f y) (map f ys) (f x) (rest later)

pub map_same : {A : Type 0} (xs : List A) → map (λ x. x) xs ≡ xs
map_same [] = refl
map_same {A = A} (x ∷ xs) = ap (λ (ys : List A). x ∷ ys) (map_same xs)

-- those that pass a test
abbrev those : {A : Type 0} → (A → Bool) → List A → List A
those test [] = []
those test (x ∷ xs) = cond (test x) (x ∷ those test xs) (those test xs)

those_from : {A : Type 0} (test : A → Bool) (xs : List A) (x : A) → Contains (those test xs) x → IsTrue (test x)
those_from test [] x h = Contains-none x h
those_from {A = A} test (y ∷ ys) x h = by (test y) refl (those_from test ys x) h
  where
    head : IsTrue (test y) → (y ≡ x) ⊎ Contains (those test ys) x → (Contains (those test ys) x → IsTrue (test x)) → IsTrue (test x)
    head here (inl same) rest = subst (λ (z : A). IsTrue (test z)) same here
    head here (inr later) rest = rest later

    by : (b : Bool) → test y ≡ b → (Contains (those test ys) x → IsTrue (test x)) → Contains (cond b (y ∷ those test ys) (those test ys)) x → IsTrue (test x)
    by true e rest inside = head e (Contains-cases y (those test ys) x inside) rest
    by false e rest inside = rest inside

those_to : {A : Type 0} (test : A → Bool) (xs : List A) (x : A) → Contains xs x → IsTrue (test x) → Contains (those test xs) x
those_to test [] x h t = Contains-none x h
those_to {A = A} test (y ∷ ys) x h t = by (test y) refl (Contains-cases y ys x h) (λ later. those_to test ys x later t)
  where
    differ : {G : Type 0} → test y ≡ false → y ≡ x → G
    differ e same = absurd (cc (subst (λ (z : A). IsTrue (test z)) (sym same) t))

    by : (b : Bool) → test y ≡ b → (y ≡ x) ⊎ Contains ys x → (Contains ys x → Contains (those test ys) x) → Contains (cond b (y ∷ those test ys) (those test ys)) x
    by true e (inl same) rest = subst (λ (z : A). Contains (y ∷ those test ys) z) same (Contains-here y (those test ys))
    by true e (inr later) rest = Contains-there y (those test ys) x (rest later)
    by false e (inl same) rest = differ e same
    by false e (inr later) rest = rest later

-- ---- sizes and ends

neither : (t : Cedar) → parts t ≤ 10000 → deep t ≤ 64 → IsTooLarge t → ⊥
neither t few near (inl many) = absurd (omega (arith, few, many))
neither t few near (inr far) = absurd (omega (arith, near, far))

large_or_not : (t : Cedar) → IsTooLarge t ⊎ (IsTooLarge t → ⊥)
large_or_not t = by (nat_lt 10000 (parts t)) refl (nat_lt 64 (deep t)) refl
  where
    by : (b : Bool) → nat_lt 10000 (parts t) ≡ b → (c : Bool) → nat_lt 64 (deep t) ≡ c → IsTooLarge t ⊎ (IsTooLarge t → ⊥)
    by true e c f = inl (inl (ltb-true 10000 (parts t) e))
    by false e true f = inl (inr (ltb-true 64 (deep t) f))
    by false e false f = let a = ltb-false 10000 (parts t) e in let b = ltb-false 64 (deep t) f in inr (neither t (omega (arith, a)) (omega (arith, b)))

declared_inside : (ds : Declarations) (q : List ℕ) (r : Qualified) → Declares ds q r → Contains ds (q, r)
declared_inside [] q r h = absurd h
declared_inside (d ∷ ds) q r (inl p) = subst (λ (x : List ℕ × Qualified). Contains (d ∷ ds) x) (λ i. (p.0 i, p.1 i)) (Contains-here d ds)
declared_inside (d ∷ ds) q r (inr p) = Contains-there d ds (q, r) (declared_inside ds q r p)

inside_declared : (ds : Declarations) (d : List ℕ × Qualified) → Contains ds d → Declares ds d.0 d.1
inside_declared [] d h = Contains-none d h
inside_declared (e ∷ ds) d h = by (Contains-cases e ds d h) (λ later. inside_declared ds d later)
  where
    by : (e ≡ d) ⊎ Contains ds d → (Contains ds d → Declares ds d.0 d.1) → Declares (e ∷ ds) d.0 d.1
    by (inl same) rest = inl (ap (λ (x : List ℕ × Qualified). x.0) same, ap (λ (x : List ℕ × Qualified). x.1) same)
    by (inr later) rest = inr (rest later)

-- ---- hierarchies

last_edge : (parents : Parents) (b : EntityUid) (through : List EntityUid) (a : EntityUid) → Path parents b through a → (c : EntityUid) × Contains (parents c) a
last_edge parents b [] a h = (b, h)
last_edge parents b (c ∷ cs) a h = last_edge parents c cs a h.1

-- an action that gives b this parent
abbrev HasParent : List ResolvedAction → EntityUid → EntityUid → Type 0
HasParent us b a = (x : ResolvedAction) × Contains us x × (x.uid ≡ b) × Contains x.parents a

given_at : (x : ResolvedAction) (old : List EntityUid) (b a : EntityUid) (same : Bool) → is_eq (uid_cmp x.uid b) ≡ same → Contains (cond same x.parents old) a → ((x.uid ≡ b) × Contains x.parents a) ⊎ Contains old a
given_at x old b a true e h = inl (same_uid x.uid b e, h)
given_at x old b a false e h = inr h

edge_given : (parents : Parents) (us : List ResolvedAction) (b a : EntityUid) → Contains (with_actions parents us b) a → HasParent us b a ⊎ Contains (parents b) a
edge_given parents [] b a h = inr h
edge_given parents (x ∷ us) b a h = by (edge_given (with_parents parents x.uid x.parents) us b a h)
  where
    here : ((x.uid ≡ b) × Contains x.parents a) ⊎ Contains (parents b) a → HasParent (x ∷ us) b a ⊎ Contains (parents b) a
    here (inl found) = inl (x, Contains-here x us, found.0, found.1)
    here (inr old) = inr old

    by : HasParent us b a ⊎ Contains (with_parents parents x.uid x.parents b) a → HasParent (x ∷ us) b a ⊎ Contains (parents b) a
    by (inl (y, there, same, inside)) = inl (y, Contains-there x us y there, same, inside)
    by (inr before) = here (given_at x (parents b) b a (is_eq (uid_cmp x.uid b)) refl before)

abbrev pub uids_of : List ResolvedAction → List EntityUid
uids_of us = map (λ x. x.uid) us

abbrev ends_of : List ResolvedAction → List EntityUid
ends_of [] = []
ends_of (x ∷ us) = x.parents ++ ends_of us

in_ends : (us : List ResolvedAction) (x : ResolvedAction) (a : EntityUid) → Contains us x → Contains x.parents a → Contains (ends_of us) a
in_ends [] x a h i = Contains-none x h
in_ends (y ∷ us) x a h i = by (Contains-cases y us x h) (λ later. in_ends us x a later i)
  where
    by : (y ≡ x) ⊎ Contains us x → (Contains us x → Contains (ends_of us) a) → Contains (y.parents ++ ends_of us) a
    by (inl same) rest = Contains-append_left y.parents (ends_of us) a (subst (λ (z : ResolvedAction). Contains z.parents a) (sym same) i)
    by (inr later) rest = Contains-append_right y.parents (ends_of us) a (rest later)

module _ (us : List ResolvedAction) where
  abbrev edges : Parents
  edges = with_actions no_parents us

  edge_from : (b a : EntityUid) → Contains (edges b) a → HasParent us b a
  edge_from b a h = by (edge_given no_parents us b a h)
    where
      by : HasParent us b a ⊎ Contains (no_parents b) a → HasParent us b a
      by (inl found) = found
      by (inr none) = Contains-none a none

  uids_stored : HaveAllParents edges (uids_of us)
  uids_stored b a h = let x = edge_from b a h in subst (λ (u : EntityUid). Contains (uids_of us) u) x.2 (map_to (λ y. y.uid) us x.0 x.1)

  abbrev is_ancestor : EntityUid → EntityUid → Bool
  is_ancestor a b = reaches edges (uids_of us) a b

  pub above_list : EntityUid → List EntityUid
  above_list b = in_order uid_cmp (λ u. u) (those (λ a. is_ancestor a b) (ends_of us))

  module _ (decided : PathsAreDecided) where
    abbrev decides : Decides edges is_ancestor
    decides = decided edges (uids_of us) uids_stored

    pub above_ascends : (b : EntityUid) → IsAscending (above_list b)
    unfolding above_list
    above_ascends b =
        let list = those (λ a. is_ancestor a b) (ends_of us) in
        subst (λ (xs : List EntityUid). IsStrictlySortedBy uid_cmp xs) (map_same (in_order uid_cmp (λ u. u) list)) (in_order_ascends uid_cmp (λ u. u) uid_cmp-IsTotalOrder uid_cmp-IsAntisymmetric list)

    pub above_all : (b : EntityUid) → AreAllAncestorsOf edges b (above_list b)
    unfolding above_list
    above_all b a =
        let list = those (λ x. is_ancestor x b) (ends_of us) in (
          (λ h. (decides a b).0 (those_from (λ x. is_ancestor x b) (ends_of us) a (from_in_order uid_cmp (λ u. u) list a h))),
          (λ h.
              let edge = last_edge edges b h.0 a h.1 in
              let x = edge_from edge.0 a edge.1 in
              let inside = those_to (λ y. is_ancestor y b) (ends_of us) a (in_ends us x.0 a x.1 x.3) ((decides a b).1 h) in
              subst (λ (xs : List EntityUid). Contains xs a) (map_same (in_order uid_cmp (λ u. u) list)) (all_in_order uid_cmp (λ u. u) uid_cmp-IsTotalOrder uid_cmp-IsAntisymmetric list a inside)),
        )

    on_cycle_or_not : ((u : EntityUid) × IsOnCycle edges u) ⊎ (((u : EntityUid) × IsOnCycle edges u) → ⊥)
    on_cycle_or_not = by (some_or_all (λ u. IsOnCycle edges u) (λ u. IsOnCycle edges u → ⊥) (uids_of us) (λ u h. at u (is_ancestor u u) refl))
      where
        at : (u : EntityUid) (b : Bool) → is_ancestor u u ≡ b → IsOnCycle edges u ⊎ (IsOnCycle edges u → ⊥)
        at u true e = inl ((decides u u).0 e)
        at u false e = inr (λ cycle. absurd (cc ((decides u u).1 cycle)))

        by : ((u : EntityUid) × Contains (uids_of us) u × IsOnCycle edges u) ⊎ ((u : EntityUid) → Contains (uids_of us) u → IsOnCycle edges u → ⊥) → ((u : EntityUid) × IsOnCycle edges u) ⊎ (((u : EntityUid) × IsOnCycle edges u) → ⊥)
        by (inl (u, h, cycle)) = inl (u, cycle)
        by (inr none) = inr (λ c. let edge = first_edge edges c.0 c.1.0 c.0 c.1.1 in none c.0 (uids_stored c.0 edge.0 edge.1) c.1)

pub types_stored : (es : List ResolvedEntityType) → HaveAllParents (with_types no_parents es) (map (λ e. type_uid e.name) es)
types_stored es b a h = by (has_parent no_parents es b a h)
  where
    by : ((e : ResolvedEntityType) × Contains es e × (type_uid e.name ≡ b)) ⊎ Contains (no_parents b) a → Contains (map (λ e. type_uid e.name) es) b
    by (inl (e, here, same)) = subst (λ (u : EntityUid). Contains (map (λ x. type_uid x.name) es) u) same (map_to (λ x. type_uid x.name) es e here)
    by (inr none) = Contains-none a none

-- ---- is the file sound?

module _ (s : ResolvedSchema) (ends : TypesExpandOrSomeCommonDoesNot) (once : DeclaresOnce s) (own : DeclaresItsCommonTypes s) where
  common_closed : (d : List ℕ × Qualified) → Contains s.commons d → IsClosed s.commons (qualified.common d.0)
  common_closed d h q m = (d.1, subst (λ (x : List ℕ). Declares s.commons x d.1) m (inside_declared s.commons d h))

  written_or_not : (r : Qualified) → IsClosed s.commons r → ((t : Cedar) × IsExpansion s.commons r t) ⊎ SomeHasNoExpansion s.commons
  written_or_not r closed = ends s.commons once.commons own.commons r closed

  some_endless : SomeHasNoExpansion s.commons ⊎ (SomeHasNoExpansion s.commons → ⊥)
  some_endless = by (some_or_all (λ d. SomeHasNoExpansion s.commons) (λ d. (t : Cedar) × IsExpansion s.commons (qualified.common d.0) t) s.commons (λ d h. turn (written_or_not (qualified.common d.0) (common_closed d h))))
    where
      turn : {A B : Type 0} → A ⊎ B → B ⊎ A
      turn (inl x) = inr x
      turn (inr y) = inl y

      by : ((d : List ℕ × Qualified) × Contains s.commons d × SomeHasNoExpansion s.commons) ⊎ ((d : List ℕ × Qualified) → Contains s.commons d → (t : Cedar) × IsExpansion s.commons (qualified.common d.0) t)
          → SomeHasNoExpansion s.commons ⊎ (SomeHasNoExpansion s.commons → ⊥)
      by (inl (d, h, endless)) = inl endless
      by (inr all) = inr (λ endless. let w = all (endless.name, endless.type) (declared_inside s.commons endless.name endless.type endless.declared) in endless.has_no_expansion w.0 w.1)

  module _ (none : SomeHasNoExpansion s.commons → ⊥) where
    fits_or_not : (r : Qualified) → IsSchemaType s r → IsClosed s.commons r → SomeTypeIsTooLarge s ⊎ HasSmallExpansion s.commons r
    fits_or_not r stands closed = by (written_or_not r closed)
      where
        sized : (t : Cedar) → IsExpansion s.commons r t → IsTooLarge t ⊎ (IsTooLarge t → ⊥) → SomeTypeIsTooLarge s ⊎ HasSmallExpansion s.commons r
        sized t w (inl large) = inl (record { type = r; whole = t; is_type = stands; is_expansion = w; too_large = large })
        sized t w (inr small) = inr (t, w, small)

        by : ((t : Cedar) × IsExpansion s.commons r t) ⊎ SomeHasNoExpansion s.commons → SomeTypeIsTooLarge s ⊎ HasSmallExpansion s.commons r
        by (inl (t, w)) = sized t w (large_or_not t)
        by (inr endless) = absurd (none endless)

    record_fits : (o : Option Qualified) → ((r : Qualified) → o ≡ Some r → names.IsShapeOrContext s r) → SomeTypeIsTooLarge s ⊎ ((r : Qualified) → o ≡ Some r → HasSmallExpansion s.commons r)
    record_fits None is = inr (λ r e. absurd cc)
    record_fits (Some r) is = by (fits_or_not r (schemas.shape_or_context r (is r refl)) (own.records r (is r refl)))
      where
        some_same : (x y : Qualified) → Some x ≡ Some y → x ≡ y
        some_same x y e = cc

        by : SomeTypeIsTooLarge s ⊎ HasSmallExpansion s.commons r → SomeTypeIsTooLarge s ⊎ ((q : Qualified) → Some r ≡ Some q → HasSmallExpansion s.commons q)
        by (inl large) = inl large
        by (inr w) = inr (λ q e. subst (λ (x : Qualified). HasSmallExpansion s.commons x) (some_same r q e) w)

    use_fits : (a : ResolvedAction) → Contains s.actions a → (o : Option ResolvedAppliesTo) → a.applies_to ≡ o → SomeTypeIsTooLarge s ⊎ ((u : ResolvedAppliesTo) → a.applies_to ≡ Some u → (r : Qualified) → u.context ≡ Some r → HasSmallExpansion s.commons r)
    use_fits a h None is = inr (λ u e r c. absurd (none_is u (sym is ∙ e)))
      where
        none_is : (u : ResolvedAppliesTo) → None ≡ Some u → ⊥
        none_is u e = cc
    use_fits a h (Some v) is = by (record_fits v.context (λ r c. inr (a, h, (v, is, c))))
      where
        some_same : (x y : ResolvedAppliesTo) → Some x ≡ Some y → x ≡ y
        some_same x y e = cc

        by : SomeTypeIsTooLarge s ⊎ ((r : Qualified) → v.context ≡ Some r → HasSmallExpansion s.commons r) → SomeTypeIsTooLarge s ⊎ ((u : ResolvedAppliesTo) → a.applies_to ≡ Some u → (r : Qualified) → u.context ≡ Some r → HasSmallExpansion s.commons r)
        by (inl large) = inl large
        by (inr w) = inr (λ u e r c. w r (ap (λ (x : ResolvedAppliesTo). x.context) (some_same v u (sym is ∙ e)) ∙ c))

    commons_fit : SomeTypeIsTooLarge s ⊎ ((d : List ℕ × Qualified) → Contains s.commons d → HasSmallExpansion s.commons (qualified.common d.0))
    commons_fit = first s.commons (some_or_all (λ d. SomeTypeIsTooLarge s) (λ d. HasSmallExpansion s.commons (qualified.common d.0)) s.commons
        (λ d h. fits_or_not (qualified.common d.0) (schemas.common d.0 d.1 (inside_declared s.commons d h)) (common_closed d h)))

    shapes_fit : SomeTypeIsTooLarge s ⊎ ((e : ResolvedEntityType) → Contains s.entity_types e → (r : Qualified) → e.shape ≡ Some r → HasSmallExpansion s.commons r)
    shapes_fit = first s.entity_types (some_or_all (λ e. SomeTypeIsTooLarge s) (λ e. (r : Qualified) → e.shape ≡ Some r → HasSmallExpansion s.commons r) s.entity_types
        (λ e h. record_fits e.shape (λ r is. inl (e, h, is))))

    contexts_fit : SomeTypeIsTooLarge s ⊎ ((a : ResolvedAction) → Contains s.actions a → (u : ResolvedAppliesTo) → a.applies_to ≡ Some u → (r : Qualified) → u.context ≡ Some r → HasSmallExpansion s.commons r)
    contexts_fit = first s.actions (some_or_all (λ a. SomeTypeIsTooLarge s) (λ a. (u : ResolvedAppliesTo) → a.applies_to ≡ Some u → (r : Qualified) → u.context ≡ Some r → HasSmallExpansion s.commons r) s.actions
        (λ a h. use_fits a h a.applies_to refl))

    module _ (commons : (d : List ℕ × Qualified) → Contains s.commons d → HasSmallExpansion s.commons (qualified.common d.0))
        (shapes : (e : ResolvedEntityType) → Contains s.entity_types e → (r : Qualified) → e.shape ≡ Some r → HasSmallExpansion s.commons r)
        (contexts : (a : ResolvedAction) → Contains s.actions a → (u : ResolvedAppliesTo) → a.applies_to ≡ Some u → (r : Qualified) → u.context ≡ Some r → HasSmallExpansion s.commons r) where
      all_fit : (r : Qualified) → IsSchemaType s r → HasSmallExpansion s.commons r
      all_fit _ (schemas.common q r d) = commons (q, r) (declared_inside s.commons q r d)
      all_fit _ (schemas.shape_or_context r (inl (e, h, is))) = shapes e h r is
      all_fit _ (schemas.shape_or_context r (inr (a, h, (u, applies, is)))) = contexts a h u applies r is

    sizes_decided : SomeTypeIsTooLarge s ⊎ ((r : Qualified) → IsSchemaType s r → HasSmallExpansion s.commons r)
    sizes_decided = by commons_fit shapes_fit contexts_fit
      where
        by : SomeTypeIsTooLarge s ⊎ ((d : List ℕ × Qualified) → Contains s.commons d → HasSmallExpansion s.commons (qualified.common d.0))
            → SomeTypeIsTooLarge s ⊎ ((e : ResolvedEntityType) → Contains s.entity_types e → (r : Qualified) → e.shape ≡ Some r → HasSmallExpansion s.commons r)
            → SomeTypeIsTooLarge s ⊎ ((a : ResolvedAction) → Contains s.actions a → (u : ResolvedAppliesTo) → a.applies_to ≡ Some u → (r : Qualified) → u.context ≡ Some r → HasSmallExpansion s.commons r)
            → SomeTypeIsTooLarge s ⊎ ((r : Qualified) → IsSchemaType s r → HasSmallExpansion s.commons r)
        by (inl large) b c = inl large
        by (inr a) (inl large) c = inl large
        by (inr a) (inr b) (inl large) = inl large
        by (inr a) (inr b) (inr c) = inr (all_fit a b c)

  pub sound_or_not : PathsAreDecided → IsSound s ⊎ ((f : SchemaFault) × IsUnsound s f)
  sound_or_not decided = by some_endless
    where
      sized : (SomeHasNoExpansion s.commons → ⊥) → (SomeActionIsOnCycle s → ⊥) → SomeTypeIsTooLarge s ⊎ ((r : Qualified) → IsSchemaType s r → HasSmallExpansion s.commons r) → IsSound s ⊎ ((f : SchemaFault) × IsUnsound s f)
      sized endless cycle (inl large) = inr (TypeTooLarge, parsed.too_large endless cycle large)
      sized endless cycle (inr all) = inl (record { no_cycle = cycle; has_small_expansions = all })

      acyclic : (SomeHasNoExpansion s.commons → ⊥) → SomeActionIsOnCycle s ⊎ (SomeActionIsOnCycle s → ⊥) → IsSound s ⊎ ((f : SchemaFault) × IsUnsound s f)
      acyclic endless (inl cycle) = inr (ActionCycle, parsed.action_cycle endless cycle)
      acyclic endless (inr none) = sized endless none (sizes_decided endless)

      by : SomeHasNoExpansion s.commons ⊎ (SomeHasNoExpansion s.commons → ⊥) → IsSound s ⊎ ((f : SchemaFault) × IsUnsound s f)
      by (inl endless) = inr (TypeCycle, parsed.type_cycle endless)
      by (inr none) = acyclic none (on_cycle_or_not s.actions decided)
