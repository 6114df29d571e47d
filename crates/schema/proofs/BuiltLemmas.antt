-- For a sound file there is a schema that answers as it is to.
use Rattle.std.proofs.Common.{◌≡◌, ◌∙◌, ℕ, List, [], ◌∷◌, ◌++◌, map, Bool, true, false, cond, Option, Some, None, refl}
use Rattle.std.proofs.Common.{sym, ap, subst, inl, inr}
use Rattle.std.specs.Prelude.{Contains, IsTrue, IsSome, ◌⊎◌}
use Rattle.std.specs.List.{list_any}
use Rattle.std.specs.List.Sorted.{IsStrictlySortedBy}
use Rattle.std.specs.Ordering.{is_eq}
use Rattle.std.specs.Cmp.{tied_itself}
use Rattle.std.proofs.lemmas.List.Elements.{Contains-append_left, Contains-append_right, Contains-append_cases}
use Rattle.std.proofs.lemmas.Map.Views.{tells_apart}
use Rattle.sha2.specs.Sha256.{sha256}
use Rattle.hex.specs.Hex.{encode_lower}
use Rattle.values.specs.declared.entity_uid.EntityUid.{EntityUid}
use Rattle.values.specs.Names.{text_cmp, text_cmp-IsTotalOrder, text_cmp-IsAntisymmetric, uid_cmp, uid_cmp-IsTotalOrder}
use Rattle.values.specs.Names.{uid_cmp-IsAntisymmetric}
use Rattle.ancestor_search.specs.Hierarchy.{AreAllAncestorsOf, IsAscending}
use Rattle.ancestor_search.specs.Decided.{PathsAreDecided, is_same, reaches}
use Rattle.ancestor_search.specs.Deciding.{Contains-here, Contains-there, Contains-cases, Contains-none}
use Rattle.ancestor_search.specs.Deciding.{any_from, any_at, same_uid, same_self}
use Rattle.schema_types.specs.Qualified.{Qualified}
use Rattle.schema_types.specs.Cedar.{Cedar, record_of, no_fields}
use Rattle.schema_types.specs.Law.{TypesExpandOrSomeCommonDoesNot}
use Rattle.schema_types.specs.declared.fault.SchemaFault.{SchemaFault}
use Rattle.schema_reading.specs.Qualifying.{ResolvedEntityType, ResolvedAppliesTo, ResolvedAction, ResolvedSchema}
use Rattle.schema_reading.specs.Naming.{DescribesFile}
use Rattle.schema_reading.specs.Laws as names
use Rattle.schema.specs.declared.parts.EnvironmentKey.{EnvironmentKey}
use Rattle.schema.specs.Schemas as schemas
use Rattle.schema.specs.Schemas.{EnvironmentOf, StatedSchema, MatchesDeclarations, IsAction, IsEnvironment, IsEnvironmentKey, IsRecordOf}
use Rattle.schema.specs.Schemas.{IsSound, action_parents, type_parents, type_uid, place_cmp}
use Rattle.schema.specs.inner.ByNaming as parsed
use Rattle.schema.specs.inner.ByNaming.{IsUnsound, IsParsedAs, ParsedOrNot, SomeParsed}
use Rattle.schema.specs.Places.{place_of}
use Rattle.schema.proofs.HierarchyLemmas.{contains_map}
use Rattle.schema.proofs.PlaceLemmas.{place_cmp-IsTotalOrder, place_cmp-IsAntisymmetric}
use Rattle.schema.proofs.InOrder.{in_order, in_order_ascends, from_in_order, all_in_order}
use Rattle.schema.proofs.SomeOutcomeLemmas.{map_to, map_same, uids_of, above_list, above_ascends, above_all}
use Rattle.schema.proofs.SomeOutcomeLemmas.{types_stored, sound_or_not}

-- ---- environments

environment : EntityUid → Cedar → List ℕ → List ℕ → EnvironmentOf
environment action context p r = record { place = place_of action p r; context = context }

-- each type of principals with each type of resources
abbrev grid : EntityUid → Cedar → List (List ℕ) → List (List ℕ) → List EnvironmentOf
grid action context [] rs = []
grid action context (p ∷ ps) rs = map (environment action context p) rs ++ grid action context ps rs

-- an environment of this action and context
record Fits (action : EntityUid) (context : Cedar) (ps rs : List (List ℕ)) (e : EnvironmentOf) : Type 0 where
  is_of : action ≡ e.place.action
  principal : Contains ps e.place.principal
  resource : Contains rs e.place.resource
  has : context ≡ e.context

row_from : (action : EntityUid) (context : Cedar) (p : List ℕ) (ps rs : List (List ℕ)) → Contains ps p → (e : EnvironmentOf) → Contains (map (environment action context p) rs) e → Fits action context ps rs e
unfolding environment
row_from action context p ps rs here e h =
    let x = contains_map (environment action context p) rs e h in
    subst (Fits action context ps rs) x.2 (record { is_of = refl; principal = here; resource = x.1; has = refl })

grid_from : (action : EntityUid) (context : Cedar) (ps rs : List (List ℕ)) (e : EnvironmentOf) → Contains (grid action context ps rs) e → Fits action context ps rs e
grid_from action context [] rs e h = Contains-none e h
grid_from action context (p ∷ ps) rs e h = by (Contains-append_cases (map (environment action context p) rs) (grid action context ps rs) e h) (λ later. grid_from action context ps rs e later)
  where
    more : Fits action context ps rs e → Fits action context (p ∷ ps) rs e
    more f = record { is_of = f.is_of; principal = Contains-there p ps e.place.principal f.principal; resource = f.resource; has = f.has }

    by : Contains (map (environment action context p) rs) e ⊎ Contains (grid action context ps rs) e → (Contains (grid action context ps rs) e → Fits action context ps rs e) → Fits action context (p ∷ ps) rs e
    by (inl here) rest = row_from action context p (p ∷ ps) rs (Contains-here p ps) e here
    by (inr later) rest = more (rest later)

grid_to : (action : EntityUid) (context : Cedar) (ps rs : List (List ℕ)) (p r : List ℕ) → Contains ps p → Contains rs r → Contains (grid action context ps rs) (environment action context p r)
grid_to action context [] rs p r h i = Contains-none p h
grid_to action context (q ∷ ps) rs p r h i = by (Contains-cases q ps p h) (λ later. grid_to action context ps rs p r later i)
  where
    by : (q ≡ p) ⊎ Contains ps p → (Contains ps p → Contains (grid action context ps rs) (environment action context p r)) → Contains (map (environment action context q) rs ++ grid action context ps rs) (environment action context p r)
    by (inl same) rest = Contains-append_left (map (environment action context q) rs) (grid action context ps rs) (environment action context p r)
        (subst (λ (x : List ℕ). Contains (map (environment action context x) rs) (environment action context p r)) (sym same) (map_to (environment action context p) rs r i))
    by (inr later) rest = Contains-append_right (map (environment action context q) rs) (grid action context ps rs) (environment action context p r) (rest later)

module _ (s : ResolvedSchema) (sound : IsSound s) where
  record_made : (o : Option Qualified) → ((r : Qualified) → o ≡ Some r → names.IsShapeOrContext s r) → (t : Cedar) × IsRecordOf s.commons o t
  record_made None is = (record_of no_fields, refl)
  record_made (Some r) is = let w = sound.has_small_expansions r (schemas.shape_or_context r (is r refl)) in (w.0, w.1)

  -- environments of these actions, and each of their places
  abbrev Environments : List ResolvedAction → Type 0
  Environments us =
      (es : List EnvironmentOf) × ((e : EnvironmentOf) → Contains es e → IsEnvironment s e)
      × ((a : ResolvedAction) → Contains us a → (u : ResolvedAppliesTo) → a.applies_to ≡ Some u → (p r : List ℕ) → Contains u.principals p → Contains u.resources r
      → (e : EnvironmentOf) × Contains es e × (e.place ≡ place_of a.uid p r))

  -- those of one action
  abbrev OfAction : ResolvedAction → Type 0
  OfAction a =
      (es : List EnvironmentOf) × ((e : EnvironmentOf) → Contains es e → IsEnvironment s e)
      × ((u : ResolvedAppliesTo) → a.applies_to ≡ Some u → (p r : List ℕ) → Contains u.principals p → Contains u.resources r
      → (e : EnvironmentOf) × Contains es e × (e.place ≡ place_of a.uid p r))

  no_use : (u : ResolvedAppliesTo) {G : Type 0} → None ≡ Some u → G
  no_use u e = absurd cc

  use_same : (u v : ResolvedAppliesTo) → Some u ≡ Some v → u ≡ v
  use_same u v e = cc

  of_action : (a : ResolvedAction) → Contains s.actions a → (o : Option ResolvedAppliesTo) → a.applies_to ≡ o → OfAction a
  unfolding environment
  of_action a here None is = ([], (λ e h. Contains-none e h), (λ u e p r h i. no_use u (sym is ∙ e)))
  of_action a here (Some u) is =
      let made = record_made u.context (λ r c. inr (a, here, (u, is, c))) in
      let es = grid a.uid made.0 u.principals u.resources in (
        es,
        (λ e h.
            let f = grid_from a.uid made.0 u.principals u.resources e h in
            (u, record { action = a; declared = here; is = f.is_of; applies = is; principal = f.principal; resource = f.resource }, subst (λ (t : Cedar). IsRecordOf s.commons u.context t) f.has made.1)),
        (λ v e p r h i.
            let same = use_same u v (sym is ∙ e) in
            at made.0 p r
            (subst (λ (x : ResolvedAppliesTo). Contains x.principals p) (sym same) h)
            (subst (λ (x : ResolvedAppliesTo). Contains x.resources r) (sym same) i)),
      )
    where
      at : (t : Cedar) (p r : List ℕ) → Contains u.principals p → Contains u.resources r → (e : EnvironmentOf) × Contains (grid a.uid t u.principals u.resources) e × (e.place ≡ place_of a.uid p r)
      at t p r h i = (environment a.uid t p r, grid_to a.uid t u.principals u.resources p r h i, refl)

  both_environments : (a : ResolvedAction) (us : List ResolvedAction) → OfAction a → Environments us → Environments (a ∷ us)
  both_environments a us one rest = (
    one.0 ++ rest.0,
    (λ e h. elim (Contains-append_cases one.0 rest.0 e h) [
      | inl here ↦ one.1 e here
      | inr later ↦ rest.1 e later
    ]),
    (λ b h u e p r i j. elim (Contains-cases a us b h) [
      | inl same ↦
          let x = one.2 u (ap (λ (y : ResolvedAction). y.applies_to) same ∙ e) p r i j in
          (x.0, Contains-append_left one.0 rest.0 x.0 x.1, x.2 ∙ ap (λ (y : ResolvedAction). place_of y.uid p r) same)
      | inr later ↦ let x = rest.2 b later u e p r i j in (x.0, Contains-append_right one.0 rest.0 x.0 x.1, x.2)
    ]),
  )

  environments_of : (us : List ResolvedAction) → ((a : ResolvedAction) → Contains us a → Contains s.actions a) → Environments us
  environments_of [] inside = ([], (λ e h. Contains-none e h), (λ a h u e p r i j. Contains-none a h))
  environments_of (a ∷ us) inside =
      both_environments a us (of_action a (inside a (Contains-here a us)) a.applies_to refl) (environments_of us (λ b h. inside b (Contains-there a us b h)))

  -- ---- shapes

  abbrev Shapes : List ResolvedEntityType → Type 0
  Shapes es = (e : ResolvedEntityType) → Contains es e → (t : Cedar) × IsRecordOf s.commons e.shape t

  shape_at : (es : List ResolvedEntityType) → Shapes es → List ℕ → Option Cedar
  shape_at [] made n = None
  shape_at (e ∷ es) made n = cond (is_eq (text_cmp n e.name)) (Some (made e (Contains-here e es)).0) (shape_at es (λ x h. made x (Contains-there e es x h)) n)

  cedar_same : (t u : Cedar) → Some t ≡ Some u → t ≡ u
  cedar_same t u e = cc

  abbrev Shape : List ResolvedEntityType → List ℕ → Cedar → Type 0
  Shape es n t = (e : ResolvedEntityType) × Contains es e × (e.name ≡ n) × IsRecordOf s.commons e.shape t

  shape_found : (es : List ResolvedEntityType) (made : Shapes es) (n : List ℕ) (t : Cedar) → shape_at es made n ≡ Some t → Shape es n t
  unfolding shape_at
  shape_found [] made n t h = absurd cc
  shape_found (e ∷ es) made n t h = by (is_eq (text_cmp n e.name)) refl (shape_found es (λ x i. made x (Contains-there e es x i)) n t) h
    where
      more : Shape es n t → Shape (e ∷ es) n t
      more (x, i, name, is) = (x, Contains-there e es x i, name, is)

      by : (b : Bool) → is_eq (text_cmp n e.name) ≡ b → (shape_at es (λ x i. made x (Contains-there e es x i)) n ≡ Some t → Shape es n t)
          → cond b (Some (made e (Contains-here e es)).0) (shape_at es (λ x i. made x (Contains-there e es x i)) n) ≡ Some t → Shape (e ∷ es) n t
      by true is rest found =
          (e, Contains-here e es, sym (tells_apart text_cmp-IsAntisymmetric n e.name is), subst (λ (x : Cedar). IsRecordOf s.commons e.shape x) (cedar_same (made e (Contains-here e es)).0 t found) (made e (Contains-here e es)).1)
      by false is rest found = more (rest found)

  shape_there : (es : List ResolvedEntityType) (made : Shapes es) (e : ResolvedEntityType) → Contains es e → IsSome (shape_at es made e.name)
  unfolding shape_at
  shape_there [] made e h = Contains-none e h
  shape_there (x ∷ es) made e h = by (is_eq (text_cmp e.name x.name)) refl (Contains-cases x es e h) (λ later. shape_there es (λ y i. made y (Contains-there x es y i)) e later)
    where
      tied : (n m : List ℕ) → n ≡ m → is_eq (text_cmp m n) ≡ true
      tied n m same = subst (λ (k : List ℕ). is_eq (text_cmp k n) ≡ true) same (ap is_eq (tied_itself text_cmp-IsTotalOrder n))

      clash : {G : Type 0} (b : Bool) → b ≡ false → b ≡ true → G
      clash true e f = absurd cc
      clash false e f = absurd cc

      by : (b : Bool) → is_eq (text_cmp e.name x.name) ≡ b → (x ≡ e) ⊎ Contains es e → (Contains es e → IsSome (shape_at es (λ y i. made y (Contains-there x es y i)) e.name))
          → IsSome (cond b (Some (made x (Contains-here x es)).0) (shape_at es (λ y i. made y (Contains-there x es y i)) e.name))
      by true is where_it_is rest = refl
      by false is (inl same) rest = clash (is_eq (text_cmp e.name x.name)) is (tied x.name e.name (ap (λ (y : ResolvedEntityType). y.name) same))
      by false is (inr later) rest = rest later

  -- ---- the schema

  module _ (decided : PathsAreDecided) where
    abbrev uids : List EntityUid
    uids = uids_of s.actions

    abbrev made_shapes : Shapes s.entity_types
    made_shapes = λ e h. record_made e.shape (λ r is. inl (e, h, is))

    abbrev made_environments : Environments s.actions
    made_environments = environments_of s.actions (λ a h. h)

    is_action : EntityUid → Bool
    is_action u = list_any (λ w. is_same u w) uids

    abbrev ancestors_of : EntityUid → Option (List EntityUid)
    ancestors_of u = cond (is_action u) (Some (above_list s.actions u)) None

    action_from : (u : EntityUid) → Contains uids u → IsAction s u
    action_from u h = let x = contains_map (λ y. y.uid) s.actions u h in x

    action_to : (u : EntityUid) → IsAction s u → Contains uids u
    action_to u (a, h, same) = subst (λ (w : EntityUid). Contains uids w) same (map_to (λ y. y.uid) s.actions a h)

    told_action : (u : EntityUid) → IsTrue (is_action u) → IsAction s u
    unfolding is_action
    told_action u h = let x = any_at (λ w. is_same u w) uids h in action_from u (subst (λ (w : EntityUid). Contains uids w) (sym (same_uid u x.0 x.2)) x.1)

    action_told : (u : EntityUid) → IsAction s u → IsTrue (is_action u)
    unfolding is_action
    action_told u a = any_from (λ w. is_same u w) uids u (action_to u a) (same_self u)

    list_same : (xs ys : List EntityUid) → Some xs ≡ Some ys → xs ≡ ys
    list_same xs ys e = cc

    ancestors_found : (u : EntityUid) (us : List EntityUid) (b : Bool) → is_action u ≡ b → cond b (Some (above_list s.actions u)) None ≡ Some us → IsAction s u × IsAscending us × AreAllAncestorsOf (action_parents s) u us
    ancestors_found u us true is e =
        let same = list_same (above_list s.actions u) us e in
        (told_action u is, subst IsAscending same (above_ascends s.actions decided u), subst (λ (xs : List EntityUid). AreAllAncestorsOf (action_parents s) u xs) same (above_all s.actions decided u))
    ancestors_found u us false is e = absurd cc

    ancestors_there : (u : EntityUid) (b : Bool) → IsTrue b → IsSome (cond b (Some (above_list s.actions u)) None)
    ancestors_there u true h = refl
    ancestors_there u false h = cc h

    abbrev member_of_in : EntityUid → Option (List EntityUid)
    member_of_in u = cond (is_action u) (Some (action_parents s u)) None

    member_of_found : (u : EntityUid) (us : List EntityUid) (b : Bool) → is_action u ≡ b → cond b (Some (action_parents s u)) None ≡ Some us → IsAction s u × (us ≡ action_parents s u)
    member_of_found u us true is e = (told_action u is, sym (list_same (action_parents s u) us e))
    member_of_found u us false is e = absurd cc

    member_of_there : (u : EntityUid) (b : Bool) → IsTrue b → IsSome (cond b (Some (action_parents s u)) None)
    member_of_there u true h = refl
    member_of_there u false h = cc h

    abbrev actions_in_order : List EntityUid
    actions_in_order = in_order uid_cmp (λ u. u) uids

    abbrev environments_in_order : List EnvironmentOf
    environments_in_order = in_order place_cmp (λ e. e.place) made_environments.0

    built : List ℕ → StatedSchema
    built bytes = record {
      label = encode_lower (sha256 bytes);
      environments = environments_in_order;
      actions = actions_in_order;
      shape = shape_at s.entity_types made_shapes;
      member_of = member_of_in;
      ancestors = ancestors_of;
      may_have_parent = λ child parent. reaches (type_parents s) (map (λ e. type_uid e.name) s.entity_types) (type_uid parent) (type_uid child);
    }

    place_there : (p : EnvironmentKey) → IsEnvironmentKey s p → Contains (map (λ e. e.place) environments_in_order) p
    place_there p (u, a) =
        let x = made_environments.2 a.action a.declared u a.applies p.principal p.resource a.principal a.resource in
        let same : x.0.place ≡ p = x.2 ∙ ap (λ (w : EntityUid). place_of w p.principal p.resource) a.is in
        subst (λ (q : EnvironmentKey). Contains (map (λ e. e.place) environments_in_order) q) same
        (all_in_order place_cmp (λ e. e.place) place_cmp-IsTotalOrder place_cmp-IsAntisymmetric made_environments.0 x.0 x.1)

    built_answers : (bytes : List ℕ) → MatchesDeclarations s (built bytes)
    unfolding built
    built_answers bytes = record {
      shapes = shape_found s.entity_types made_shapes;
      all_shapes = shape_there s.entity_types made_shapes;
      actions = λ u. (
        (λ h. action_from u (from_in_order uid_cmp (λ w. w) uids u h)),
        (λ a. subst (λ (us : List EntityUid). Contains us u) (map_same actions_in_order) (all_in_order uid_cmp (λ w. w) uid_cmp-IsTotalOrder uid_cmp-IsAntisymmetric uids u (action_to u a))),
      );
      actions_ascend = subst (λ (us : List EntityUid). IsStrictlySortedBy uid_cmp us) (map_same actions_in_order) (in_order_ascends uid_cmp (λ w. w) uid_cmp-IsTotalOrder uid_cmp-IsAntisymmetric uids);
      member_of = λ u us e. member_of_found u us (is_action u) refl e;
      all_member_of = λ u a. member_of_there u (is_action u) (action_told u a);
      ancestors = λ u us e. ancestors_found u us (is_action u) refl e;
      all_ancestors = λ u a. ancestors_there u (is_action u) (action_told u a);
      parents = λ child parent. decided (type_parents s) (map (λ e. type_uid e.name) s.entity_types) (types_stored s.entity_types) (type_uid parent) (type_uid child);
      environments = λ e h. made_environments.1 e (from_in_order place_cmp (λ x. x.place) made_environments.0 e h);
      all_environments = place_there;
      environments_ascend = in_order_ascends place_cmp (λ e. e.place) place_cmp-IsTotalOrder place_cmp-IsAntisymmetric made_environments.0;
    }

    built_schema : (bytes : List ℕ) → DescribesFile bytes s → IsParsedAs bytes (built bytes)
    unfolding built
    built_schema bytes states = record { named = s; states = states; sound = sound; label = refl; answers = built_answers bytes }

pub some_outcome : names.SomeOutcome → names.FilesDeclareOnce → names.FilesNameTheirOwn → TypesExpandOrSomeCommonDoesNot → PathsAreDecided → SomeParsed
some_outcome some once own ends decided bytes = by (some bytes)
  where
    told : (s : ResolvedSchema) → DescribesFile bytes s → IsSound s ⊎ ((f : SchemaFault) × IsUnsound s f) → ParsedOrNot bytes
    told s states (inl sound) = parsed.parsed (built s sound decided bytes) (built_schema s sound decided bytes states)
    told s states (inr (f, unsound)) = parsed.not_parsed f (parsed.unsound s f states unsound)

    by : names.NamesOrRefusal bytes → ParsedOrNot bytes
    by (names.states s states) = told s states (sound_or_not s ends (once bytes s states) (own bytes s states) decided)
    by (names.refused f refused) = parsed.not_parsed f (parsed.naming f refused)
