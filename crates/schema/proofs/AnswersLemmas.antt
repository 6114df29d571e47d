-- What was made answers as it is to.
use Rattle.std.proofs.Common.{◌≡◌, ◌∙◌, ℕ, List, [], ◌∷◌, map, Option, Some, None, refl, sym, ap, subst, inl, inr}
use Rattle.std.specs.Prelude.{Contains, IsTrue, IsSome, ◌↔◌, option_map}
use Rattle.std.specs.BTreeMap.{BTreeMap, get, keys, IsOrdered}
use Rattle.std.specs.Map.{keys_of}
use Rattle.std.specs.List.Sorted.{IsStrictlySortedBy}
use Rattle.std.proofs.lemmas.List.Kept.{IsStrictlySortedBy-filter}
use Rattle.std.proofs.lemmas.Map.Views.{btree_map_contains_key_iff, btree_map_get_iff}
use Rattle.values.specs.declared.entity_uid.EntityUid.{EntityUid}
use Rattle.values.specs.Names.{uid_cmp, text_cmp, uid_cmp-IsTotalOrder, uid_cmp-IsAntisymmetric}
use Rattle.ancestor_search.specs.Hierarchy.{IsAncestor, IsAscending, AreAllAncestorsOf}
use Rattle.schema_types.specs.Cedar.{Cedar}
use Rattle.schema_types.specs.CedarViews.{cedar_view}
use Rattle.schema_types.specs.declared.cedar.CedarType.{CedarType}
use Rattle.schema_reading.specs.Qualifying.{ResolvedEntityType, ResolvedSchema}
use Rattle.schema.specs.declared.parts.EnvironmentKey.{EnvironmentKey}
use Rattle.schema.specs.declared.parts.Environment.{Environment}
use Rattle.schema.specs.declared.parts.EntityDecl.{EntityDecl}
use Rattle.schema.specs.declared.reading.Types.{Types}
use Rattle.schema.specs.declared.reading.Hierarchies.{Hierarchies}
use Rattle.sha2.specs.Sha256.{sha256}
use Rattle.hex.specs.Hex.{encode_lower}
use Rattle.schema_reading.specs.Naming.{DescribesFile}
use Rattle.schema_reading.specs.Laws.{IsEntityType, NamesItsEntityTypes}
use Rattle.schema.specs.Schemas.{EnvironmentOf, MatchesDeclarations, IsSound, IsShape, IsAction, IsEnvironment, IsEnvironmentKey}
use Rattle.schema.specs.Schemas.{IsRecordOf, action_parents, type_parents, type_uid, place_cmp}
use Rattle.schema.specs.SchemaEntries.{kept}
use Rattle.schema.specs.Places.{environment_of}
use Rattle.schema.specs.LookUps.{is_numbered_at, is_ancestor_at, is_ancestor, is_action_ancestor_at, action_has_ancestor}
use Rattle.schema.specs.Views.{environment_view, schema_view, ancestors_among}
use Rattle.schema.specs.declared.type_numbers.TypeNumbers.{TypeNumbers}
use Rattle.schema.specs.inner.ByNaming.{IsParsedAs}
use Rattle.schema.specs.inner.Numbering.{AreNumbers}
use Rattle.schema.specs.inner.Making.{shape_in, Places, AreShapes, ArePlaces, AreMembers}
use Rattle.schema.specs.inner.Reading.{AreTypesOf, AreHierarchiesOf}
use Rattle.schema.proofs.PlaceLemmas.{place_cmp-IsTotalOrder, place_cmp-IsAntisymmetric}
use Rattle.schema.proofs.HierarchyLemmas.{contains_map, last_edge, action_edge, above_declared, below_declared}
use Rattle.schema.proofs.NameLemmas.{AreNamed, names_of}
use Rattle.schema.proofs.AboveLemmas.{passes, stays}

some_of : {A : Type 0} (o : Option A) → IsSome o → (x : A) × (o ≡ Some x)
some_of None h = absurd cc
some_of (Some x) h = (x, refl)

map_some : {A B : Type 0} (f : A → B) (o : Option A) → IsSome o → IsSome (option_map f o)
map_some f None h = absurd cc
map_some f (Some x) h = refl

from_map : {A B : Type 0} (f : A → B) (o : Option A) (y : B) → option_map f o ≡ Some y → (x : A) × (o ≡ Some x) × (f x ≡ y)
from_map f None y e = absurd cc
from_map f (Some x) y e = (x, refl, cc)

not_none : {A : Type 0} {G : Type 0} (x : A) → None ≡ Some x → G
not_none x e = absurd cc

is_none : {A : Type 0} {G : Type 0} (o : Option A) → o ≡ None → IsSome o → G
is_none None e h = absurd cc
is_none (Some x) e h = absurd cc

-- ---- shapes

module _ (s : ResolvedSchema) (shapes : BTreeMap (List ℕ) EntityDecl) (are : AreShapes s.commons s.entity_types shapes) where
  pub shape_found : (n : List ℕ) (t : Cedar) → shape_in shapes n ≡ Some t → IsShape s n t
  shape_found n t e =
      let at = from_map (λ d. cedar_view d.shape) (get text_cmp shapes n) t e in
      elim (are.sound n at.0 at.1) [
        | inl m ↦ (m.0, m.1, m.2.0, subst (λ (x : Cedar). IsRecordOf s.commons m.0.shape x) at.2 m.2.1)
        | inr none ↦ not_none at.0 none
      ]

  pub shape_there : (e : ResolvedEntityType) → Contains s.entity_types e → IsSome (shape_in shapes e.name)
  shape_there e h = map_some (λ d. cedar_view d.shape) (get text_cmp shapes e.name) (are.all e.name (e, h, refl))

-- ---- actions

module _ (s : ResolvedSchema) (members : BTreeMap EntityUid (List EntityUid)) (are : AreMembers (action_parents s) s.actions members) where
  pub members_found : (u : EntityUid) (us : List EntityUid) → get uid_cmp members u ≡ Some us → IsAction s u × (us ≡ action_parents s u)
  members_found u us e = elim (are.sound u us e) [
    | inl m ↦ ((m.0, m.1, m.2.0), m.2.1)
    | inr none ↦ not_none us none
  ]

  pub members_there : (u : EntityUid) → IsAction s u → IsSome (get uid_cmp members u)
  members_there u a = are.all u a

  pub actions_are : (u : EntityUid) → Contains (keys members) u ↔ IsAction s u
  actions_are u =
      let iff = btree_map_contains_key_iff uid_cmp-IsTotalOrder uid_cmp-IsAntisymmetric members u in
      ((λ h. let at = some_of (get uid_cmp members u) (iff.1 h) in (members_found u at.0 at.1).0), (λ a. iff.0 (members_there u a)))

-- ---- actions above actions

module _ (s : ResolvedSchema) (called : AreNamed s) (h : Hierarchies) (are : AreHierarchiesOf s h) where
  abbrev at : EntityUid → Option ℕ
  at u = get uid_cmp h.above.numbers u

  action_listed : (u : EntityUid) → IsAction s u → Contains h.actions u
  action_listed u a = subst (λ (us : List EntityUid). Contains us u) (sym are.actions) ((actions_are s h.members are.members u).1 a)

  listed_action : (u : EntityUid) → Contains h.actions u → IsAction s u
  listed_action u c = (actions_are s h.members are.members u).0 (subst (λ (us : List EntityUid). Contains us u) are.actions c)

  action_numbered : {G : Type 0} (u : EntityUid) → at u ≡ None → IsAction s u → G
  action_numbered u e a = is_none (at u) e (are.numbered u (action_listed u a))

  -- what is above an action is a parent of one
  above_is_action : (u w : EntityUid) → IsAncestor (action_parents s) w u → IsAction s w
  above_is_action u w above =
      let last = last_edge (action_parents s) u above.0 w above.1 in
      let edge = action_edge s.actions last.0 w last.1 in
      called.parents edge.0 edge.1 w edge.2

  below_at : (u w : EntityUid) (i : ℕ) → at u ≡ Some i → (o : Option ℕ) → at w ≡ o → IsTrue (is_numbered_at h.above.spans i o) ↔ IsAncestor (action_parents s) w u
  below_at u w i e None f = ((λ t. cc), (λ above. action_numbered w f (above_is_action u w above)))
  below_at u w i e (Some j) f = are.above u w i j e f

  above_told : (u w : EntityUid) → IsAction s u → (o : Option ℕ) → at u ≡ o
      → IsTrue (is_action_ancestor_at h.above.numbers.entries h.above.spans o w) ↔ IsAncestor (action_parents s) w u
  above_told u w a None e = ((λ t. cc), (λ above. action_numbered u e a))
  above_told u w a (Some i) e = below_at u w i e (at w) refl

  abbrev those_above : EntityUid → List EntityUid
  those_above u = ancestors_among h.actions h.above.numbers.entries h.above.spans u

  those_ascend : (u : EntityUid) → IsAscending (those_above u)
  those_ascend u = IsStrictlySortedBy-filter uid_cmp (λ w. action_has_ancestor h.above.numbers.entries h.above.spans u w) h.actions
      (subst (λ (us : List EntityUid). IsAscending us) (sym are.actions) are.ascending)

  all_those : (u : EntityUid) → IsAction s u → AreAllAncestorsOf (action_parents s) u (those_above u)
  all_those u a w =
      let told = above_told u w a (at u) refl in
      let test = λ (x : EntityUid). action_has_ancestor h.above.numbers.entries h.above.spans u x in
      ((λ c. told.0 (passes test h.actions w c).1), (λ above. stays test h.actions w (action_listed w (above_is_action u w above)) (told.1 above)))

  pub ancestors_found : (u : EntityUid) (us : List EntityUid) → option_map (λ parents. those_above u) (get uid_cmp h.members u) ≡ Some us
      → IsAction s u × IsAscending us × AreAllAncestorsOf (action_parents s) u us
  ancestors_found u us e =
      let x = from_map (λ (parents : List EntityUid). those_above u) (get uid_cmp h.members u) us e in
      let a = (members_found s h.members are.members u x.0 x.1).0 in
      (a, subst (λ (xs : List EntityUid). IsAscending xs) x.2 (those_ascend u), subst (λ (xs : List EntityUid). AreAllAncestorsOf (action_parents s) u xs) x.2 (all_those u a))

  pub ancestors_there : (u : EntityUid) → IsAction s u → IsSome (option_map (λ parents. those_above u) (get uid_cmp h.members u))
  ancestors_there u a = map_some (λ (parents : List EntityUid). those_above u) (get uid_cmp h.members u) (members_there s h.members are.members u a)

-- ---- types above types

module _ (s : ResolvedSchema) (own : NamesItsEntityTypes s) (t : TypeNumbers) (are : AreNumbers (type_parents s) s.entity_types t) where
  abbrev IsBelow : List ℕ → List ℕ → Type 0
  IsBelow child parent = IsAncestor (type_parents s) (type_uid parent) (type_uid child)

  -- a type that is declared has a number
  numbered : {G : Type 0} (n : List ℕ) → get text_cmp t.numbers n ≡ None → IsEntityType s n → G
  numbered n e is = is_none (get text_cmp t.numbers n) e (subst (λ (q : List ℕ). IsSome (get text_cmp t.numbers q)) is.2 (are.all is.0 is.1))

  parent_at : (child parent : List ℕ) (i : ℕ) → get text_cmp t.numbers child ≡ Some i → (o : Option ℕ) → get text_cmp t.numbers parent ≡ o
      → IsTrue (is_numbered_at t.spans i o) ↔ IsBelow child parent
  parent_at child parent i e None f = ((λ h. cc), (λ h. numbered parent f (above_declared s own child parent h)))
  parent_at child parent i e (Some j) f = are.exact child parent i j e f

  child_at : (child parent : List ℕ) (o : Option ℕ) → get text_cmp t.numbers child ≡ o
      → IsTrue (is_ancestor_at t.numbers.entries t.spans o parent) ↔ IsBelow child parent
  child_at child parent None e = ((λ h. cc), (λ h. numbered child e (below_declared s child parent h)))
  child_at child parent (Some i) e = parent_at child parent i e (get text_cmp t.numbers parent) refl

  pub parents_are : (child parent : List ℕ) → IsTrue (is_ancestor t.numbers.entries t.spans child parent) ↔ IsBelow child parent
  parents_are child parent = child_at child parent (get text_cmp t.numbers child) refl

-- ---- environments

places_are : (es : List (EnvironmentKey × CedarType)) → map (λ e. e.place) (map environment_view (map environment_of es)) ≡ keys_of es
places_are [] = refl
places_are (e ∷ es) = ap (λ (ps : List EnvironmentKey). e.0 ∷ ps) (places_are es)

module _ (s : ResolvedSchema) (places : Places) (are : ArePlaces s.commons s.actions places) (ordered : IsOrdered place_cmp places) where
  environment_at : (p : EnvironmentKey) (c : CedarType) → get place_cmp places p ≡ Some c → IsEnvironment s (environment_view (environment_of (p, c)))
  environment_at p c e = elim (are.sound p c e) [
    | inl m ↦
        let (u, applies, may) = m.2 in
        (u, record { action = m.0; declared = m.1; is = may.0.0; applies = applies; principal = may.0.1; resource = may.0.2 }, may.1)
    | inr none ↦ not_none c none
  ]

  pub environments_are : (e : EnvironmentOf) → Contains (map environment_view (map environment_of places.entries)) e → IsEnvironment s e
  environments_are e h =
      let seen = contains_map environment_view (map environment_of places.entries) e h in
      let made = contains_map environment_of places.entries seen.0 seen.1 in
      let at = (btree_map_get_iff place_cmp-IsTotalOrder place_cmp-IsAntisymmetric places ordered made.0.0 made.0.1).1 made.1 in
      subst (λ (x : EnvironmentOf). IsEnvironment s x) (ap environment_view made.2 ∙ seen.2) (environment_at made.0.0 made.0.1 at)

  pub all_environments : (p : EnvironmentKey) → IsEnvironmentKey s p → Contains (map (λ e. e.place) (map environment_view (map environment_of places.entries))) p
  all_environments p (u, a) =
      subst (λ (ps : List EnvironmentKey). Contains ps p) (sym (places_are places.entries))
      ((btree_map_contains_key_iff place_cmp-IsTotalOrder place_cmp-IsAntisymmetric places p).0
      (are.all p (a.action, a.declared, (u, a.applies, (a.is, a.principal, a.resource)))))

  pub environments_ascend : IsStrictlySortedBy place_cmp (map (λ e. e.place) (map environment_view (map environment_of places.entries)))
  environments_ascend = subst (λ (ps : List EnvironmentKey). IsStrictlySortedBy place_cmp ps) (sym (places_are places.entries)) ordered

-- ---- all together

made_answers : (s : ResolvedSchema) → NamesItsEntityTypes s → AreNamed s → (label : List ℕ) (t : Types) (h : Hierarchies) → AreTypesOf s.commons s t → AreHierarchiesOf s h
    → MatchesDeclarations s (schema_view (kept label t.environments h.actions t.shapes h.members h.above.numbers h.above.spans h.types.numbers h.types.spans))
made_answers s own called label t h types hierarchies = record {
  shapes = shape_found s t.shapes types.shapes;
  all_shapes = shape_there s t.shapes types.shapes;
  actions = λ u. subst (λ (us : List EntityUid). Contains us u ↔ IsAction s u) (sym hierarchies.actions) (actions_are s h.members hierarchies.members u);
  actions_ascend = subst (λ (us : List EntityUid). IsAscending us) (sym hierarchies.actions) hierarchies.ascending;
  member_of = members_found s h.members hierarchies.members;
  all_member_of = members_there s h.members hierarchies.members;
  ancestors = ancestors_found s called h hierarchies;
  all_ancestors = ancestors_there s called h hierarchies;
  parents = parents_are s own h.types hierarchies.types;
  environments = subst (λ (es : List Environment). (e : EnvironmentOf) → Contains (map environment_view es) e → IsEnvironment s e) (sym types.environments) (environments_are s types.places types.are types.ordered);
  all_environments = subst (λ (es : List Environment). (p : EnvironmentKey) → IsEnvironmentKey s p → Contains (map (λ e. e.place) (map environment_view es)) p) (sym types.environments) (all_environments s types.places types.are types.ordered);
  environments_ascend = subst (λ (es : List Environment). IsStrictlySortedBy place_cmp (map (λ e. e.place) (map environment_view es))) (sym types.environments) (environments_ascend s types.places types.are types.ordered);
}

-- what was made is the schema that the bytes state
pub made_schema : (bytes : List ℕ) (s : ResolvedSchema) → DescribesFile bytes s → NamesItsEntityTypes s → IsSound s → (label : List ℕ) → label ≡ encode_lower (sha256 bytes) → (t : Types) (h : Hierarchies)
    → AreTypesOf s.commons s t → AreHierarchiesOf s h → IsParsedAs bytes (schema_view (kept label t.environments h.actions t.shapes h.members h.above.numbers h.above.spans h.types.numbers h.types.spans))
made_schema bytes s states own sound label is t h types hierarchies = record {
  named = s;
  states = states;
  sound = sound;
  label = is;
  answers = made_answers s own (names_of bytes s states) label t h types hierarchies;
}
