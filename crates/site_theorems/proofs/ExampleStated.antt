-- The text states the schema.
use Rattle.std.proofs.Common.{◌≡◌, ◌∙◌, ℕ, List, [], ◌∷◌, Bool, true, false, Option, Some, None, Ok, refl, sym, ap}
use Rattle.std.proofs.Common.{subst, inl, inr, arith}
use Rattle.std.specs.Prelude.{codes, Contains, IsSome, if◌then◌else◌}
use Rattle.std.specs.Str.{bytes_eq}
use Rattle.std.specs.List.Sorted.{IsStrictlySortedBy}
use Rattle.std.proofs.lemmas.Slice.Eq.{bytes_eq-Decides}
use Rattle.values.specs.declared.entity_uid.EntityUid.{EntityUid}
use Rattle.site.specs.ancestor_search.Hierarchy.{Parents, IsAncestor, AreAllAncestorsOf, IsAscending}
use Rattle.site.specs.ancestor_search.Decided.{is_same}
use Rattle.site.specs.ancestor_search.Deciding.{Contains-here, Contains-cases, Contains-none, same_uid}
use Rattle.site.specs.schema_types.Raw as raw
use Rattle.site.specs.schema_types.Raw.{Raw}
use Rattle.site.specs.schema_types.Qualified as qualified
use Rattle.site.specs.schema_types.Qualified.{Qualified}
use Rattle.site.specs.schema_types.Cedar.{Cedar, IsTooLarge}
use Rattle.site.specs.schema_types.Expansions.{IsExpansion, AreFieldExpansions}
use Rattle.site.specs.schema_types.Names.{found, as_declared, any_named, entity_named, common_named}
use Rattle.site.specs.schema_types.Names.{qualified_of, fields_of, built_in}
use Rattle.json_words.specs.Each.{each}
use Rattle.site.specs.schema_reading.FileForm.{NamespaceOf, EntityTypeOf, ActionOf, AppliesToOf}
use Rattle.site.specs.schema.declared.parts.EnvironmentKey.{EnvironmentKey}
use Rattle.site.specs.schema_reading.Qualifying.{scope_in, ResolvedEntityType, ResolvedAppliesTo, ResolvedAction, ResolvedSchema}
use Rattle.site.specs.schema_reading.Qualifying.{qualified, qualified_namespaces, qualified_namespace}
use Rattle.site.specs.schema_reading.Qualifying.{qualified_commons, qualified_entity_types, qualified_actions}
use Rattle.site.specs.schema_reading.Qualifying.{qualified_action, qualified_use, qualified_entity_type}
use Rattle.site.specs.schema_reading.Qualifying.{qualified_common, parents_named, parent_named}
use Rattle.site.specs.schema_reading.Qualifying.{entity_types_named}
use Rattle.site.specs.schema_reading.Records.{is_no_record, common_meant, MeansNoRecord, MustBeRecord}
use Rattle.site.specs.schema_reading.Records.{SomeIsNoRecord}
use Rattle.site.specs.schema_reading.Naming.{DescribesFile}
use Rattle.site.specs.schema.Laws.{DeclarationsAreRead}
use Rattle.site.specs.schema.Schemas.{IsSchemaOf, IsSound, MatchesDeclarations, action_parents, type_parents, IsSchemaType}
use Rattle.site.specs.schema.Schemas.{HasSmallExpansion, IsAction, IsShape, IsEnvironment, Applies, EnvironmentOf}
use Rattle.site.specs.schema.Schemas.{place_cmp, type_uid, IsRecordOf}
use Rattle.site.specs.schema_reading.Laws.{IsShapeOrContext}
use Rattle.site.specs.schema.Places.{place_of}
use Rattle.site.specs.typing.Example.{view}
use Rattle.site_theorems.specs.Example.{schema_text, schema, user, viewing, user_shape}
use Rattle.site_theorems.proofs.ExampleText.{schema_json, namespaces, json, shape}

-- ---- with each name found

abbrev the_shape : Qualified
the_shape = qualified.record_of (qualified.field (codes "age") qualified.long false qualified.no_fields)

abbrev the_type : ResolvedEntityType
the_type = record { name = user; parents = []; shape = Some the_shape }

abbrev the_use : ResolvedAppliesTo
the_use = record { principals = user ∷ []; resources = user ∷ []; context = None }

abbrev the_action : ResolvedAction
the_action = record { uid = view; parents = []; applies_to = Some the_use }

abbrev named : ResolvedSchema
named = record { commons = []; entity_types = the_type ∷ []; actions = the_action ∷ [] }

names_found : qualified namespaces ≡ Ok named
unfolding namespaces qualified qualified_namespaces qualified_namespace qualified_commons qualified_entity_types qualified_actions qualified_action qualified_use qualified_entity_type qualified_common parents_named parent_named entity_types_named each found as_declared any_named entity_named common_named qualified_of fields_of built_in
names_found = refl

-- ---- one of each

pub only : {A : Type 0} {x y : A} → Contains (x ∷ []) y → x ≡ y
only {A} {x} {y} m = elim (Contains-cases x [] y m) [ inl e ↦ e | inr n ↦ Contains-none y n ]

pub some_same : {A : Type 0} {x y : A} → Some x ≡ Some y → x ≡ y
some_same {A} {x} {y} e = cc

pub some_none : {A G : Type 0} {x : A} → None ≡ Some x → G
some_none e = absurd cc

-- ---- shapes and contexts are records

abbrev raw_shape : Raw
raw_shape = raw.record_of (raw.field (codes "age") raw.long false raw.no_fields)

no_record : (ns : List NamespaceOf) (own : Option (List ℕ)) (r : Raw) → r ≡ raw_shape → MeansNoRecord ns own r → ⊥
no_record ns own r e (MeansNoRecord.form o s m n) =
    let f : is_no_record (scope_in ns) own raw_shape ≡ true = subst (λ (x : Raw). is_no_record (scope_in ns) own x ≡ true) e n in
    absurd cc
no_record ns own r e (MeansNoRecord.named o s c m d rest) =
    some_none (subst (λ (x : Raw). common_meant (scope_in ns) own x ≡ Some c.name) e m)

abbrev the_stated_type : EntityTypeOf
the_stated_type = record { name = user; parents = []; shape = Some raw_shape }

abbrev the_stated_use : AppliesToOf
the_stated_use = record { principals = user ∷ []; resources = user ∷ []; context = None }

abbrev the_stated_action : ActionOf
the_stated_action = record { id = codes "view"; parents = []; applies_to = Some the_stated_use }

abbrev the_namespace : NamespaceOf
the_namespace = record { name = None; commons = []; entity_types = the_stated_type ∷ []; actions = the_stated_action ∷ [] }

is_shape : (r : Raw) → MustBeRecord the_namespace r → r ≡ raw_shape
is_shape r (inl (e, c, at)) =
    sym (some_same (subst (λ (x : EntityTypeOf). x.shape ≡ Some r) (sym (only c)) at))
is_shape r (inr (a, c, used_by)) =
    let used : the_stated_use ≡ used_by.0 = some_same (subst (λ (x : ActionOf). x.applies_to ≡ Some used_by.0) (sym (only c)) used_by.1) in
    some_none (subst (λ (x : AppliesToOf). x.context ≡ Some r) (sym used) used_by.2)

records : SomeIsNoRecord namespaces → ⊥
unfolding namespaces
records s =
    let stands : MustBeRecord the_namespace s.type = subst (λ (n : NamespaceOf). MustBeRecord n s.type) (sym (only s.stated)) s.stands in
    no_record namespaces s.namespace.name s.type (is_shape s.type stands) s.means

pub states : DescribesFile schema_text named
states = record { value = schema_json; namespaces = namespaces; json = json; shape = shape; named = record { records = records; found = names_found } }

-- ---- no action is above itself, and the types are written out

no_parent : (u c : EntityUid) → Contains (action_parents named u) c → ⊥
no_parent u c m = none (is_same view u) m
  where
    none : (b : Bool) → Contains (if b then [] else []) c → ⊥
    none true m = Contains-none c m
    none false m = Contains-none c m

no_type_parent : (u c : EntityUid) → Contains (type_parents named u) c → ⊥
no_type_parent u c m = none (is_same (type_uid user) u) m
  where
    none : (b : Bool) → Contains (if b then [] else []) c → ⊥
    none true m = Contains-none c m
    none false m = Contains-none c m

no_path : (parents : Parents) → ((u c : EntityUid) → Contains (parents u) c → ⊥) → (a b : EntityUid) → IsAncestor parents a b → ⊥
no_path parents none a b ([], p) = none b a p
no_path parents none a b (c ∷ cs, p) = none b c p.0

shape_written : IsExpansion [] the_shape user_shape
shape_written = IsExpansion.record_of _ _ (AreFieldExpansions.field _ _ _ _ _ _ IsExpansion.long AreFieldExpansions.no_fields)

small : IsTooLarge user_shape → ⊥
small (inl h) = omega arith
small (inr h) = omega arith

is_the_shape : (r : Qualified) → IsShapeOrContext named r → r ≡ the_shape
is_the_shape r (inl (e, c, at)) = sym (some_same (subst (λ (x : ResolvedEntityType). x.shape ≡ Some r) (sym (only c)) at))
is_the_shape r (inr (a, c, used_by)) =
    let used : the_use ≡ used_by.0 = some_same (subst (λ (x : ResolvedAction). x.applies_to ≡ Some used_by.0) (sym (only c)) used_by.1) in
    some_none (subst (λ (x : ResolvedAppliesTo). x.context ≡ Some r) (sym used) used_by.2)

has_small_expansions : (r : Qualified) → IsSchemaType named r → HasSmallExpansion [] r
has_small_expansions r (IsSchemaType.common q s d) = absurd d
has_small_expansions r (IsSchemaType.shape_or_context s h) =
    subst (λ (x : Qualified). HasSmallExpansion [] x) (sym (is_the_shape r h)) (user_shape, shape_written, small)

pub sound : IsSound named
sound = record { no_cycle = λ h. no_path (action_parents named) no_parent h.0 h.0 h.1; has_small_expansions = has_small_expansions }

-- ---- what is answered

shape_there : (n : List ℕ) (b : Bool) → bytes_eq n user ≡ b → (t : Cedar) → (if b then Some user_shape else None) ≡ Some t → IsShape named n t
shape_there n true e t h =
    (the_type, Contains-here the_type [], sym ((bytes_eq-Decides n user).0 e), subst (λ (x : Cedar). IsRecordOf [] (Some the_shape) x) (some_same h) shape_written)
shape_there n false e t h = some_none h

is_view : (u : EntityUid) → view ≡ u → IsAction named u
is_view u e = (the_action, Contains-here the_action [], e)

action_is : (u : EntityUid) → IsAction named u → view ≡ u
action_is u (a, c, e) = ap (λ (x : ResolvedAction). x.uid) (only c) ∙ e

none_ascend : IsAscending []
unfolding IsStrictlySortedBy
none_ascend = tt

ancestors_there : (u : EntityUid) (us : List EntityUid) (b : Bool) → is_same view u ≡ b → (if b then Some [] else None) ≡ Some us
    → IsAction named u × IsAscending us × AreAllAncestorsOf (action_parents named) u us
ancestors_there u us true e h = (
  is_view u (same_uid view u e),
  subst (λ (x : List EntityUid). IsAscending x) (some_same h) none_ascend,
  subst (λ (x : List EntityUid). AreAllAncestorsOf (action_parents named) u x) (some_same h) (λ a. ((λ m. Contains-none a m), (λ p. absurd (no_path (action_parents named) no_parent a u p)))),
)
ancestors_there u us false e h = some_none h

no_parents_here : (u : EntityUid) → [] ≡ action_parents named u
no_parents_here u = none (is_same view u) []
  where
    none : (b : Bool) (us : List EntityUid) → us ≡ (if b then us else us)
    none true us = refl
    none false us = refl

member_of_there : (u : EntityUid) (us : List EntityUid) (b : Bool) → is_same view u ≡ b → (if b then Some [] else None) ≡ Some us
    → IsAction named u × (us ≡ action_parents named u)
member_of_there u us true e h = (is_view u (same_uid view u e), sym (some_same h) ∙ no_parents_here u)
member_of_there u us false e h = some_none h

one_ascends : IsAscending (view ∷ [])
unfolding IsStrictlySortedBy
one_ascends = (tt, tt)

one_place_ascends : IsStrictlySortedBy place_cmp (viewing.place ∷ [])
unfolding IsStrictlySortedBy
one_place_ascends = (tt, tt)

viewing_is : IsEnvironment named viewing
viewing_is = (the_use, record { action = the_action; declared = Contains-here the_action []; is = refl; applies = refl; principal = Contains-here user []; resource = Contains-here user [] }, refl)

place_is : (p : EnvironmentKey) (u : ResolvedAppliesTo) → Applies named p u → viewing.place ≡ p
place_is p u h =
    let used : the_use ≡ u = some_same (subst (λ (x : ResolvedAction). x.applies_to ≡ Some u) (sym (only h.declared)) h.applies) in
    let action : view ≡ p.action = action_is p.action (h.action, h.declared, h.is) in
    let principal : user ≡ p.principal = only (subst (λ (x : ResolvedAppliesTo). Contains x.principals p.principal) (sym used) h.principal) in
    let resource : user ≡ p.resource = only (subst (λ (x : ResolvedAppliesTo). Contains x.resources p.resource) (sym used) h.resource) in
    ap (λ (a : EntityUid). place_of a user user) action ∙ ap (λ (n : List ℕ). place_of p.action n user) principal ∙ ap (λ (n : List ℕ). place_of p.action p.principal n) resource

pub answers : MatchesDeclarations named schema
answers = record {
  shapes = λ n t h. shape_there n (bytes_eq n user) refl t h;
  all_shapes = λ e c. subst (λ (x : ResolvedEntityType). IsSome (schema.shape x.name)) (only c) refl;
  actions = λ u. ((λ c. is_view u (only c)), (λ a. subst (λ (x : EntityUid). Contains (view ∷ []) x) (action_is u a) (Contains-here view [])));
  actions_ascend = one_ascends;
  member_of = λ u us h. member_of_there u us (is_same view u) refl h;
  all_member_of = λ u a. subst (λ (x : EntityUid). IsSome (schema.member_of x)) (action_is u a) refl;
  ancestors = λ u us h. ancestors_there u us (is_same view u) refl h;
  all_ancestors = λ u a. subst (λ (x : EntityUid). IsSome (schema.ancestors x)) (action_is u a) refl;
  parents = λ child above. ((λ h. absurd cc), (λ p. absurd (no_path (type_parents named) no_type_parent (type_uid above) (type_uid child) p)));
  environments = λ e c. subst (λ (x : EnvironmentOf). IsEnvironment named x) (only c) viewing_is;
  all_environments = λ p h. subst (λ (x : EnvironmentKey). Contains (viewing.place ∷ []) x) (place_is p h.0 h.1) (Contains-here viewing.place []);
  environments_ascend = one_place_ascends;
}

pub something_is_stated : DeclarationsAreRead → IsSchemaOf schema_text schema
something_is_stated read = record { named = named; states = (read schema_text named).0 states; sound = sound; label = refl; answers = answers }
