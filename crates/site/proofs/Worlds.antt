-- Entities that were read, with a schema's actions, conform to it.
use Rattle.std.proofs.Common.{◌≡◌, ℕ, List, [], ◌∷◌, Bool, true, false, not, cond, Option, Some, None, Ok, refl, sym}
use Rattle.std.proofs.Common.{subst, inl, inr}
use Rattle.std.specs.Prelude.{Contains, ⊤, IsTrue, IsFalse, IsSome, codes}
use Rattle.serde_json.specs.Data.{Data}
use Rattle.serde_json.specs.Find.{get}
use Rattle.json_words.specs.ReadsAs.{◌>>=◌, or_fault, demand}
use Rattle.values.specs.declared.entity_uid.EntityUid.{EntityUid}
use Rattle.values.specs.declared.request.Request.{Request}
use Rattle.values.specs.Values.{record_of, fields_of}
use Rattle.values.specs.Fields.{Field}
use Rattle.site_meaning.specs.ancestor_search.Hierarchy.{Path, IsAncestor, AreAllAncestorsOf}
use Rattle.site_meaning.specs.ancestor_search.Decided.{is_same}
use Rattle.site_meaning.specs.ancestor_search.Deciding.{Contains-none, Contains-cases}
use Rattle.site_meaning.specs.schema_types.Cedar.{Cedar}
use Rattle.site_store.specs.schema.Schemas.{EnvironmentOf, StatedSchema}
use Rattle.site_store.specs.schema.WellFormed.{IsWellFormed, StatedSchemasAreWellFormed}
use Rattle.entities.specs.declared.fault.EntityFault.TheVariants.{UnknownType, ActionEntity, TagsLeftOut}
use Rattle.entities.specs.declared.fault.EntityFault.TheVariants.{SelfParent, BadParent}
use Rattle.site_store.specs.entity_data.declared.entity.Entity.{Entity}
use Rattle.entities.specs.declared.stated.StatedEntity.{StatedEntity}
use Rattle.entities.specs.EntityForms.{stated_in, is_absent_or_empty, or_empty}
use Rattle.entities.specs.Entities.{is_action_type, shape_of, attributes_in, parent_fits, parents_fit}
use Rattle.entities.specs.Entities.{parents_in, entity_stated_in}
use Rattle.entities.specs.Laws.{ActionTypeTestIsExact, SetsHoldTheirMembers}
use Rattle.site_store.specs.entity_data.UidSets.{uid_set}
use Rattle.entities.specs.Typing.{record_in}
use Rattle.site_store.specs.entity_data.declared.data.EntityData.{EntityData}
use Rattle.site_store.specs.entity_data.Entities.{EntityMap, action_or}
use Rattle.site_store.specs.entity_data.Entities as store
use Rattle.site_meaning.specs.entity_hierarchy.Laws.{closed_world}
use Rattle.site_meaning.specs.evaluator.Operators.{Entities}
use Rattle.sync_messages.specs.typing.Types.{no_field_types, record_type}
use Rattle.sync_messages.specs.typing.Membership.{Of, of_record, absent}
use Rattle.sync_messages.specs.typing.Laws.{ParentsDetermineAncestors}
use Rattle.sync_messages.specs.type_checker.FromSchemas.{attributes_of, shape_fields, declared_ancestors}
use Rattle.sync_messages.specs.type_checker.FromSchemas.{typing_environment_of}
use Rattle.site.specs.SoundReadings.{EntitiesAreOfTheirTypes, RequestsAreOfAnEnvironment}
use Rattle.site.specs.SoundWorlds.{AreRead, entity_kept, ParsedDataConforms}
use Rattle.site.proofs.Values.{bound, is_it, demanded}

-- ---- what is read is no action, and has parents that it may have

plain_type : (b : Bool) (x : ⊤) → demand ActionEntity (not b) ≡ Ok x → b ≡ false
plain_type true x h = absurd cc
plain_type false x h = refl

shape_plain : (s : StatedSchema) (name : List ℕ) (t : Cedar) → shape_of s name ≡ Ok t → is_action_type name ≡ false
unfolding shape_of
shape_plain s name t h =
    let a = bound (demand ActionEntity (not (is_action_type name))) (λ (x : ⊤). or_fault UnknownType (s.shape name)) t h in
    plain_type (is_action_type name) a.0 a.1

attributes_plain : (s : StatedSchema) (name : List ℕ) (d : Data) (fs : List Field) → attributes_in s name d ≡ Ok fs → is_action_type name ≡ false
unfolding attributes_in
attributes_plain s name d fs h =
    let a = bound (shape_of s name) (λ (t : Cedar). demand TagsLeftOut (is_absent_or_empty (get (codes "tags") d)) >>= λ (x : ⊤). record_in t (or_empty (get (codes "attrs") d))) fs h in
    shape_plain s name a.0 a.1

parent_may : (s : StatedSchema) (uid p : EntityUid) (x : ⊤) → parent_fits s uid p ≡ Ok x → s.may_have_parent uid.type_name p.type_name ≡ true
unfolding parent_fits
parent_may s uid p x h =
    let a = bound (demand SelfParent (not (is_same p uid))) (λ (y : ⊤). demand BadParent (s.may_have_parent uid.type_name p.type_name)) x h in
    demanded BadParent (s.may_have_parent uid.type_name p.type_name) x a.2

parents_may : (s : StatedSchema) (uid : EntityUid) (ps : List EntityUid) (x : ⊤) → parents_fit s uid ps ≡ Ok x → (p : EntityUid) → Contains ps p
    → s.may_have_parent uid.type_name p.type_name ≡ true
unfolding parents_fit
parents_may s uid [] x h p c = Contains-none p c
parents_may s uid (w ∷ ps) x h p c =
    let a = bound (parent_fits s uid w) (λ (y : ⊤). parents_fit s uid ps) x h in
    elim (Contains-cases w ps p c) [
      | inl e ↦ subst (λ (z : EntityUid). s.may_have_parent uid.type_name z.type_name ≡ true) e (parent_may s uid w a.0 a.1)
      | inr t ↦ parents_may s uid ps x a.2 p t
    ]

all_may : SetsHoldTheirMembers → (s : StatedSchema) (uid : EntityUid) (ps us : List EntityUid) → parents_in s uid ps ≡ Ok us → (p : EntityUid) → Contains us p
    → s.may_have_parent uid.type_name p.type_name ≡ true
unfolding parents_in
all_may sets s uid ps us h p c =
    let a = bound (parents_fit s uid ps) (λ (x : ⊤). Ok (uid_set ps)) us h in
    let same : uid_set ps ≡ us = is_it (uid_set ps) us a.2 in
    parents_may s uid ps a.0 a.1 p (((sets ps).1 p).1 (subst (λ (l : List EntityUid). Contains l p) (sym same) c))

-- facts about an entity that is read
record IsPlain (s : StatedSchema) (e : Entity) : Type 0 where
  plain : is_action_type e.uid.type_name ≡ false
  parents : (p : EntityUid) → Contains e.parents p → s.may_have_parent e.uid.type_name p.type_name ≡ true

read_plain : SetsHoldTheirMembers → (s : StatedSchema) (d : Data) (e : Entity) → entity_stated_in s d ≡ Ok e → IsPlain s e
unfolding entity_stated_in
read_plain sets s d e h =
    let one = bound (stated_in d) (λ (stated : StatedEntity). attributes_in s stated.uid.type_name d >>= λ (attrs : List Field). parents_in s stated.uid stated.parents >>= λ (parents : List EntityUid). Ok (record { uid = stated.uid; attrs = attrs; parents = parents })) e h in
    let two = bound (attributes_in s one.0.uid.type_name d) (λ (attrs : List Field). parents_in s one.0.uid one.0.parents >>= λ (parents : List EntityUid). Ok (record { uid = one.0.uid; attrs = attrs; parents = parents })) e one.2 in
    let three = bound (parents_in s one.0.uid one.0.parents) (λ (parents : List EntityUid). Ok (record { uid = one.0.uid; attrs = two.0; parents = parents })) e two.2 in
    let made : Entity = record { uid = one.0.uid; attrs = two.0; parents = three.0 } in
    let is : IsPlain s made = record { plain = attributes_plain s one.0.uid.type_name d two.0 two.1; parents = all_may sets s one.0.uid one.0.parents three.0 three.1 } in
    subst (λ (x : Entity). IsPlain s x) (is_it made e three.2) is

-- ---- the world of entities that were read

some_here : {A : Type 0} (o : Option A) (x : A) → o ≡ Some x → IsSome o
some_here (Some y) x e = refl
some_here None x e = absurd cc

some_at : {A : Type 0} (o : Option A) → IsSome o → (x : A) × (o ≡ Some x)
some_at (Some x) h = (x, refl)
some_at None h = absurd cc

apart : {G : Type 0} (b : Bool) → b ≡ true → b ≡ false → G
apart b yes_it no_it = absurd cc

no_such : (b : Bool) → (b ≡ true → ⊥) → b ≡ false
no_such true h = absurd (h refl)
no_such false h = refl

module _ (told_types : ActionTypeTestIsExact) (sets : SetsHoldTheirMembers) (typed : EntitiesAreOfTheirTypes) (tells : ParentsDetermineAncestors)
    (s : StatedSchema) (wf : IsWellFormed s) (entities : EntityMap) (are_read : AreRead s entities) where
  abbrev W : Entities
  W = closed_world s entities

  action_is : (u : EntityUid) (us : List EntityUid) → s.ancestors u ≡ Some us → is_action_type u.type_name ≡ true
  action_is u us e = (told_types u.type_name).1 (wf.actions_typed u ((wf.actions u).1 (some_here (s.ancestors u) us e)))

  shape_is_plain : (n : List ℕ) → IsSome (s.shape n) → is_action_type n ≡ false
  shape_is_plain n there = no_such (is_action_type n) (λ h. wf.shapes_apart n there ((told_types n).0 h))

  kept_plain : (u : EntityUid) (kept : EntityData) → entities u ≡ Some kept → IsPlain s (entity_kept u kept)
  kept_plain u kept e = let read = are_read u kept e in read_plain sets s read.0 (entity_kept u kept) read.1

  -- ---- attributes

  none_of : (n : List ℕ) (b : Bool) → b ≡ true → Of (record_of (fields_of [])) (record_type (cond b no_field_types (shape_fields (s.shape n))))
  none_of n true h = of_record (λ k. absent)
  none_of n false h = absurd cc

  attributes_at : (u : EntityUid) (a : Option (List EntityUid)) (o : Option EntityData) (fs : List Field) → s.ancestors u ≡ a → entities u ≡ o
      → store.attributes_of (action_or a o) ≡ Some fs → Of (record_of (fields_of fs)) (record_type (attributes_of s u.type_name))
  attributes_at u (Some us) o fs e f h =
      let same : [] ≡ fs = cc in
      subst (λ (gs : List Field). Of (record_of (fields_of gs)) (record_type (attributes_of s u.type_name))) same (none_of u.type_name (is_action_type u.type_name) (action_is u us e))
  attributes_at u None (Some kept) fs e f h =
      let same : kept.attrs ≡ fs = cc in
      let read = are_read u kept f in
      subst (λ (gs : List Field). Of (record_of (fields_of gs)) (record_type (attributes_of s u.type_name))) same (typed s read.0 (entity_kept u kept) read.1)
  attributes_at u None None fs e f h = absurd cc

  -- ---- the ancestors of actions

  step_at : (u c : EntityUid) (us : List EntityUid) (a : Option (List EntityUid)) (o : Option EntityData) → a ≡ Some us → Contains (store.kept_parents (action_or a o)) c → Contains us c
  step_at u c us (Some ws) o e h = let same : ws ≡ us = cc in subst (λ (l : List EntityUid). Contains l c) same h
  step_at u c us None o e h = absurd cc

  step : (u c : EntityUid) (us : List EntityUid) → s.ancestors u ≡ Some us → Contains (W.parents u) c → Contains us c
  step u c us e h = step_at u c us (s.ancestors u) (entities u) e h

  back_at : (c : EntityUid) (us : List EntityUid) (a : Option (List EntityUid)) (o : Option EntityData) → a ≡ Some us → Contains us c → Contains (store.kept_parents (action_or a o)) c
  back_at c us (Some ws) o e h = let same : us ≡ ws = cc in subst (λ (l : List EntityUid). Contains l c) same h
  back_at c us None o e h = absurd cc

  climb : (u : EntityUid) (us : List EntityUid) → s.ancestors u ≡ Some us → (through : List EntityUid) (a : EntityUid) → Path W.parents u through a → Contains us a
  climb u us e [] a h = step u a us e h
  climb u us e (c ∷ cs) a h =
      let first = step u c us e h.0 in
      let above = some_at (s.ancestors c) ((wf.actions c).0 (wf.ancestors_declared u c us e first)) in
      wf.ancestors_join u c a us above.0 e first above.1 (climb c above.0 above.1 cs a h.1)

  -- an entity of an action type has no stored parents
  alone_at : (u p : EntityUid) (o : Option EntityData) → entities u ≡ o → is_action_type u.type_name ≡ true → Contains (store.kept_parents o) p → ⊥
  alone_at u p (Some kept) e action h = apart (is_action_type u.type_name) action (kept_plain u kept e).plain
  alone_at u p None e action h = Contains-none p h

  first_of : (u a : EntityUid) (through : List EntityUid) → Path W.parents u through a → (c : EntityUid) × Contains (W.parents u) c
  first_of u a [] h = (a, h)
  first_of u a (c ∷ cs) h = (c, h.0)

  undeclared : (u p : EntityUid) (a : Option (List EntityUid)) → s.ancestors u ≡ a → a ≡ None → is_action_type u.type_name ≡ true → Contains (store.kept_parents (action_or a (entities u))) p → ⊥
  undeclared u p (Some us) e none action h = absurd cc
  undeclared u p None e none action h = alone_at u p (entities u) refl action h

  all_above_at : (u : EntityUid) → is_action_type u.type_name ≡ true → (a : Option (List EntityUid)) → s.ancestors u ≡ a → AreAllAncestorsOf W.parents u (declared_ancestors a)
  all_above_at u action (Some us) e x = ((λ h. ([], back_at x us (s.ancestors u) (entities u) e h)), (λ h. climb u us e h.0 x h.1))
  all_above_at u action None e x = ((λ h. Contains-none x h), (λ h. let first = first_of u x h.0 h.1 in absurd (undeclared u first.0 (s.ancestors u) refl e action first.1)))

  -- ---- those of other entities

  allowed_at : (u p : EntityUid) → is_action_type u.type_name ≡ false → (a : Option (List EntityUid)) (o : Option EntityData) → s.ancestors u ≡ a → entities u ≡ o
      → Contains (store.kept_parents (action_or a o)) p → IsTrue (s.may_have_parent u.type_name p.type_name) × IsFalse (is_action_type p.type_name)
  allowed_at u p plain (Some us) o e f h = apart (is_action_type u.type_name) (action_is u us e) plain
  allowed_at u p plain None (Some kept) e f h =
      let may = (kept_plain u kept f).parents p h in
      (may, shape_is_plain p.type_name (wf.parents u.type_name p.type_name may))
  allowed_at u p plain None None e f h = Contains-none p h

  module _ (e : EnvironmentOf) (q : Request) where
    pub ancestors_of_others : (u a : EntityUid) → IsFalse (is_action_type u.type_name) → IsAncestor W.parents a u → IsTrue (s.may_have_parent u.type_name a.type_name)
    ancestors_of_others u a plain above =
        tells (typing_environment_of s e) W.parents (λ l m n h i. wf.parents_join l m n h i) (λ v p not_action h. allowed_at v p not_action (s.ancestors v) (entities v) refl refl h) u a plain above

pub parsed_data_conforms : StatedSchemasAreWellFormed → ActionTypeTestIsExact → SetsHoldTheirMembers → EntitiesAreOfTheirTypes → RequestsAreOfAnEnvironment → ParentsDetermineAncestors → ParsedDataConforms
parsed_data_conforms well told_types sets typed requests tells bytes s stated entities are_read d q states =
    let wf = well bytes s stated in
    let at = requests s d q states in (
      at.0,
      at.1,
      record {
        principal = at.2.principal;
        action = at.2.action;
        resource = at.2.resource;
        context = at.2.context;
        attributes = λ u fs h. attributes_at told_types sets typed tells s wf entities are_read u (s.ancestors u) (entities u) fs refl refl h;
        actions = λ u action. all_above_at told_types sets typed tells s wf entities are_read u action (s.ancestors u) refl;
        ancestors = ancestors_of_others told_types sets typed tells s wf entities are_read at.0 q;
      },
    )
