-- What holds of each schema that bytes state.
use Rattle.std.proofs.Common.{◌≡◌, ℕ, arith, List, [], Option, Some, None, refl, sym, subst, inl, inr}
use Rattle.std.specs.Prelude.{◌⊎◌, Contains, IsSome}
use Rattle.std.specs.List.Sorted.{IsStrictlySortedBy}
use Rattle.values.specs.declared.entity_uid.EntityUid.{EntityUid}
use Rattle.ancestor_search.specs.Deciding.{IsAncestor-joined}
use Rattle.schema_types.specs.Qualified.{Qualified}
use Rattle.schema_types.specs.Cedar.{Cedar, CedarFields, record_of, no_fields, IsTooLarge}
use Rattle.schema_types.specs.Expansions.{Declares, IsExpansion}
use Rattle.schema_types.specs.Ascending.{Ascend, KeysAscend}
use Rattle.schema_types.specs.AscendingLaw.{WrittenTypesAscend}
use Rattle.schema_types.specs.Law.{OneWritten, WrittenEntitiesAreNamed}
use Rattle.schema_types.specs.Mentions.{MentionsEntity, NamesEntity}
use Rattle.schema_reading.specs.Qualifying.{ResolvedSchema}
use Rattle.schema_reading.specs.Laws as names
use Rattle.schema_reading.specs.Laws.{IsShapeOrContext, DeclaresOnce, TypesAscend, IsEntityType, NamesItsEntityTypes}
use Rattle.schema.specs.Schemas.{StatedSchema, MatchesDeclarations, IsAction, IsRecordOf, IsSound, shape_or_context, action_parents}
use Rattle.schema.specs.Schemas.{type_parents, type_uid}
use Rattle.schema.proofs.HierarchyLemmas.{last_edge, action_edge, above_declared, below_declared}
use Rattle.schema.proofs.NameLemmas.{AreNamed, names_of}
use Rattle.schema.specs.WellFormed.{AreAttributes, IsActionType, IsWellFormed}
use Rattle.schema.specs.inner.ByNaming.{ParsedSchemasAreWellFormed}

none_ascend : Ascend []
unfolding IsStrictlySortedBy
none_ascend = tt

empty_small : IsTooLarge (record_of no_fields) → ⊥
empty_small (inl lt) = absurd (omega (arith, lt))
empty_small (inr lt) = absurd (omega (arith, lt))

no_attributes : (t : Cedar) → t ≡ record_of no_fields → AreAttributes t
no_attributes t e = record {
  fields = no_fields;
  is_record = e;
  ascend = subst KeysAscend (sym e) (none_ascend, tt);
  small = subst (λ (x : Cedar). IsTooLarge x → ⊥) (sym e) empty_small;
}

some_is : {A : Type 0} (o : Option A) (x : A) → o ≡ Some x → IsSome o
some_is (Some y) x e = refl
some_is None x e = absurd cc

is_some : {A : Type 0} (o : Option A) → IsSome o → (x : A) × (o ≡ Some x)
is_some (Some x) h = (x, refl)
is_some None h = absurd cc

-- ---- which entity types are declared

module _ (named : WrittenEntitiesAreNamed) (s : ResolvedSchema) (own : NamesItsEntityTypes s) where
  names_none : (t : Cedar) → t ≡ record_of no_fields → (q : List ℕ) → NamesEntity t q → IsEntityType s q
  names_none t e q h = absurd (subst (λ (x : Cedar). NamesEntity x q) e h)

  from_named : (r : Qualified) (q : List ℕ) → IsShapeOrContext s r → MentionsEntity r q ⊎ ((p : List ℕ) × (x : Qualified) × Declares s.commons p x × MentionsEntity x q) → IsEntityType s q
  from_named r q is (inl m) = own.records r is q m
  from_named r q is (inr (p, x, d, m)) = own.commons p x d q m

  names_declared : (o : Option Qualified) → ((r : Qualified) → o ≡ Some r → IsShapeOrContext s r) → (t : Cedar) → IsRecordOf s.commons o t → (q : List ℕ) → NamesEntity t q → IsEntityType s q
  names_declared None here t e q h = names_none t e q h
  names_declared (Some r) here t w q h = from_named r q (here r refl) (named s.commons r t w q h)

-- ---- all of it

module _ (one : OneWritten) (written : WrittenTypesAscend) (s : ResolvedSchema) (once : DeclaresOnce s) (ascend : TypesAscend s)
    (records : (r : Qualified) → IsShapeOrContext s r → (t : Cedar) → IsExpansion s.commons r t → (fs : CedarFields) × (t ≡ record_of fs)) (sound : IsSound s)
    (named : WrittenEntitiesAreNamed) (own : NamesItsEntityTypes s) (called : AreNamed s) where
  attributes : (o : Option Qualified) → ((r : Qualified) → o ≡ Some r → IsShapeOrContext s r) → (t : Cedar) → IsRecordOf s.commons o t → AreAttributes t
  attributes None here t e = no_attributes t e
  attributes (Some r) here t w =
      let is = here r refl in
      let f = records r is t w in
      let small = sound.has_small_expansions r (shape_or_context r is) in
      record {
        fields = f.0;
        is_record = f.1;
        ascend = written s.commons ascend.commons r t w (ascend.records r is);
        small = subst (λ (x : Cedar). IsTooLarge x → ⊥) (one s.commons once.commons r small.0 t small.1 w) small.2;
      }

  module _ (v : StatedSchema) (answers : MatchesDeclarations s v) where
    there : (q : List ℕ) → IsEntityType s q → IsSome (v.shape q)
    there q (e, here, name) = subst (λ (n : List ℕ). IsSome (v.shape n)) name (answers.all_shapes e here)

    -- what is above an action is a parent of one
    above_is_action : (u w : EntityUid) (us : List EntityUid) → v.ancestors u ≡ Some us → Contains us w → Contains v.actions w
    above_is_action u w us e h =
        let above = ((answers.ancestors u us e).2 w).0 h in
        let last = last_edge (action_parents s) u above.0 w above.1 in
        let at = action_edge s.actions last.0 w last.1 in
        (answers.actions w).1 (called.parents at.0 at.1 w at.2)

    action_typed : (u : EntityUid) → IsAction s u → IsActionType u.type_name
    action_typed u (a, here, same) = subst (λ (x : EntityUid). IsActionType x.type_name) same (called.actions a here)

    shape_apart : (n : List ℕ) (t : Cedar) → v.shape n ≡ Some t → IsActionType n → ⊥
    shape_apart n t e action =
        let x = answers.shapes n t e in called.entity_types x.0 x.1 (subst (λ (m : List ℕ). IsActionType m) (sym x.2) action)

    well_formed : IsWellFormed v
    well_formed = record {
      shapes = λ n t e. let x = answers.shapes n t e in attributes x.0.shape (λ r is. inl (x.0, x.1, is)) t x.3;
      contexts = λ e h. let x = answers.environments e h in attributes x.0.context (λ r is. inr (x.1.action, x.1.declared, (x.0, x.1.applies, is))) e.context x.2;
      environments_ascend = answers.environments_ascend;
      places = λ e h. let x = answers.environments e h in (answers.actions e.place.action).1 (x.1.action, x.1.declared, x.1.is);
      actions = λ u. ((λ h. answers.all_ancestors u ((answers.actions u).0 h)), (λ h. let x = is_some (v.ancestors u) h in (answers.actions u).1 (answers.ancestors u x.0 x.1).0));
      actions_stated = λ u. ((λ h. answers.all_member_of u ((answers.actions u).0 h)), (λ h. let x = is_some (v.member_of u) h in (answers.actions u).1 (answers.member_of u x.0 x.1).0));
      actions_ascend = answers.actions_ascend;
      ancestors_ascend = λ u us e. (answers.ancestors u us e).1;
      ancestors_join = λ u w x us ws e h f i.
          (((answers.ancestors u us e).2 x).1 (IsAncestor-joined (action_parents s) u w x (((answers.ancestors u us e).2 w).0 h) (((answers.ancestors w ws f).2 x).0 i)));
      no_cycle = λ u us e h. sound.no_cycle (u, ((answers.ancestors u us e).2 u).0 h);
      ancestors_declared = above_is_action;
      actions_typed = λ u h. action_typed u ((answers.actions u).0 h);
      shapes_apart = λ n h. let x = is_some (v.shape n) h in shape_apart n x.0 x.1;
      parents_join = λ child parent above h i.
          (answers.parents child above).1 (IsAncestor-joined (type_parents s) (type_uid child) (type_uid parent) (type_uid above) ((answers.parents child parent).0 h) ((answers.parents parent above).0 i));
      shapes_name = λ n t e q h. let x = answers.shapes n t e in there q (names_declared named s own x.0.shape (λ r is. inl (x.0, x.1, is)) t x.3 q h);
      contexts_name = λ e h q m. let x = answers.environments e h in
          there q (names_declared named s own x.0.context (λ r is. inr (x.1.action, x.1.declared, (x.0, x.1.applies, is))) e.context x.2 q m);
      principals = λ e h. let x = answers.environments e h in there e.place.principal (own.principals x.1.action x.0 x.1.declared x.1.applies e.place.principal x.1.principal);
      resources = λ e h. let x = answers.environments e h in there e.place.resource (own.resources x.1.action x.0 x.1.declared x.1.applies e.place.resource x.1.resource);
      children = λ child parent h. there child (below_declared s child parent ((answers.parents child parent).0 h));
      parents = λ child parent h. there parent (above_declared s own child parent ((answers.parents child parent).0 h));
    }

pub stated_schemas_are_well_formed : OneWritten → WrittenTypesAscend → names.FilesDeclareOnce → names.FilesTypesAscend → names.ShapesAreRecords → names.FilesNameTheirEntityTypes → WrittenEntitiesAreNamed → ParsedSchemasAreWellFormed
stated_schemas_are_well_formed one written once ascend records own named bytes v is =
    well_formed one written is.named (once bytes is.named is.states) (ascend bytes is.named is.states) (records bytes is.named is.states) is.sound named (own bytes is.named is.states) (names_of bytes is.named is.states) v is.answers
