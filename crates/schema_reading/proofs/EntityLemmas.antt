-- Each entity type that a file names is declared there.
use Rattle.std.proofs.Common.{◌≡◌, ◌∙◌, ℕ, List, map, true, Option, Some, Result, Ok, refl, sym, ap, subst}
use Rattle.std.specs.Prelude.{Contains}
use Rattle.std.specs.Str.{bytes_eq}
use Rattle.std.proofs.lemmas.Slice.Eq.{bytes_eq-Decides}
use Rattle.json_words.specs.ReadsAs.{◌>>=◌}
use Rattle.json_words.proofs.EachLemmas.{bind_ok}
use Rattle.schema_types.specs.Raw as raw
use Rattle.schema_types.specs.Qualified as qualified_types
use Rattle.schema_types.specs.Qualified.{Qualified}
use Rattle.schema_types.specs.Mentions.{MentionsEntity}
use Rattle.schema_types.specs.Law.{FoundEntitiesAreDeclared}
use Rattle.schema_types.specs.Names.{Scope, full_name, entity_named, qualified_of}
use Rattle.schema_types.specs.declared.fault.SchemaFault.{SchemaFault}
use Rattle.schema_reading.specs.FileForm.{EntityTypeOf, AppliesToOf, NamespaceOf}
use Rattle.schema_reading.specs.Naming.{DescribesFile}
use Rattle.schema_reading.specs.Laws.{IsEntityType, NamesItsEntityTypes}
use Rattle.schema_reading.specs.Qualifying.{entity_types_declared, scope_in, is_action_in, ResolvedEntityType, ResolvedAppliesTo, ResolvedAction, ResolvedSchema, entity_type_named, entity_types_named, type_named, qualified_entity_type, qualified_use, qualified_action, qualified_entity_types, qualified_actions, qualified}
use Rattle.schema_reading.proofs.FoundLemmas.{ok_same, read_from, read_to, all_of_from, all_of_to, map_from, some_passes, parts_of, namespace_from, namespace_to, namespace_parts, applies_from, record_from, common_from}

abbrev ok : {A : Type 0} → A → Result A SchemaFault
ok x = Ok x

-- ---- a name that was found is declared

entity_found : (sc : Scope) (own : Option (List ℕ)) (w q : List ℕ) → entity_type_named sc own w ≡ ok q → qualified_of sc own (raw.entity w) ≡ ok (qualified_types.entity q)
unfolding qualified_of entity_named
entity_found sc own w q e = ap (λ (x : Result (List ℕ) SchemaFault). x >>= λ z. ok (qualified_types.entity z)) e

named_declared : FoundEntitiesAreDeclared → (sc : Scope) (own : Option (List ℕ)) (ws qs : List (List ℕ)) → entity_types_named sc own ws ≡ ok qs → (q : List ℕ) → Contains qs q → sc.entities q ≡ true
unfolding entity_types_named
named_declared declared sc own ws qs e q here =
    let x = read_from (λ i w. entity_type_named sc own w) 0 ws qs e q here in
    declared sc own (raw.entity x.0) (qualified_types.entity q) (entity_found sc own x.0 q x.2.1) q refl

-- ---- the parts of what was found

entity_type_parts : (sc : Scope) (own : Option (List ℕ)) (x : EntityTypeOf) (e : ResolvedEntityType) → qualified_entity_type sc own x ≡ ok e
    → (entity_types_named sc own x.parents ≡ ok e.parents) × (full_name own x.name ≡ e.name)
unfolding qualified_entity_type
entity_type_parts sc own x e read =
    let a = bind_ok (entity_types_named sc own x.parents) _ e read in
    let b = bind_ok (type_named sc own x.shape) _ e a.2 in
    let same : (let y : ResolvedEntityType = record { name = full_name own x.name; parents = a.0; shape = b.0 } in y) ≡ e = ok_same (record { name = full_name own x.name; parents = a.0; shape = b.0 }) e b.2 in
    (a.1 ∙ ap (λ (y : ResolvedEntityType). ok y.parents) same, ap (λ (y : ResolvedEntityType). y.name) same)

use_parts : (sc : Scope) (own : Option (List ℕ)) (u : AppliesToOf) (f : ResolvedAppliesTo) → qualified_use sc own u ≡ ok f
    → (entity_types_named sc own u.principals ≡ ok f.principals) × (entity_types_named sc own u.resources ≡ ok f.resources)
unfolding qualified_use
use_parts sc own u f read =
    let a = bind_ok (entity_types_named sc own u.principals) _ f read in
    let b = bind_ok (entity_types_named sc own u.resources) _ f a.2 in
    let d = bind_ok (type_named sc own u.context) _ f b.2 in
    let same : (let y : ResolvedAppliesTo = record { principals = a.0; resources = b.0; context = d.0 } in y) ≡ f = ok_same (record { principals = a.0; resources = b.0; context = d.0 }) f d.2 in
    (a.1 ∙ ap (λ (y : ResolvedAppliesTo). ok y.principals) same, b.1 ∙ ap (λ (y : ResolvedAppliesTo). ok y.resources) same)

-- ---- of a file with each name found

module _ (ns : List NamespaceOf) (s : ResolvedSchema) (named : qualified ns ≡ ok s) where
  -- an entity type of a namespace is one of s
  entity_to : (q : List ℕ) → (scope_in ns).entities q ≡ true → IsEntityType s q
  unfolding qualified_entity_types
  entity_to q h =
      let x = some_passes (λ e. bytes_eq e q) (entity_types_declared ns) h in
      let n = all_of_from (λ n. map (λ e. full_name n.name e.name) n.entity_types) ns x.0 x.1 in
      let m = map_from (λ e. full_name n.0.name e.name) n.0.entity_types x.0 n.2 in
      let parts = parts_of ns s named in
      let p = namespace_to ns s named n.0 n.1 in
      let inside = namespace_parts (scope_in ns) (is_action_in ns) n.0 p.0 p.2 in
      let t = read_to (λ i y. qualified_entity_type (scope_in ns) n.0.name y) 0 n.0.entity_types p.0.entity_types inside.1 m.0 m.1 in
      let name = (entity_type_parts (scope_in ns) n.0.name m.0 t.0 t.2.1).1 in
      let there = subst (λ (y : ResolvedSchema). Contains y.entity_types t.0) parts.2 (all_of_to (λ y. y.entity_types) parts.0 p.0 t.0 p.1 t.1) in
      (t.0, there, sym name ∙ m.2 ∙ (bytes_eq-Decides x.0 q).0 x.2)

  entity_type_from : (e : ResolvedEntityType) → Contains s.entity_types e → (own : Option (List ℕ)) × (x : EntityTypeOf) × (qualified_entity_type (scope_in ns) own x ≡ ok e)
  unfolding qualified_entity_types
  entity_type_from e here =
      let parts = parts_of ns s named in
      let x = all_of_from (λ p. p.entity_types) parts.0 e (subst (λ (y : ResolvedSchema). Contains y.entity_types e) (sym parts.2) here) in
      let n = namespace_from ns s named x.0 x.1 in
      let inside = namespace_parts (scope_in ns) (is_action_in ns) n.0 x.0 n.2 in
      let t = read_from (λ i y. qualified_entity_type (scope_in ns) n.0.name y) 0 n.0.entity_types x.0.entity_types inside.1 e x.2 in
      (n.0.name, t.0, t.2.1)

  applies_to_in : (a : ResolvedAction) (f : ResolvedAppliesTo) → Contains s.actions a → a.applies_to ≡ Some f → (own : Option (List ℕ)) × (u : AppliesToOf) × (qualified_use (scope_in ns) own u ≡ ok f)
  unfolding qualified_actions
  applies_to_in a f here applies =
      let parts = parts_of ns s named in
      let x = all_of_from (λ p. p.actions) parts.0 a (subst (λ (y : ResolvedSchema). Contains y.actions a) (sym parts.2) here) in
      let n = namespace_from ns s named x.0 x.1 in
      let inside = namespace_parts (scope_in ns) (is_action_in ns) n.0 x.0 n.2 in
      let t = read_from (λ i y. qualified_action (scope_in ns) (is_action_in ns) n.0.name y) 0 n.0.actions x.0.actions inside.2 a x.2 in
      let u = applies_from (scope_in ns) (is_action_in ns) n.0.name t.0 a t.2.1 f applies in
      (n.0.name, u.0, u.2)

  module _ (declared : FoundEntitiesAreDeclared) where
    in_type : (own : Option (List ℕ)) (r : raw.Raw) (t : Qualified) → qualified_of (scope_in ns) own r ≡ ok t → (q : List ℕ) → MentionsEntity t q → IsEntityType s q
    in_type own r t e q m = entity_to q (declared (scope_in ns) own r t e q m)

    in_list : (own : Option (List ℕ)) (ws qs : List (List ℕ)) → entity_types_named (scope_in ns) own ws ≡ ok qs → (q : List ℕ) → Contains qs q → IsEntityType s q
    in_list own ws qs e q here = entity_to q (named_declared declared (scope_in ns) own ws qs e q here)

    all_declared : NamesItsEntityTypes s
    all_declared = record {
      commons = λ p r here q m. let c = common_from ns s named p r here in in_type c.0.own c.0.type r c.3 q m;
      records = λ r here q m. let x = record_from ns s named r here in in_type x.0.name x.1 r x.4 q m;
      parents = λ e here q m. let x = entity_type_from e here in in_list x.0 x.1.parents e.parents (entity_type_parts (scope_in ns) x.0 x.1 e x.2).0 q m;
      principals = λ a f here applies q m. let u = applies_to_in a f here applies in in_list u.0 u.1.principals f.principals (use_parts (scope_in ns) u.0 u.1 f u.2).0 q m;
      resources = λ a f here applies q m. let u = applies_to_in a f here applies in in_list u.0 u.1.resources f.resources (use_parts (scope_in ns) u.0 u.1 f u.2).1 q m;
    }

pub names_its_entity_types : FoundEntitiesAreDeclared → (bytes : List ℕ) (s : ResolvedSchema) → DescribesFile bytes s → NamesItsEntityTypes s
names_its_entity_types declared bytes s h = all_declared h.namespaces s h.named.found declared
