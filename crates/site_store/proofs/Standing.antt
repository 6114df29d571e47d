-- The caches of a store after a change: one of policies leaves the entities, and one of entities the policies.
use Rattle.std.proofs.Common.{◌≡◌, ap, sym, subst, IfOk}
use Rattle.std.specs.Option.{IfSome}
use Rattle.std.specs.Result.{result_ok}
use Rattle.std.specs.Prelude.{Option, Result, Ok, Err, OnOk, OnErr}
use Rattle.scope_index.specs.policy_grammar.declared.policy.Policy.{Policy}
use Rattle.ancestor_closure.specs.declared.ancestor_cache.AncestorCache.{AncestorCache}
use Rattle.site_meaning.specs.schema.SchemaEntries.{SchemaEntries}
use Rattle.site_meaning.specs.schema.Views.{schema_view}
use Rattle.scope_index.specs.Keys.{Kept}
use Rattle.site_meaning.specs.entity_data.declared.entity.Entity.{Entity}
use Rattle.stamped_store.specs.Store.{StoreEntries, concrete_entries}
use Rattle.site_store.specs.Indexed.{PolicyEntries, AreIndexed}
use Rattle.site_store.specs.CacheValidity.{EntityEntries, AreAncestorsOf}
use Rattle.site_store.specs.StoreViews.{AreValidCaches}

abbrev pub Entries : Type 0
Entries = StoreEntries Policy Entity

pub entities_stay : {T E : Type 0} (r : Result T E) (new old : Entries) (ps : PolicyEntries)
    → OnOk r (new ≡ concrete_entries ps old.entities) → OnErr r (new ≡ old) → new.entities ≡ old.entities
entities_stay (Ok t) new old ps is none = ap (λ k. k.entities) is
entities_stay (Err e) new old ps none is = ap (λ k. k.entities) is

pub policies_stay : {T E : Type 0} (r : Result T E) (new old : Entries) (es : EntityEntries)
    → OnOk r (new ≡ concrete_entries old.policies es) → OnErr r (new ≡ old) → new.policies ≡ old.policies
policies_stay (Ok t) new old es is none = ap (λ k. k.policies) is
policies_stay (Err e) new old es none is = ap (λ k. k.policies) is

module _ (schema lent : SchemaEntries) (is_lent : lent ≡ schema) where
  -- the caches are those of the borrowed schema
  pub as_lent : (k : Entries) (index : Option Kept) (ancestors : Option AncestorCache)
      → AreValidCaches (schema_view schema) k index ancestors → AreValidCaches (schema_view lent) k index ancestors
  as_lent k index ancestors h =
      subst (λ (x : SchemaEntries). AreValidCaches (schema_view x) k index ancestors) (sym is_lent) h

  pub as_held : (k : Entries) (index : Option Kept) (ancestors : Option AncestorCache)
      → AreValidCaches (schema_view lent) k index ancestors → AreValidCaches (schema_view schema) k index ancestors
  as_held k index ancestors h =
      subst (λ (x : SchemaEntries). AreValidCaches (schema_view x) k index ancestors) is_lent h

  pub ancestors_as_lent : (es : EntityEntries) (ancestors : Option AncestorCache)
      → IfSome ancestors (AreAncestorsOf (schema_view schema) es)
      → IfSome ancestors (AreAncestorsOf (schema_view lent) es)
  ancestors_as_lent es ancestors h =
      subst (λ (x : SchemaEntries). IfSome ancestors (AreAncestorsOf (schema_view x) es)) (sym is_lent) h

  -- after a change of an entity
  pub beside_entity : {T E : Type 0} (r : Result T E) (new old : Entries) (es : EntityEntries)
      → OnOk r (new ≡ concrete_entries old.policies es) → OnErr r (new ≡ old)
      → (index : Option Kept) → IfSome index (AreIndexed old.policies)
      → (ancestors : Option AncestorCache) → IfSome ancestors (AreAncestorsOf (schema_view lent) new.entities)
      → AreValidCaches (schema_view schema) new index ancestors
  beside_entity r new old es ok err index index_is ancestors updated_cache =
      record {
        index_is = subst (λ (ps : PolicyEntries). IfSome index (AreIndexed ps)) (sym (policies_stay r new old es ok err)) index_is;
        ancestors_are = subst (λ (x : SchemaEntries). IfSome ancestors (AreAncestorsOf (schema_view x) new.entities)) is_lent updated_cache;
      }

-- after a change of a policy
pub beside_policy : {T E : Type 0} (schema : SchemaEntries) (r : Result T E) (new old : Entries) (ps : PolicyEntries)
    → OnOk r (new ≡ concrete_entries ps old.entities) → OnErr r (new ≡ old)
    → (index : Option Kept) → IfSome index (AreIndexed new.policies)
    → (ancestors : Option AncestorCache) → IfSome ancestors (AreAncestorsOf (schema_view schema) old.entities)
    → AreValidCaches (schema_view schema) new index ancestors
beside_policy schema r new old ps ok err index indexed ancestors are =
    record {
      index_is = indexed;
      ancestors_are = subst (λ (es : EntityEntries). IfSome ancestors (AreAncestorsOf (schema_view schema) es))
          (sym (entities_stay r new old ps ok err)) are;
    }

-- a cache that was built, if there was memory
pub if_made : {T E : Type 0} (P : T → Type 0) (r : Result T E) → IfOk r P → IfSome (result_ok r) P
if_made P (Ok t) h = h
if_made P (Err e) h = tt
