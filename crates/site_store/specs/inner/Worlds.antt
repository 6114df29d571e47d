-- Defines when the data with which a store decides requests is valid: its index, its ancestor cache, and the entities
-- that are searched.
use Rattle.std.specs.Prelude.{◌≡◌, Option}
use Rattle.scope_index.specs.policy_grammar.declared.policy.Policy.{Policy}
use Rattle.scope_index.specs.Keys.{Kept}
use Rattle.ancestor_closure.specs.declared.ancestor_cache.AncestorCache.{AncestorCache}
use Rattle.site_meaning.specs.schema.SchemaEntries.{SchemaEntries}
use Rattle.site_meaning.specs.schema.Views.{schema_view}
use Rattle.site_meaning.specs.entity_data.declared.entity.Entity.{Entity}
use Rattle.site_meaning.specs.declared.stored_entities.StoredEntities.{StoredEntities}
use Rattle.stamped_store.specs.Store.{StoreEntries}
use Rattle.site_store.specs.StoreViews.{AreValidCaches}

-- `IsStoredWorld schema k index ancestors searched` holds if `index` and `ancestors` are valid for the store `k` under
-- `schema`, and `searched` has the entities of `k` and the actions of `schema`.
pub record IsStoredWorld (schema : SchemaEntries) (k : StoreEntries Policy Entity) (index : Option Kept)
    (ancestors : Option AncestorCache) (searched : StoredEntities × SchemaEntries) : Type 0 where
  pub beside : AreValidCaches (schema_view schema) k index ancestors
  pub store_is : searched.0.store.now ≡ k
  pub schema_is : searched.1 ≡ schema
