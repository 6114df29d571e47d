-- Defines what contracts see of a store with caches (its schema and its entries), and when the caches are valid.
use Rattle.std.specs.Option.{IfSome}
use Rattle.std.specs.Prelude.{Option}
use Rattle.scope_index.specs.policy_grammar.declared.policy.Policy.{Policy}
use Rattle.ancestor_closure.specs.declared.ancestor_cache.AncestorCache.{AncestorCache}
use Rattle.site_meaning.specs.evaluator.Operators.{Entities}
use Rattle.site_meaning.specs.schema.SchemaEntries as kept_schema
use Rattle.site_meaning.specs.schema.Schemas.{StatedSchema}
use Rattle.site_meaning.specs.schema.Views.{schema_view}
use Rattle.scope_index.specs.Keys.{Kept}
use Rattle.site_meaning.specs.entity_data.declared.entity.Entity.{Entity}
use Rattle.stamped_store.specs.Store.{StoreEntries}
use Rattle.site_meaning.specs.StoreMeaning.{entity_data_under}
use Rattle.site_meaning.specs.TextsRead.{entity_at}
use Rattle.site_store.specs.Indexed.{AreIndexed}
use Rattle.site_store.specs.CacheValidity.{AreAncestorsOf}

-- A `StoreView` is a schema and the entries of a store, each text with its parsed value.
pub record StoreView : Type 0 where
  pub schema : kept_schema.SchemaEntries
  pub kept : StoreEntries Policy Entity

-- `world_stored s` is the entity data for evaluation that the store `s` has: its parsed entities, and the actions of
-- its schema.
abbrev pub world_stored : StoreView → Entities
world_stored s = entity_data_under (schema_view s.schema) (entity_at s.kept.entities)

-- `AreValidCaches schema k index ancestors` holds if the caches of the store `k` under `schema` are valid. `index`, if
-- present, has exactly the policies of `k`, each under its id. `ancestors`, if present, is the ancestor cache of the
-- entities of `k` and the actions of `schema`.
pub record AreValidCaches (schema : StatedSchema) (k : StoreEntries Policy Entity) (index : Option Kept)
    (ancestors : Option AncestorCache) : Type 0 where
  pub index_is : IfSome index (AreIndexed k.policies)
  pub ancestors_are : IfSome ancestors (AreAncestorsOf schema k.entities)
