-- Defines when an ancestor cache is valid for a store.
use Rattle.std.specs.Prelude.{List}
use Rattle.values.specs.declared.entity_uid.EntityUid.{EntityUid}
use Rattle.ancestor_closure.specs.ancestor_search.Hierarchy.{Parents}
use Rattle.ancestor_closure.specs.declared.ancestor_cache.AncestorCache.{AncestorCache}
use Rattle.ancestor_closure.specs.CacheOf.{IsCacheOf}
use Rattle.site_meaning.specs.schema.Schemas.{StatedSchema}
use Rattle.site_meaning.specs.entity_data.declared.entity.Entity.{Entity}
use Rattle.stamped_store.specs.declared.entry.Entry.{Entry}
use Rattle.site_meaning.specs.StoreMeaning.{entity_data_under}
use Rattle.site_meaning.specs.TextsRead.{entity_at}

-- An `EntityEntries` is the list of a store's entries of entities.
abbrev pub EntityEntries : Type 0
EntityEntries = List (EntityUid × Entry Entity)

-- `edges_under schema entries` is the parent relation among the entities of `entries` and the actions of `schema`.
abbrev pub edges_under : StatedSchema → EntityEntries → Parents
edges_under schema entries = (entity_data_under schema (entity_at entries)).parents

-- `AreAncestorsOf schema entries held` holds if `held` is the ancestor cache of the parent relation among the entities
-- of `entries` and the actions of `schema`.
abbrev pub AreAncestorsOf : StatedSchema → EntityEntries → AncestorCache → Type 0
AreAncestorsOf schema entries held = IsCacheOf (edges_under schema entries) held
