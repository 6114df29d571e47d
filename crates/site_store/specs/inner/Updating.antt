-- Defines when a store's ancestor cache is valid except for one entity, as during an incremental update.
use Rattle.values.specs.declared.entity_uid.EntityUid.{EntityUid}
use Rattle.ancestor_closure.specs.declared.ancestor_cache.AncestorCache.{AncestorCache}
use Rattle.ancestor_closure.specs.CacheOf.{IsStaleAt}
use Rattle.site_meaning.specs.schema.Schemas.{StatedSchema}
use Rattle.site_store.specs.CacheValidity.{EntityEntries, edges_under}

-- `AreAncestorsBut uid schema entries held` holds if `held` is the ancestor cache of a parent relation that differs
-- from that of `entries` and the actions of `schema` at most in the parents of `uid`.
abbrev pub AreAncestorsBut : EntityUid → StatedSchema → EntityEntries → AncestorCache → Type 0
AreAncestorsBut uid schema entries held = IsStaleAt uid (edges_under schema entries) held
