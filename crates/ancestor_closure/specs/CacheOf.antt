-- Defines when an ancestor cache is right for a hierarchy: when it has exactly the ancestors and the children of each
-- entity, and the cyclic entities.
use Rattle.values.specs.declared.entity_uid.EntityUid.{EntityUid}
use Rattle.ancestor_search.specs.Hierarchy.{Parents}
use Rattle.ancestor_closure.specs.Lists.{IsCacheContent, AgreeBut, ancestors_in, children_in}
use Rattle.ancestor_closure.specs.declared.ancestor_cache.AncestorCache.{AncestorCache}

-- `IsCacheOf parents kept` holds if the cache `kept` is right for the hierarchy `parents`: it has exactly the ancestors
-- and the children of each entity, and the cyclic entities.
abbrev pub IsCacheOf : Parents → AncestorCache → Type 0
IsCacheOf parents kept =
    IsCacheContent parents (ancestors_in kept.relatives) (children_in kept.relatives) kept.cyclic.keys

-- `IsStaleAt uid after held` holds if the cache `held` is right for some hierarchy that differs from `after` at most in
-- the parents of `uid`.
pub record IsStaleAt (uid : EntityUid) (after : Parents) (held : AncestorCache) : Type 0 where
  pub before : Parents
  pub kept : IsCacheOf before held
  pub others : AgreeBut uid before after
