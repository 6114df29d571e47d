-- The entity data that the code sees of a store and a schema is that of their meaning.
use Rattle.std.proofs.Common.{◌≡◌, ◌∙◌, ap, subst, List, [], Some}
use Rattle.std.specs.Prelude.{Option}
use Rattle.std.specs.Option.{IfSome}
use Rattle.values.specs.declared.entity_uid.EntityUid.{EntityUid}
use Rattle.scope_index.specs.policy_grammar.declared.policy.Policy.{Policy}
use Rattle.scope_index.specs.Keys.{Kept}
use Rattle.ancestor_closure.specs.ancestor_search.Decided.{Decides, reaches}
use Rattle.ancestor_closure.specs.ancestor_search.Hierarchy.{Parents}
use Rattle.ancestor_closure.specs.declared.ancestor_cache.AncestorCache.{AncestorCache}
use Rattle.ancestor_closure.specs.CacheOf.{IsCacheOf}
use Rattle.site_meaning.specs.evaluator.Operators.{Entities, entities_with}
use Rattle.site_meaning.specs.schema.SchemaEntries.{SchemaEntries}
use Rattle.site_meaning.specs.schema.Views.{schema_view}
use Rattle.site_meaning.specs.entity_data.declared.entity.Entity.{Entity}
use Rattle.site_meaning.specs.entity_data.Entities.{EntityMap, attributes_of, kept_parents, action_or, uids_with}
use Rattle.site_meaning.specs.entity_data.Listing.{all_decided}
use Rattle.site_meaning.specs.entity_hierarchy.Entities.{entities_under, actions_under, action_uids, actions_are_listed}
use Rattle.stamped_store.specs.Store.{StoreEntries}
use Rattle.site_meaning.specs.declared.stored_entities.StoredEntities.{StoredEntities}
use Rattle.site_meaning.specs.StoreMeaning.{data_in, entity_data_under}
use Rattle.site_meaning.specs.TextsRead.{entity_at, uids_read}
use Rattle.site_meaning.specs.Listed.{entities_listed}
use Rattle.site_store.specs.CacheValidity.{edges_under, AreAncestorsOf}
use Rattle.site_store.specs.StoreViews.{StoreView, world_stored}
use Rattle.site_store.specs.inner.Worlds.{IsStoredWorld}

abbrev pub Seen : Type 0
Seen = StoredEntities × SchemaEntries

-- the entities that the code looks up, and the edges among them
abbrev pub asked : Seen → EntityMap
asked w = entities_under w.1 (data_in (entity_at w.0.store.now.entities))

abbrev pub edges_seen : Seen → Parents
edges_seen w u = kept_parents (asked w u)

abbrev pub world_seen : Seen → Entities
world_seen w = entities_with (λ u. attributes_of (asked w u)) (edges_seen w)

module _ (w : Seen) (s : StoredEntities) (schema : SchemaEntries) (k : StoreEntries Policy Entity)
    (is_seen : w ≡ (s, schema)) (is_kept : s.store.now ≡ k) where
  pub edges_are : edges_seen w ≡ edges_under (schema_view schema) k.entities
  edges_are =
      ap edges_seen is_seen ∙ ap (λ (l : StoreEntries Policy Entity). edges_under (schema_view schema) l.entities) is_kept

-- ---- a store with what is kept beside it

abbrev pub seen_store : SchemaEntries → StoreEntries Policy Entity → StoreView
seen_store schema k = record { schema = schema; kept = k }

-- the uids of its entities and of the actions
abbrev pub uids_stored : StoreView → List EntityUid
uids_stored s = uids_with (action_uids s.schema) (uids_read s.kept.entities)

pub stored_decides : (s : StoreView) → Decides (world_stored s).parents (reaches (world_stored s).parents (uids_stored s))
stored_decides s = all_decided (actions_under s.schema) (action_uids s.schema) (actions_are_listed s.schema)
    (data_in (entity_at s.kept.entities)) (uids_read s.kept.entities) (entities_listed s.kept.entities)

-- an action that states no group has no parents, whatever entities are stored
pub top_has_none : (s : StoreView) (u : EntityUid) → (schema_view s.schema).member_of u ≡ Some [] → (world_stored s).parents u ≡ []
top_has_none s u none =
    ap (λ (o : Option (List EntityUid)). kept_parents (action_or o (data_in (entity_at s.kept.entities) u))) none

module _ {schema : SchemaEntries} {k : StoreEntries Policy Entity} {index : Option Kept} {ancestors : Option AncestorCache} {w : Seen}
    (is : IsStoredWorld schema k index ancestors w) (s : StoreView) (view_is : seen_store schema k ≡ s) where
  -- what is searched is the entity data of the store,
  pub world_searched : world_seen w ≡ world_stored s
  world_searched =
      ap (λ (l : StoreEntries Policy Entity). entity_data_under (schema_view w.1) (entity_at l.entities)) is.store_is
      ∙ ap (λ (x : SchemaEntries). entity_data_under (schema_view x) (entity_at k.entities)) is.schema_is ∙ ap world_stored view_is

  pub edges_searched : edges_seen w ≡ (world_stored s).parents
  edges_searched = ap (λ (W : Entities). W.parents) world_searched

  -- and the cache has its ancestors
  pub ancestors_kept : (held : AncestorCache) → ancestors ≡ Some held → IsCacheOf (world_stored s).parents held
  ancestors_kept held stand =
      subst (λ (x : StoreView). IsCacheOf (world_stored x).parents held) view_is
      (subst (λ (o : Option AncestorCache). IfSome o (AreAncestorsOf (schema_view schema) k.entities)) stand is.beside.ancestors_are)
