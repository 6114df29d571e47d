-- Defines the edges from stored entities that are not actions. Each edge of a cycle is one of these, since no action is
-- cyclic.
use Rattle.std.specs.Prelude.{List, [], Contains, Option, Some, None, IsSome}
use Rattle.values.specs.declared.entity_uid.EntityUid.{EntityUid}
use Rattle.evaluator.specs.ancestor_search.Hierarchy.{Parents}
use Rattle.evaluator.specs.ancestor_search.Decided.{HaveAllParents}
use Rattle.evaluator.specs.ancestor_search.Deciding.{Contains-none}
use Rattle.entity_data.specs.declared.data.EntityData.{EntityData}
use Rattle.entity_data.specs.Entities.{EntityMap, AreListed, Actions, kept_parents}
use Rattle.entity_data.specs.Listing.{kept_with_parents}

-- `parents_unless o e` are the parents in the entity data `e` of a uid; `[]` if `e` is `None`, or if `o` is not `None`.
-- Here `o` has the parents of the declared action with this uid, or is `None` if no declared action has this uid.
abbrev pub parents_unless : Option (List EntityUid) → Option EntityData → List EntityUid
parents_unless (Some parents) other = []
parents_unless None other = kept_parents other

-- `entity_edges actions entities` are the edges from each of the stored entities `entities` to its parents, except from
-- the uid of one of the declared actions `actions`.
abbrev pub entity_edges : Actions → EntityMap → Parents
entity_edges actions entities u = parents_unless (actions u) (entities u)

-- ---- each entity with parents is stored

kept_unless : (o : Option (List EntityUid)) (e : Option EntityData) (a : EntityUid) → Contains (parents_unless o e) a
    → IsSome e
kept_unless None e a h = kept_with_parents e a h
kept_unless (Some parents) e a h = Contains-none a h

-- `edges_are_listed`: each entity from which an edge of `entity_edges` leads is among the uids `us` of the stored
-- entities.
pub edges_are_listed : (actions : Actions) (entities : EntityMap) (us : List EntityUid) → AreListed entities us
    → HaveAllParents (entity_edges actions entities) us
edges_are_listed actions entities us listed b a h = (listed b).1 (kept_unless (actions b) (entities b) a h)
