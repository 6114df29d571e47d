use Rattle.std.proofs.Common.{◌≡◌, take}
use Rattle.std.specs.Prelude.{Vec, Contains}
use Rattle.std.specs.declared.alloc.Global.{Global}
use Rattle.values.specs.declared.entity_uid.EntityUid.{EntityUid}
use Rattle.ancestor_closure.specs.Lists.{IsListOf}
use Rattle.ancestor_closure.specs.inner.OneChange.{firsts}
use Rattle.ancestor_closure.proofs.lists.lists_of.Given as goal

abbrev pub invariant-loop-entity : goal.invariant-loop-entity
invariant-loop-entity g l = record {
  of : firsts l.lists.items ≡ take l.entity-index l.entities;
  right : (q : EntityUid) (list : Vec EntityUid Global) → Contains l.lists.items (q, list) → IsListOf (g.G.ParentsOf.parents l.graph) q list.items;
}
