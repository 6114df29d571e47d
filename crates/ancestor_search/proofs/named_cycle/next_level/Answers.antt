use Rattle.std.proofs.Common.{[], ◌∷◌, ◌++◌, take, ap, sym, ◌∙◌}
use Rattle.std.specs.BTreeMap.{btree_map_len}
use Rattle.std.proofs.lemmas.List.{take_more}
use Rattle.ancestor_search.specs.Hierarchy.{referenced}
use Rattle.ancestor_search.specs.inner.Backwards.{dist_of, children_of}
use Rattle.ancestor_search.proofs.Members.{referenced-push}
use Rattle.ancestor_search.proofs.Reached.{Reaches-children}
use Rattle.ancestor_search.proofs.named_cycle.next_level.Goals as goal

pub loop-uid-preserved : goal.loop-uid-preserved
loop-uid-preserved c =
    let u = c.uid-item.result in
    let us = take c.loop-uid.uid-index c.args.level.now in
    let more = take_more c.args.level.now c.loop-uid.uid-index u c.loop-uid-test.true ∙ ap (λ z. us ++ z ∷ []) (sym c.uid-item.is) in
    rw (more, referenced-push)
    (Reaches-children (children_of c.args.children.now) (referenced us) u.now c.args.far (dist_of c.args.reached.now) (dist_of c.loop-uid.reached) (dist_of c.reach_children.new.reached)
    [] (referenced c.loop-uid.next.items) (referenced c.reach_children.new.level.items) (btree_map_len c.args.reached.now) (btree_map_len c.loop-uid.reached) (btree_map_len c.reach_children.new.reached)
    c.loop-uid.invariant c.in_ok-reach_children.ensures)
