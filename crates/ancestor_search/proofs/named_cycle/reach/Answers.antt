use Rattle.std.proofs.Common.{◌+◌, [], ◌∷◌, ◌++◌, take, ap, sym, ◌∙◌, cond, is_some}
use Rattle.std.specs.BTreeMap.{btree_map_len}
use Rattle.std.proofs.lemmas.List.{take_more}
use Rattle.ancestor_search.specs.Hierarchy.{referenced}
use Rattle.ancestor_search.specs.inner.Backwards.{dist_of}
use Rattle.ancestor_search.proofs.Levels.{none_from_test}
use Rattle.ancestor_search.proofs.Members.{referenced-push}
use Rattle.ancestor_search.proofs.Reached.{Reaches-seen, Reaches-new, dist_of-insert}
use Rattle.ancestor_search.proofs.named_cycle.reach.Goals as goal
use Rattle.ancestor_search.proofs.named_cycle.reach.Goals.{then-not-contains_key+in_ok-insert+in_ok-push, else-not-contains_key}

pub loop-uid-preserved : goal.loop-uid-preserved
loop-uid-preserved c =
    let u = c.uid-item.result in
    let us = take c.loop-uid.uid-index c.args.uids.now in
    let more = take_more c.args.uids.now c.loop-uid.uid-index u c.loop-uid-test.true ∙ ap (λ z. us ++ z ∷ []) (sym c.uid-item.is) in
    let dist = dist_of c.loop-uid.reached in
    let len = btree_map_len c.loop-uid.reached in
    rw (more, referenced-push) (elim c.if-not-contains_key.branch [
      | then-not-contains_key+in_ok-insert+in_ok-push w ↦
          let none = none_from_test (dist u.now) (sym c.contains_key.ensures ∙ w.if-not-contains_key.true) in
          rw (w.reached-is, w.level-is)
          (Reaches-new (referenced us) c.args.far (dist_of c.args.reached.now) dist (referenced c.args.level.now.items) (referenced c.loop-uid.level.items) (btree_map_len c.args.reached.now) len u.now c.loop-uid.invariant
          (dist_of w.insert.new.self) (referenced w.push.new.self.items) (btree_map_len w.insert.new.self) none
          (dist_of-insert c.loop-uid.reached w.insert.new.self u c.args.far w.in_ok-insert.ensures.updates)
          (ap referenced w.in_ok-push.ensures.items ∙ referenced-push c.loop-uid.level.items u)
          (w.in_ok-insert.ensures.len ∙ ap (λ o. len + cond (is_some o) 0 1) (w.in_ok-insert.ensures.old ∙ none)))
      | else-not-contains_key w ↦
          rw (w.reached-is, w.level-is)
          (Reaches-seen (referenced us) c.args.far (dist_of c.args.reached.now) dist (referenced c.args.level.now.items) (referenced c.loop-uid.level.items) (btree_map_len c.args.reached.now) len u.now c.loop-uid.invariant
          (sym c.contains_key.ensures ∙ w.if-not-contains_key.false))
    ])
