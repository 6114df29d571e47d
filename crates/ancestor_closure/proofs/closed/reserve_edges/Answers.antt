use Rattle.std.proofs.Common.{◌≡◌, ◌∙◌, [], sym, ap, false, is_some}
use Rattle.std.specs.BTreeMap.{get}
use Rattle.values.specs.Names.{uid_cmp}
use Rattle.ancestor_search.specs.Search.{parents_of, items_or_none}
use Rattle.ancestor_search.proofs.Levels.{none_from_test}
use Rattle.ancestor_closure.proofs.Pairs.{edges_written, with_same}
use Rattle.ancestor_closure.proofs.closed.reserve_edges.Goals as goal

pub returns-in_ok-insert-clause-same : goal.returns-in_ok-insert-clause-same
returns-in_ok-insert-clause-same c =
    let m = c.args.edges.now in
    let k = c.in_ok-copy.field-0 in
    let absent : is_some (get uid_cmp m c.args.uid.now) ≡ false = sym c.contains_key.ensures ∙ c.if-not-contains_key.true in
    let none : parents_of m k ≡ [] = ap (parents_of m) c.in_ok-copy.ensures ∙ ap items_or_none (none_from_test (get uid_cmp m c.args.uid.now) absent) in
    edges_written m c.insert.new.self k c.new.result c.in_ok-insert.ensures.updates.0 ∙ with_same (parents_of m) k c.new.result.items (c.new.ensures.items ∙ sym none)
