use Rattle.std.proofs.Common.{◌∙◌, [], sym}
use Rattle.ancestor_search.specs.Search.{parents_of}
use Rattle.ancestor_closure.proofs.Pairs.{edges_gone, with_same}
use Rattle.ancestor_closure.proofs.closed.release_edges.Goals as goal

pub returns : goal.returns
returns c =
    let m = c.args.edges.now in
    let k = c.args.uid.now in
    edges_gone m c.remove.new.self k c.remove.ensures.updates.0 ∙ with_same (parents_of m) k [] (sym (c.has_no_parents.ensures c.if-not-has_no_parents.false))
