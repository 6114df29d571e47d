use Rattle.ancestor_closure.specs.Lists.{ancestors_in, children_in}
use Rattle.ancestor_closure.proofs.Following.{kept-same, but-same, err_as, err_always}
use Rattle.ancestor_closure.proofs.changing.make_with_room.Goals as goal

pub returns-in_err-add_entries-clause-err : goal.returns-in_err-add_entries-clause-err
returns-in_err-add_entries-clause-err g c =
    let m = c.args.relatives.now in
    let n = c.add_entries.new.relatives in
    err_always c.from_residual.result (λ before kept.
    kept-same before (ancestors_in m) (ancestors_in n) (children_in m) (children_in n) c.args.cyclic.now.keys c.add_entries.ensures.lists c.add_entries.ensures.children kept)

pub make-requires-clause-kept : goal.make-requires-clause-kept
make-requires-clause-kept g c =
    let m = c.args.relatives.now in
    let n = c.add_entries.new.relatives in
    but-same c.args.uid.now (g.G.ParentsOf.parents c.args.graph.now) (ancestors_in m) (ancestors_in n) (children_in m) (children_in n) c.args.cyclic.now.keys
    c.add_entries.ensures.lists c.add_entries.ensures.children c.requires.kept

pub returns-clause-err : goal.returns-clause-err
returns-clause-err g c =
    let m = c.args.relatives.now in
    let n = c.add_entries.new.relatives in
    err_as c.make.result (λ back before kept. back before (kept-same before (ancestors_in m) (ancestors_in n) (children_in m) (children_in n) c.args.cyclic.now.keys
    c.add_entries.ensures.lists c.add_entries.ensures.children kept)) c.make.ensures.err
