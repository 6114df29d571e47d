use Rattle.ancestor_search.specs.Search.{parents_of}
use Rattle.std.proofs.lemmas.Result.{on_err_weaker}
use Rattle.ancestor_closure.proofs.Leading.{agrees}
use Rattle.ancestor_closure.proofs.closed.follow_change.Goals as goal

pub follow-requires : goal.follow-requires
follow-requires c = record { before = parents_of c.args.edges.now; kept = c.requires; others = agrees (parents_of c.args.edges.now) c.args.uid.now _ }

pub returns-clause-err : goal.returns-clause-err
returns-clause-err c = on_err_weaker c.follow.result (λ back. back (parents_of c.args.edges.now) c.requires) c.follow.ensures.err
