use Rattle.std.proofs.Common.{rules}
use Rattle.std.proofs.lemmas.Fn.{always_returns_same}
use Rattle.values.specs.Names.{uid_cmp}
use Rattle.ancestor_search.proofs.Found.{found_in}
use Rattle.ancestor_closure.proofs.lists.is_in.Goals as goal

pub returns : goal.returns
returns c = λ sorted.
    let x = c.args.uid.now in
    let by = c.binary_search_by.ensures.position (λ y. uid_cmp y x) (always_returns_same _ _ _ (λ a r f' called. search rules)) in
    rw c.is_ok.ensures.value (found_in c.args.list.now x c.binary_search_by.result sorted c.binary_search_by.ensures.bound by)
