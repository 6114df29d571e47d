use Rattle.std.proofs.Common.{◌≡◌, ◌∙◌, sym, ap, Some, is_some}
use Rattle.std.specs.Option.{option_copied_mut}
use Rattle.std.specs.BTreeMap.{get}
use Rattle.values.specs.Names.{uid_cmp}
use Rattle.ancestor_closure.proofs.Pairs.{edges_written}
use Rattle.ancestor_closure.proofs.closed.write_edges.Goals as goal

pub returns-in-Some : goal.returns-in-Some
returns-in-Some c =
    let m = c.args.edges.now in
    let held : get uid_cmp m c.args.uid.now ≡ Some c.in-Some.known.now = sym c.get_mut.ensures.value ∙ ap option_copied_mut c.in-Some.is in
    edges_written m (c.get_mut.follows.lender c.args.parents) c.args.uid.now c.args.parents (λ u. ((c.get_mut.follows.holds c.args.parents).3 (ap is_some held)).0 u)
