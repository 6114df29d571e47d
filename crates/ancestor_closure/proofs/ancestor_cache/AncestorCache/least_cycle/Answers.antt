use Rattle.std.proofs.Common.{◌∙◌, ap, sym, subst}
use Rattle.std.specs.Prelude.{Contains}
use Rattle.ancestor_search.specs.Hierarchy.{AreOnCycles, IsAscending, referenced}
use Rattle.ancestor_search.specs.Deciding.{Contains-none}
use Rattle.ancestor_closure.proofs.Whole.{no_member}
use Rattle.ancestor_closure.proofs.ancestor_cache.AncestorCache.least_cycle.Goals as goal

pub returns-then-are_none-clause-exact : goal.returns-then-are_none-clause-exact
returns-then-are_none-clause-exact g c = λ x above.
    Contains-none x (subst (λ l. Contains l x) (c.are_none.ensures.0 c.if-are_none.true) ((c.requires.on_cycles x).1 above))

pub returns-in_err-cyclic-clause-at_once : goal.returns-in_err-cyclic-clause-at_once
returns-in_err-cyclic-clause-at_once g c = λ none.
    let yes = c.are_none.ensures.1 (no_member c.args.self.now.cyclic.keys (λ x h. none x ((c.requires.on_cycles x).0 h))) in
    cc (yes, c.if-are_none.false)

pub least_cycle_among-requires-clause-all : goal.least_cycle_among-requires-clause-all
least_cycle_among-requires-clause-all g c =
    subst (λ l. AreOnCycles (g.G.ParentsOf.parents c.args.graph.now) l) (sym (ap referenced c.deref.ensures.value ∙ c.in_ok-cyclic.ensures.same)) c.requires.on_cycles

pub least_cycle_among-requires-clause-ascending : goal.least_cycle_among-requires-clause-ascending
least_cycle_among-requires-clause-ascending g c = subst (λ l. IsAscending l) (sym (ap referenced c.deref.ensures.value ∙ c.in_ok-cyclic.ensures.same)) c.members.ensures.ascending

pub returns-clause-at_once : goal.returns-clause-at_once
returns-clause-at_once g c = λ none.
    let yes = c.are_none.ensures.1 (no_member c.args.self.now.cyclic.keys (λ x h. none x ((c.requires.on_cycles x).0 h))) in
    cc (yes, c.if-are_none.false)
