use Rattle.std.proofs.Common.{◌≡◌, sym, subst}
use Rattle.std.proofs.lemmas.Result.{IfOk-weaker}
use Rattle.ancestor_search.specs.Hierarchy.{Parents, AreOnCycles, IsAscending, referenced}
use Rattle.ancestor_closure.specs.CacheOf.{IsCacheOf}
use Rattle.ancestor_closure.proofs.Whole.{no_member, none_ascends}
use Rattle.ancestor_closure.proofs.ancestor_cache.AncestorCache.cyclic.Goals as goal

pub returns-then-are_none-clause-all : goal.returns-then-are_none-clause-all
returns-then-are_none-clause-all c = λ parents kept.
    let empty = c.are_none.ensures.0 c.if-are_none.true in
    subst (λ l. AreOnCycles parents (referenced l)) (sym c.new.ensures.items) (subst (λ l. AreOnCycles parents l) empty kept.on_cycles)

pub returns-clause-all : goal.returns-clause-all
returns-clause-all c =
    IfOk-weaker c.members.result (λ v. referenced v.items ≡ c.args.self.now.cyclic.keys) (λ v. (parents : Parents) → IsCacheOf parents c.args.self.now → AreOnCycles parents (referenced v.items))
    (λ v e parents kept. subst (λ l. AreOnCycles parents l) (sym e) kept.on_cycles) c.members.ensures.same

pub returns-clause-ascending : goal.returns-clause-ascending
returns-clause-ascending c =
    IfOk-weaker c.members.result (λ v. referenced v.items ≡ c.args.self.now.cyclic.keys) (λ v. IsAscending (referenced v.items)) (λ v e. subst (λ l. IsAscending l) (sym e) c.members.ensures.ascending) c.members.ensures.same

pub returns-clause-at_once : goal.returns-clause-at_once
returns-clause-at_once c = λ parents kept none.
    let yes = c.are_none.ensures.1 (no_member c.args.self.now.cyclic.keys (λ x h. none x ((kept.on_cycles x).0 h))) in
    cc (yes, c.if-are_none.false)

pub returns-then-are_none-clause-ascending : goal.returns-then-are_none-clause-ascending
returns-then-are_none-clause-ascending c = none_ascends c.new.result.items c.new.ensures.items
