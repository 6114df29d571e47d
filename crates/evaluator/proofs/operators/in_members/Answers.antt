use Rattle.std.proofs.Common.{◌≡◌, ◌∙◌, subst, List}
use Rattle.std.specs.Prelude.{◌⊎◌, ◌↔◌, IsTrue, Contains}
use Rattle.std.specs.Borrow.{Bor}
use Rattle.values.specs.declared.entity_uid.EntityUid.{EntityUid}
use Rattle.ancestor_search.specs.Hierarchy.{referenced}
use Rattle.evaluator.specs.Operators.{entities_with}
use Rattle.evaluator.specs.inner.Computing.{decided_entities, is_in}
use Rattle.evaluator.proofs.Membership.{within_is, newly_found, found_before, member_judged}
use Rattle.evaluator.proofs.operators.in_members.Goals as goal
use Rattle.evaluator.proofs.operators.in_members.Goals.{then-not-found, else-not-found}

pub loop-member-preserved : goal.loop-member-preserved
loop-member-preserved g c =
    let store = c.args.store.now in
    let ancestor_test = g.L.Ancestry.ancestor_test store in
    let W = entities_with (g.L.Lookup.stored store) (g.L.Ancestry.parents store) in
    let a = c.args.a.now in
    let b = c.in_ok-b.b.now in
    let E = decided_entities (g.L.Lookup.stored store) ancestor_test in
    member_judged E a c.args.members.now c.loop-member.member-index c.member-item.result b c.loop-member.found c.if-not-found.found
    c.loop-member-test.true c.member-item.is c.in_ok-b.ensures
    (elim c.if-not-found.branch [
      | then-not-found w ↦
          let told = subst (λ (us : List (Bor EntityUid)). IsTrue w.is_within-found.result ↔ ((a ≡ b) ⊎ Contains (referenced us) b)) w.deref.ensures.value w.is_within-found.ensures in
          newly_found c.loop-member.found c.if-not-found.found (is_in E a b) w.if-not-found.true
          (w.found-is ∙ within_is W ancestor_test (g.met.L.Ancestry.ancestor_test_decides store) a b (referenced c.in_ok-ancestors.ancestors.items) c.in_ok-ancestors.ensures.all w.is_within-found.result told)
      | else-not-found w ↦ found_before c.loop-member.found c.if-not-found.found (is_in E a b) w.if-not-found.false w.found-is
    ])
    c.loop-member.invariant
