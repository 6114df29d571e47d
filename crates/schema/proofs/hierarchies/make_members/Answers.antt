use Rattle.std.proofs.Common.{map}
use Rattle.std.specs.Prelude.{⊤}
use Rattle.ancestor_search.specs.contracts.searched.SearchedAncestry.TheImpl as searched
use Rattle.std.specs.BTreeMap.{get}
use Rattle.values.specs.Names.{uid_cmp}
use Rattle.schema_reading.specs.ResolvedViews.{resolved_action_view}
use Rattle.schema.specs.inner.Making.{MemberMay, MemberMust}
use Rattle.schema.proofs.FillingLemmas.{adds_first, each_step, each_end, get_empty}
use Rattle.schema.proofs.hierarchies.make_members.Goals as goal

pub loop-action-init : goal.loop-action-init
loop-action-init c = λ last h.
    adds_first (MemberMay (searched.parents-value.it c.args.edges.now)) MemberMust (λ a. ⊤) (map resolved_action_view c.args.actions.now) (get uid_cmp c.new-members.result) (get uid_cmp last)
    (get_empty uid_cmp c.new-members.result c.new-members.ensures.empty) h

pub loop-action-preserved : goal.loop-action-preserved
loop-action-preserved c = λ last rest. c.loop-action.invariant last
    (each_step (MemberMay (searched.parents-value.it c.args.edges.now)) MemberMust (λ a. ⊤) resolved_action_view c.args.actions.now c.loop-action.action-index c.action-item.result
    (get uid_cmp c.loop-action.members) (get uid_cmp c.add_member.new.members) (get uid_cmp last) c.loop-action-test.true c.action-item.is c.in_ok-add_member.ensures rest)

pub returns : goal.returns
returns c = c.loop-action.invariant c.loop-action.members
    (each_end (MemberMay (searched.parents-value.it c.args.edges.now)) MemberMust (λ a. ⊤) resolved_action_view c.args.actions.now c.loop-action.action-index
    (get uid_cmp c.loop-action.members) c.loop-action-test.false)
