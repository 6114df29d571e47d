use Rattle.std.proofs.Common.{◌∙◌, [], ◌∷◌, ◌++◌, take, refl, sym, ap, subst, inl, inr}
use Rattle.std.specs.Prelude.{Contains}
use Rattle.std.proofs.lemmas.List.{take_more, take_all}
use Rattle.std.proofs.lemmas.List.Elements.{Contains-push_cases}
use Rattle.ancestor_search.specs.Deciding.{Contains-none}
use Rattle.ancestor_closure.proofs.Leading.{Leads, cycle_leads, leads_cycle}
use Rattle.ancestor_closure.proofs.ancestor_cache.leads_back.Goals as goal

pub loop-parent-init : goal.loop-parent-init
loop-parent-init c = λ before kept x h. Contains-none x h

pub loop-parent-preserved : goal.loop-parent-preserved
loop-parent-preserved c = λ before kept x h.
    let p = c.parent-item.result in
    let ps = take c.loop-parent.parent-index c.args.parents.now in
    let more = take_more c.args.parents.now c.loop-parent.parent-index p c.loop-parent-test.true ∙ ap (λ z. ps ++ z ∷ []) (sym c.parent-item.is) in
    elim (Contains-push_cases ps p x (subst (λ l. Contains l x) more h)) [
      | inl t ↦ c.loop-parent.invariant before kept x t
      | inr same ↦ λ leads.
          let yes = (c.is_self_or_ancestor.ensures before kept).1 (subst (λ z. Leads before c.args.uid.now z) (sym same) leads) in
          cc (yes, c.if-is_self_or_ancestor.false)
    ]

pub returns-then-is_self_or_ancestor : goal.returns-then-is_self_or_ancestor
returns-then-is_self_or_ancestor c = λ before kept. (
  λ _. leads_cycle before c.args.uid.now c.args.parents.now c.parent-item.result (c.loop-parent.parent-index, c.loop-parent-test.true, sym c.parent-item.is)
      ((c.is_self_or_ancestor.ensures before kept).0 c.if-is_self_or_ancestor.true),
  λ _. refl,
)

pub returns : goal.returns
returns c = λ before kept. (
  λ yes. cc yes,
  λ up.
      let (x, there, leads) = cycle_leads before c.args.uid.now c.args.parents.now up in
      absurd (c.loop-parent.invariant before kept x (subst (λ l. Contains l x) (sym (take_all _ c.args.parents.now c.loop-parent-test.false)) there) leads),
)
