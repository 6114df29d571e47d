use Rattle.std.proofs.Common.{◌∙◌, [], ◌∷◌, ◌++◌, refl, take, sym, ap, subst, inl, inr}
use Rattle.std.specs.Prelude.{Contains}
use Rattle.std.proofs.lemmas.List.{take_more, take_all}
use Rattle.std.proofs.lemmas.List.Elements.{Contains-push_cases}
use Rattle.ancestor_search.specs.Hierarchy.{referenced}
use Rattle.ancestor_search.specs.Deciding.{Contains-none}
use Rattle.ancestor_search.proofs.Members.{referenced-push}
use Rattle.ancestor_closure.proofs.lists.are_in.Goals as goal

pub loop-uid-init : goal.loop-uid-init
loop-uid-init c = λ x h. Contains-none x h

pub loop-uid-preserved : goal.loop-uid-preserved
loop-uid-preserved c =
    let p = c.uid-item.result in
    let ps = take c.loop-uid.uid-index c.args.uids.now in
    let more = ap referenced (take_more c.args.uids.now c.loop-uid.uid-index p c.loop-uid-test.true ∙ ap (λ z. ps ++ z ∷ []) (sym c.uid-item.is)) ∙ referenced-push ps p in
    λ x h. elim (Contains-push_cases (referenced ps) p.now x (subst (λ l. Contains l x) more h)) [
      | inl t ↦ c.loop-uid.invariant x t
      | inr same ↦ subst (λ z. Contains c.args.list.now z) same ((c.is_in.ensures c.requires).0 c.if-not-is_in.false)
    ]

pub returns : goal.returns
returns c = (
  λ _ x h. c.loop-uid.invariant x (subst (λ l. Contains l x) (ap referenced (sym (take_all _ c.args.uids.now c.loop-uid-test.false))) h),
  λ _. refl,
)
