use Rattle.std.proofs.Common.{◌∙◌, [], ◌∷◌, ◌++◌, refl, take, sym, ap, subst, inl, inr}
use Rattle.std.specs.Prelude.{Contains}
use Rattle.std.proofs.lemmas.List.{take_more, take_all}
use Rattle.std.proofs.lemmas.List.Elements.{Contains-push_cases}
use Rattle.ancestor_search.specs.Hierarchy.{referenced}
use Rattle.ancestor_search.specs.Deciding.{Contains-none}
use Rattle.ancestor_closure.proofs.lists.are_among.Goals as goal

pub loop-uid-init : goal.loop-uid-init
loop-uid-init c = λ x h. Contains-none x h

pub loop-uid-preserved : goal.loop-uid-preserved
loop-uid-preserved c =
    let p = c.uid-item.result in
    let ps = take c.loop-uid.uid-index c.args.list.now in
    let more = take_more c.args.list.now c.loop-uid.uid-index p c.loop-uid-test.true ∙ ap (λ z. ps ++ z ∷ []) (sym c.uid-item.is) in
    λ x h. elim (Contains-push_cases ps p x (subst (λ l. Contains l x) more h)) [
      | inl t ↦ c.loop-uid.invariant x t
      | inr same ↦ subst (λ z. Contains (referenced c.args.uids.now) z) (c.deref.ensures ∙ same) (c.is_among.ensures.0 c.if-not-is_among.false)
    ]

pub returns : goal.returns
returns c = (
  λ _ x h. c.loop-uid.invariant x (subst (λ l. Contains l x) (sym (take_all _ c.args.list.now c.loop-uid-test.false)) h),
  λ _. refl,
)
