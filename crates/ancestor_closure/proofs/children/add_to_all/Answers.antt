use Rattle.std.proofs.Common.{◌∙◌, [], ◌∷◌, ◌++◌, take, refl, sym, ap, subst, inl, inr}
use Rattle.std.specs.Prelude.{Contains}
use Rattle.std.proofs.lemmas.List.{take_more, take_all}
use Rattle.std.proofs.lemmas.List.Elements.{Contains-push_cases}
use Rattle.ancestor_search.specs.Deciding.{Contains-none}
use Rattle.ancestor_closure.specs.Lists.{children_in, HasEntry}
use Rattle.ancestor_closure.proofs.OneByOne.{adds_none, adds_more, adds_at}
use Rattle.ancestor_closure.proofs.children.add_to_all.Goals as goal

pub loop-parent-init : goal.loop-parent-init
loop-parent-init c = record {
  lists = λ q. refl;
  stay = λ q h. h;
  adds = adds_none c.args.parents.now c.args.child.now (children_in c.args.relatives.now);
  added = λ x h. Contains-none x h;
}

pub add_child-requires : goal.add_child-requires
add_child-requires c =
    subst (λ z. HasEntry c.loop-parent.relatives z) (sym c.deref.ensures)
    (c.loop-parent.invariant.stay c.parent-item.result (c.requires c.parent-item.result (c.loop-parent.parent-index, c.loop-parent-test.true, sym c.parent-item.is)))

pub returns-in_err-add_child-clause-lists : goal.returns-in_err-add_child-clause-lists
returns-in_err-add_child-clause-lists c = λ q. c.add_child.ensures.lists q ∙ c.loop-parent.invariant.lists q

pub returns-in_err-add_child-clause-stay : goal.returns-in_err-add_child-clause-stay
returns-in_err-add_child-clause-stay c = λ q h. c.add_child.ensures.stay q (c.loop-parent.invariant.stay q h)

pub returns-in_err-add_child-clause-adds : goal.returns-in_err-add_child-clause-adds
returns-in_err-add_child-clause-adds c =
    let p = c.parent-item.result in
    adds_more c.args.parents.now c.args.child.now p (children_in c.args.relatives.now) (children_in c.loop-parent.relatives) (children_in c.add_child.new.relatives)
    (c.loop-parent.parent-index, c.loop-parent-test.true, sym c.parent-item.is) c.loop-parent.invariant.adds
    (adds_at c.deref.result.now p c.in_ok-share.field-0 c.args.child.now (children_in c.loop-parent.relatives) (children_in c.add_child.new.relatives) c.deref.ensures c.in_ok-share.ensures c.add_child.ensures.adds)

pub loop-parent-preserved : goal.loop-parent-preserved
loop-parent-preserved c =
    let p = c.parent-item.result in
    let ps = take c.loop-parent.parent-index c.args.parents.now in
    let more = take_more c.args.parents.now c.loop-parent.parent-index p c.loop-parent-test.true ∙ ap (λ z. ps ++ z ∷ []) (sym c.parent-item.is) in
    let step = adds_at c.deref.result.now p c.in_ok-share.field-0 c.args.child.now (children_in c.loop-parent.relatives) (children_in c.add_child.new.relatives) c.deref.ensures c.in_ok-share.ensures c.add_child.ensures.adds in
    let new : Contains (children_in c.add_child.new.relatives p) c.args.child.now =
    subst (λ z. Contains (children_in c.add_child.new.relatives z) c.args.child.now) c.deref.ensures
    (subst (λ z. Contains (children_in c.add_child.new.relatives c.deref.result.now) z) c.in_ok-share.ensures c.in_ok-add_child.ensures.added) in
    record {
      lists = λ q. c.add_child.ensures.lists q ∙ c.loop-parent.invariant.lists q;
      stay = λ q h. c.add_child.ensures.stay q (c.loop-parent.invariant.stay q h);
      adds = adds_more c.args.parents.now c.args.child.now p (children_in c.args.relatives.now) (children_in c.loop-parent.relatives) (children_in c.add_child.new.relatives)
          (c.loop-parent.parent-index, c.loop-parent-test.true, sym c.parent-item.is) c.loop-parent.invariant.adds step;
      added = λ x h. elim (Contains-push_cases ps p x (subst (λ l. Contains l x) more h)) [
        | inl t ↦ step.kept x c.args.child.now (c.loop-parent.invariant.added x t)
        | inr same ↦ subst (λ z. Contains (children_in c.add_child.new.relatives z) c.args.child.now) same new
      ];
    }

pub returns-clause-added : goal.returns-clause-added
returns-clause-added c = λ x h. c.loop-parent.invariant.added x (subst (λ l. Contains l x) (sym (take_all _ c.args.parents.now c.loop-parent-test.false)) h)
