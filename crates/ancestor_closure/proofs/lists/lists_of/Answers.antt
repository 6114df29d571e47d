use Rattle.std.proofs.Common.{[], ◌∷◌, ◌++◌, take, ap, sym, ◌∙◌, subst, inl, inr}
use Rattle.std.specs.Prelude.{Contains}
use Rattle.std.proofs.lemmas.List.{take_more, take_all}
use Rattle.std.proofs.lemmas.List.Elements.{Contains-push_cases}
use Rattle.ancestor_search.specs.Deciding.{Contains-none}
use Rattle.ancestor_closure.specs.Lists.{IsListOf}
use Rattle.ancestor_closure.specs.inner.OneChange.{firsts}
use Rattle.ancestor_closure.proofs.Written.{firsts-push}
use Rattle.ancestor_closure.proofs.lists.lists_of.Goals as goal

pub loop-entity-init : goal.loop-entity-init
loop-entity-init g c = record {
  of = ap firsts c.new-lists.ensures.items;
  right = λ q list h. Contains-none (q, list) (subst (λ l. Contains l (q, list)) c.new-lists.ensures.items h);
}

pub loop-entity-preserved : goal.loop-entity-preserved
loop-entity-preserved g c =
    let u = c.entity-item.result in
    let us = take c.loop-entity.entity-index c.args.entities.now in
    let more = take_more c.args.entities.now c.loop-entity.entity-index u c.loop-entity-test.true ∙ ap (λ z. us ++ z ∷ []) (sym c.entity-item.is) in
    let e = c.in_ok-with_list.field-0 in
    record {
      of = ap firsts c.in_ok-push.ensures.items ∙ firsts-push c.loop-entity.lists.items e ∙ ap (λ l. l ++ e.0 ∷ []) c.loop-entity.invariant.of
          ∙ ap (λ z. us ++ z ∷ []) c.in_ok-with_list.ensures.0 ∙ sym more;
      right = λ q list h. elim (Contains-push_cases c.loop-entity.lists.items e (q, list) (subst (λ l. Contains l (q, list)) c.in_ok-push.ensures.items h)) [
        | inl t ↦ c.loop-entity.invariant.right q list t
        | inr is ↦ subst (λ z. IsListOf (g.G.ParentsOf.parents c.args.graph.now) z.0 z.1.items) is
            (subst (λ z. IsListOf (g.G.ParentsOf.parents c.args.graph.now) z e.1.items) (sym c.in_ok-with_list.ensures.0) c.in_ok-with_list.ensures.1)
      ];
    }

pub returns-clause-of : goal.returns-clause-of
returns-clause-of g c = c.loop-entity.invariant.of ∙ take_all _ c.args.entities.now c.loop-entity-test.false
