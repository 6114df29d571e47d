use Rattle.std.proofs.Common.{◌∙◌, [], ◌∷◌, ◌++◌, take, refl, sym, ap, subst, inr}
use Rattle.std.proofs.lemmas.List.{take_more, take_all}
use Rattle.ancestor_search.specs.Hierarchy.{referenced}
use Rattle.ancestor_search.specs.Deciding.{Contains-none}
use Rattle.ancestor_search.proofs.Members.{referenced-push}
use Rattle.ancestor_closure.specs.Lists.{ancestors_in}
use Rattle.ancestor_closure.specs.inner.WholeGraph.{AreListsOf}
use Rattle.ancestor_closure.proofs.Whole.{lists_more, names_has}
use Rattle.ancestor_closure.proofs.whole_graph.write_lists.Goals as goal

pub loop-uid-init : goal.loop-uid-init
loop-uid-init g c = record {
  lists = λ b. inr ((λ h. Contains-none b h), c.requires.lists b);
  children = λ q. refl;
  stay = λ q h. h;
}

pub write_list-requires : goal.write_list-requires
write_list-requires g c =
    let p = c.uid-item.result in
    c.loop-uid.invariant.stay p.now (c.requires.there p.now (names_has c.args.uids.now p (c.loop-uid.uid-index, c.loop-uid-test.true, sym c.uid-item.is)))

pub returns-in_err-list-clause-children : goal.returns-in_err-list-clause-children
returns-in_err-list-clause-children g c = c.loop-uid.invariant.children

pub loop-uid-preserved : goal.loop-uid-preserved
loop-uid-preserved g c =
    let p = c.uid-item.result in
    let ps = take c.loop-uid.uid-index c.args.uids.now in
    let more = ap referenced (take_more c.args.uids.now c.loop-uid.uid-index p c.loop-uid-test.true ∙ ap (λ z. ps ++ z ∷ []) (sym c.uid-item.is)) ∙ referenced-push ps p in
    let now = ancestors_in c.write_list.new.relatives in
    record {
      lists = subst (λ l. AreListsOf (g.G.ParentsOf.parents c.args.graph.now) l now) (sym more)
          (lists_more (g.G.ParentsOf.parents c.args.graph.now) (referenced ps) (ancestors_in c.loop-uid.relatives) now p.now c.in_ok-list.list.items c.loop-uid.invariant.lists c.in_ok-list.ensures c.write_list.ensures.lists);
      children = λ q. c.write_list.ensures.children q ∙ c.loop-uid.invariant.children q;
      stay = λ q h. c.write_list.ensures.stay q (c.loop-uid.invariant.stay q h);
    }

pub returns-clause-lists : goal.returns-clause-lists
returns-clause-lists g c =
    subst (λ l. AreListsOf (g.G.ParentsOf.parents c.args.graph.now) l (ancestors_in c.loop-uid.relatives)) (ap referenced (take_all _ c.args.uids.now c.loop-uid-test.false)) c.loop-uid.invariant.lists
