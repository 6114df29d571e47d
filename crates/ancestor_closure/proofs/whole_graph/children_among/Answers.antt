use Rattle.std.proofs.Common.{◌∙◌, [], ◌∷◌, ◌++◌, take, sym, ap, subst, inl, inr}
use Rattle.std.specs.Prelude.{Contains}
use Rattle.std.specs.BTreeMap.{is_at}
use Rattle.std.specs.Map.{lookup}
use Rattle.std.proofs.lemmas.List.{take_more, take_all}
use Rattle.std.proofs.lemmas.List.Elements.{Contains-push_cases}
use Rattle.values.specs.Names.{uid_cmp}
use Rattle.ancestor_search.specs.Hierarchy.{referenced}
use Rattle.ancestor_search.specs.Deciding.{Contains-none}
use Rattle.ancestor_search.specs.inner.Backwards.{AreChildrenAmong}
use Rattle.ancestor_search.proofs.Members.{referenced-push}
use Rattle.ancestor_closure.specs.Lists.{ancestors_or_none, children_or_none, children_in, HasEntry}
use Rattle.ancestor_closure.proofs.Whole.{children_more}
use Rattle.ancestor_closure.proofs.whole_graph.children_among.Goals as goal

pub loop-uid-init : goal.loop-uid-init
loop-uid-init g c = record {
  lists = λ q. ap (λ es. ancestors_or_none (lookup (is_at (uid_cmp q)) es)) c.new-relatives.ensures.empty;
  there = λ q h. Contains-none q h;
  children = λ x y. (
    λ h. Contains-none y (subst (λ es. Contains (children_or_none (lookup (is_at (uid_cmp x)) es)) y) c.new-relatives.ensures.empty h),
    λ h. Contains-none y h.0,
  );
}

pub loop-uid-preserved : goal.loop-uid-preserved
loop-uid-preserved g c =
    let p = c.uid-item.result in
    let ps = take c.loop-uid.uid-index c.args.uids.now in
    let more = ap referenced (take_more c.args.uids.now c.loop-uid.uid-index p c.loop-uid-test.true ∙ ap (λ z. ps ++ z ∷ []) (sym c.uid-item.is)) ∙ referenced-push ps p in
    let now = c.add_edges.new.relatives in
    record {
      lists = λ q. c.add_edges.ensures.lists q ∙ c.loop-uid.invariant.lists q;
      there = λ q h. elim (Contains-push_cases (referenced ps) p.now q (subst (λ l. Contains l q) more h)) [
        | inl t ↦ c.add_edges.ensures.stay q (c.loop-uid.invariant.there q t)
        | inr same ↦ subst (λ z. HasEntry now z) same c.in_ok-add_edges.ensures.there
      ];
      children = subst (λ l. AreChildrenAmong l (g.G.ParentsOf.parents c.args.graph.now) (children_in now)) (sym more)
          (children_more (g.G.ParentsOf.parents c.args.graph.now) (referenced ps) (children_in c.loop-uid.relatives) (children_in now) p.now c.loop-uid.invariant.children c.in_ok-add_edges.ensures.adds);
    }

pub returns-clause-there : goal.returns-clause-there
returns-clause-there g c = λ q h. c.loop-uid.invariant.there q (subst (λ l. Contains l q) (ap referenced (sym (take_all _ c.args.uids.now c.loop-uid-test.false))) h)

pub returns-clause-children : goal.returns-clause-children
returns-clause-children g c =
    subst (λ l. AreChildrenAmong l (g.G.ParentsOf.parents c.args.graph.now) (children_in c.loop-uid.relatives)) (ap referenced (take_all _ c.args.uids.now c.loop-uid-test.false)) c.loop-uid.invariant.children
