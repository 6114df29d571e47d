use Rattle.std.proofs.Common.{sym, subst, inl, refl}
use Rattle.std.specs.Prelude.{Contains}
use Rattle.ancestor_closure.specs.Lists.{IsListOf, ancestors_in, children_in}
use Rattle.ancestor_closure.proofs.ByParent.{only_member, by_parent}
use Rattle.ancestor_closure.proofs.by_parent.new_lists.Goals as goal

pub only_parent-requires : goal.only_parent-requires
only_parent-requires g c = (c.requires.below c.args.uid.now).1 (inl refl)

pub returns-in_ok-alone-in-Some-clause-right : goal.returns-in_ok-alone-in-Some-clause-right
returns-in_ok-alone-in-Some-clause-right g c = λ q list h.
    let Q = g.G.ParentsOf.parents c.args.graph.now in
    let u = c.args.uid.now in
    let own = by_parent Q u c.in-Some.parent.now (ancestors_in c.args.relatives.now) (children_in c.args.relatives.now) c.requires.known
    c.args.after.now c.args.entities.now c.in-Some.ensures.only c.in-Some.ensures.other c.in-Some.ensures.alone c.requires.parents c.requires.below in
    let one = only_member (u, c.in_ok-list-in-Some.list) (q, list) (subst (λ l. Contains l (q, list)) c.in_ok-alone-in-Some.ensures h) in
    subst (λ z. IsListOf Q z.0 z.1.items) one (subst (λ l. IsListOf Q u l) (sym c.in_ok-list-in-Some.ensures) own)
