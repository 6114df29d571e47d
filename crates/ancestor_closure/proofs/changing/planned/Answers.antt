use Rattle.std.proofs.Common.{◌∙◌, sym, subst}
use Rattle.std.specs.Prelude.{Contains, ◌↔◌, ◌⊎◌, ◌≡◌}
use Rattle.ancestor_search.specs.Hierarchy.{IsAncestor, IsAscending}
use Rattle.ancestor_closure.specs.Lists.{ancestors_in, children_in}
use Rattle.ancestor_closure.specs.inner.OneChange.{AreListsBut}
use Rattle.ancestor_closure.proofs.changing.planned.Goals as goal

pub new_lists-requires-clause-known : goal.new_lists-requires-clause-known
new_lists-requires-clause-known g c =
    subst (λ u. AreListsBut u (g.G.ParentsOf.parents c.args.graph.now) (ancestors_in c.args.relatives.now) (children_in c.args.relatives.now))
    (sym c.in_ok-name.ensures) c.requires.known

pub new_lists-requires-clause-parents : goal.new_lists-requires-clause-parents
new_lists-requires-clause-parents g c = λ x.
    let Q = g.G.ParentsOf.parents c.args.graph.now in
    subst (λ u. Contains c.deref.result.now x ↔ Contains (Q u) x) (sym c.in_ok-name.ensures)
    (subst (λ l. Contains l x ↔ Contains (Q c.args.uid.now) x) (sym (c.deref.ensures.value ∙ c.in_ok-after.ensures)) (c.requires.all x))

pub new_lists-requires-clause-below : goal.new_lists-requires-clause-below
new_lists-requires-clause-below g c = λ q.
    let ch = children_in c.args.relatives.now in
    let u = c.args.uid.now in
    subst (λ z. Contains c.deref-2.result.now q ↔ ((z ≡ q) ⊎ IsAncestor ch q z)) (sym c.in_ok-name.ensures)
    (subst (λ l. Contains l q ↔ ((u ≡ q) ⊎ IsAncestor ch q u)) (sym c.deref-2.ensures.value) (c.in_ok-entities.ensures q))

pub returns : goal.returns
returns g c =
    let anc = ancestors_in c.args.relatives.now in
    let ch = children_in c.args.relatives.now in
    let u = c.args.uid.now in
    record {
      uid_is = c.in_ok-name.ensures;
      before = λ x. subst (λ z. Contains c.in_ok-before.before.items x ↔ (Contains (anc z) x × Contains (ch x) z)) c.in_ok-name.ensures (c.in_ok-before.ensures.all x);
      before_ascends = subst (λ z. IsAscending (anc z) → IsAscending c.in_ok-before.before.items) c.in_ok-name.ensures c.in_ok-before.ensures.ascending;
      after = λ x. subst (λ l. Contains l x ↔ Contains (g.G.ParentsOf.parents c.args.graph.now u) x) (sym c.in_ok-after.ensures) (c.requires.all x);
      after_ascends = subst (λ l. IsAscending l) (sym c.in_ok-after.ensures) c.requires.ascending;
      entities = c.in_ok-entities.ensures;
      lists_of = c.in_ok-lists.ensures.of ∙ c.deref-2.ensures.value;
      right = c.in_ok-lists.ensures.right;
    }
