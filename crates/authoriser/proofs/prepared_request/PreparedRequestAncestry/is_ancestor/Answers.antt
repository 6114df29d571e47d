use Rattle.std.proofs.Common.{sym, subst, List}
use Rattle.std.specs.Prelude.{◌↔◌, IsTrue, Contains}
use Rattle.std.specs.Borrow.{Bor}
use Rattle.values.specs.declared.entity_uid.EntityUid.{EntityUid}
use Rattle.evaluator.specs.ancestor_search.Hierarchy.{IsAncestor, IsAscending, referenced}
use Rattle.authoriser.proofs.Judging.{all_placed, above_other}
use Rattle.authoriser.proofs.prepared_request.PreparedRequestAncestry.is_ancestor.Goals as goal

pub is_among-requires : goal.is_among-requires
is_among-requires g c =
    let placed = c.in-Some.ensures.ancestors (g.L.Ancestry.parents c.self.inside.store.now) (all_placed _ _ _ c.self.invariant.three.ancestors) in
    subst (λ (us : List (Bor EntityUid)). IsAscending (referenced us)) (sym c.deref.ensures.value) placed.ascending

pub returns-in-Some : goal.returns-in-Some
returns-in-Some g c =
    let placed = c.in-Some.ensures.ancestors (g.L.Ancestry.parents c.self.inside.store.now) (all_placed _ _ _ c.self.invariant.three.ancestors) in
    let among = subst (λ (us : List (Bor EntityUid)). IsTrue c.is_among.result ↔ Contains (referenced us) c.args.a.now) c.deref.ensures.value c.is_among.ensures in
    subst (λ s. IsTrue c.is_among.result ↔ IsAncestor (g.L.Ancestry.parents s.0) c.args.a.now c.args.b.now) c.self.view_is
    (λ t. (placed.all c.args.a.now).0 (among.0 t), λ above. among.1 ((placed.all c.args.a.now).1 above))

pub returns-in-Some-find : goal.returns-in-Some-find
returns-in-Some-find g c =
    let other = c.in-Some-find.other.now in
    let above = above_other (g.L.Ancestry.parents c.self.inside.store.now) c.self.inside.others.kept.items other c.args.b.now c.self.invariant.rest c.in-Some-find.ensures.kept c.in-Some-find.ensures.same in
    let among = subst (λ (us : List (Bor EntityUid)). IsTrue c.is_among-in-Some-find.result ↔ Contains (referenced us) c.args.a.now) c.deref-in-Some-find.ensures.value c.is_among-in-Some-find.ensures in
    subst (λ s. IsTrue c.is_among-in-Some-find.result ↔ IsAncestor (g.L.Ancestry.parents s.0) c.args.a.now c.args.b.now) c.self.view_is
    (λ t. (above.all c.args.a.now).0 (among.0 t), λ h. among.1 ((above.all c.args.a.now).1 h))
