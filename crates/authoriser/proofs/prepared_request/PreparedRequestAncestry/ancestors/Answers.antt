use Rattle.std.proofs.Common.{◌≡◌, ◌∙◌, sym, subst, List}
use Rattle.std.specs.Prelude.{IfOk}
use Rattle.std.specs.Borrow.{Bor}
use Rattle.std.proofs.lemmas.Result.{IfOk-weaker}
use Rattle.values.specs.declared.entity_uid.EntityUid.{EntityUid}
use Rattle.evaluator.specs.ancestor_search.Hierarchy.{AreAllAncestorsOf, IsAscending, referenced}
use Rattle.authoriser.proofs.Judging.{all_placed, above_other}
use Rattle.authoriser.proofs.prepared_request.PreparedRequestAncestry.ancestors.Goals as goal

pub returns-in-Some-clause-all : goal.returns-in-Some-clause-all
returns-in-Some-clause-all g c =
    let placed = c.in-Some.ensures.ancestors (g.L.Ancestry.parents c.self.inside.store.now) (all_placed _ _ _ c.self.invariant.three.ancestors) in
    IfOk-weaker c.copied.result (λ v. v.items ≡ c.deref.result.now) (λ v. AreAllAncestorsOf (g.L.Ancestry.parents c.args.self.now.0) c.args.uid.now (referenced v.items))
    (λ v e. subst (λ s. AreAllAncestorsOf (g.L.Ancestry.parents s.0) c.args.uid.now (referenced v.items)) c.self.view_is
    (subst (λ (us : List (Bor EntityUid)). AreAllAncestorsOf (g.L.Ancestry.parents c.self.inside.store.now) c.args.uid.now (referenced us)) (sym (e ∙ c.deref.ensures.value)) placed.all))
    c.copied.ensures

pub returns-in-Some-clause-ascending : goal.returns-in-Some-clause-ascending
returns-in-Some-clause-ascending g c =
    let placed = c.in-Some.ensures.ancestors (g.L.Ancestry.parents c.self.inside.store.now) (all_placed _ _ _ c.self.invariant.three.ancestors) in
    IfOk-weaker c.copied.result (λ v. v.items ≡ c.deref.result.now) (λ v. IsAscending (referenced v.items))
    (λ v e. subst (λ (us : List (Bor EntityUid)). IsAscending (referenced us)) (sym (e ∙ c.deref.ensures.value)) placed.ascending)
    c.copied.ensures

pub returns-in-Some-find-clause-all : goal.returns-in-Some-find-clause-all
returns-in-Some-find-clause-all g c =
    let other = c.in-Some-find.other.now in
    let above = above_other (g.L.Ancestry.parents c.self.inside.store.now) c.self.inside.others.kept.items other c.args.uid.now c.self.invariant.rest c.in-Some-find.ensures.kept c.in-Some-find.ensures.same in
    IfOk-weaker c.copied-in-Some-find.result (λ v. v.items ≡ c.deref-in-Some-find.result.now) (λ v. AreAllAncestorsOf (g.L.Ancestry.parents c.args.self.now.0) c.args.uid.now (referenced v.items))
    (λ v e. subst (λ s. AreAllAncestorsOf (g.L.Ancestry.parents s.0) c.args.uid.now (referenced v.items)) c.self.view_is
    (subst (λ (us : List (Bor EntityUid)). AreAllAncestorsOf (g.L.Ancestry.parents c.self.inside.store.now) c.args.uid.now (referenced us)) (sym (e ∙ c.deref-in-Some-find.ensures.value)) above.all))
    c.copied-in-Some-find.ensures

pub returns-in-None-find-clause-all : goal.returns-in-None-find-clause-all
returns-in-None-find-clause-all g c =
    subst (λ s. IfOk c.ancestors.result (λ found. AreAllAncestorsOf (g.L.Ancestry.parents s.0) c.args.uid.now (referenced found.items))) c.self.view_is c.ancestors.ensures.all
