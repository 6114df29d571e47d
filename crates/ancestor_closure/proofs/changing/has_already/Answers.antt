use Rattle.std.proofs.Common.{◌∙◌, rules, sym, subst}
use Rattle.std.specs.Prelude.{Contains, ◌↔◌}
use Rattle.values.specs.declared.entity_uid.EntityUid.{EntityUid}
use Rattle.ancestor_search.specs.Hierarchy.{IsAscending}
use Rattle.ancestor_closure.specs.Lists.{ancestors_in, children_in}
use Rattle.ancestor_closure.proofs.changing.has_already.Goals as goal

pub are_in-requires : goal.are_in-requires
are_in-requires c =
    subst (λ l. IsAscending l) (sym c.deref.ensures.value)
    (c.in_ok-before.ensures.ascending (subst (λ z. IsAscending (ancestors_in c.args.relatives.now z)) (sym c.in_ok-name.ensures) c.requires.list))

pub returns : goal.returns
returns c =
    let m = c.args.relatives.now in
    let kept : (x : EntityUid) → Contains c.in_ok-before.before.items x ↔ (Contains (ancestors_in m c.args.uid.now) x × Contains (children_in m x) c.args.uid.now) =
    λ x. subst (λ z. Contains c.in_ok-before.before.items x ↔ (Contains (ancestors_in m z) x × Contains (children_in m x) z)) c.in_ok-name.ensures (c.in_ok-before.ensures.all x) in (
      λ yes x. (
        λ h. (kept x).0 (subst (λ l. Contains l x) c.deref.ensures.value (c.are_in.ensures.0 c.if-not-are_in.false x h)),
        λ h. c.are_among.ensures.0 yes x (subst (λ l. Contains l x) (sym c.deref-2.ensures.value) ((kept x).1 h)),
      ),
      λ same. c.are_among.ensures.1 (λ x h. (same x).1 ((kept x).0 (subst (λ l. Contains l x) c.deref-2.ensures.value h))),
    )

pub returns-then-not-are_in : goal.returns-then-not-are_in
returns-then-not-are_in c =
    let m = c.args.relatives.now in
    let kept : (x : EntityUid) → Contains c.in_ok-before.before.items x ↔ (Contains (ancestors_in m c.args.uid.now) x × Contains (children_in m x) c.args.uid.now) =
    λ x. subst (λ z. Contains c.in_ok-before.before.items x ↔ (Contains (ancestors_in m z) x × Contains (children_in m x) z)) c.in_ok-name.ensures (c.in_ok-before.ensures.all x) in (
      λ no. search rules,
      λ same. sym c.if-not-are_in.true ∙ c.are_in.ensures.1 (λ x h. subst (λ l. Contains l x) (sym c.deref.ensures.value) ((kept x).1 ((same x).0 h))),
    )
