use Rattle.std.proofs.Common.{◌≡◌, ◌∙◌, true, false, refl, sym, subst, inl, inr, IsTrue}
use Rattle.std.specs.Prelude.{Contains, ◌↔◌}
use Rattle.ancestor_search.specs.Hierarchy.{IsAscending}
use Rattle.ancestor_search.specs.Decided.{is_same}
use Rattle.ancestor_search.specs.Deciding.{same_uid, same_self}
use Rattle.ancestor_search.proofs.Cycles.{uid_ties}
use Rattle.ancestor_closure.proofs.ancestor_cache.is_self_or_ancestor.Goals as goal

pub returns-then-eq : goal.returns-then-eq
returns-then-eq c = λ before kept.
    let x = c.args.parent.now in
    let y = c.args.uid.now in
    (λ _. inl (same_uid x y (sym (uid_ties x y) ∙ sym c.eq.ensures ∙ c.if-eq.true)), λ _. refl)

pub returns : goal.returns
returns c = λ before kept.
    let x = c.args.parent.now in
    let y = c.args.uid.now in
    let list = kept x in
    let found = c.is_in.ensures (subst (λ l. IsAscending l) (sym c.ancestors_at.ensures) list.1) in
    let is : IsTrue c.is_in.result ↔ Contains _ y = subst (λ l. IsTrue c.is_in.result ↔ Contains l y) c.ancestors_at.ensures found in (
      λ yes. inr ((list.0 y).0 (is.0 yes)),
      λ leads. elim leads [
        | inl same ↦
            let yes : is_same x y ≡ true = subst (λ z. IsTrue (is_same x z)) same (same_self x) in
            let not : is_same x y ≡ false = sym (uid_ties x y) ∙ sym c.eq.ensures ∙ c.if-eq.false in
            cc (yes, not)
        | inr above ↦ is.1 ((list.0 y).1 above)
      ],
    )
