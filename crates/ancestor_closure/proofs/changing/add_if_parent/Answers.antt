use Rattle.std.proofs.Common.{◌∙◌, [], ◌∷◌, ◌++◌, refl, ap, sym, subst, inl, inr}
use Rattle.std.specs.Prelude.{Contains}
use Rattle.ancestor_closure.specs.Lists.{children_in}
use Rattle.ancestor_closure.proofs.changing.add_if_parent.Goals as goal

pub returns-then-not-is_child : goal.returns-then-not-is_child
returns-then-not-is_child c =
    inr (
      (λ there.
          let yes = c.is_child.ensures.1 (subst (λ z. Contains (children_in c.args.relatives.now z) c.args.child.now) (sym c.deref.ensures) there) in
          cc (yes, c.if-not-is_child.true)),
      refl,
    )

pub returns : goal.returns
returns c =
    inl (
      subst (λ z. Contains (children_in c.args.relatives.now z) c.args.child.now) c.deref.ensures (c.is_child.ensures.0 c.if-not-is_child.false),
      c.in_ok-push.ensures.items ∙ ap (λ z. c.args.found.now.items ++ z ∷ []) c.in_ok-share.ensures,
    )
