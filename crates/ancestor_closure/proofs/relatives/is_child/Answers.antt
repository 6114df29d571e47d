use Rattle.std.proofs.Common.{◌≡◌, ◌∙◌, sym, ap, subst, Some}
use Rattle.std.specs.Prelude.{Contains, IsTrue, ◌↔◌}
use Rattle.std.specs.Option.{option_copied}
use Rattle.std.specs.Cmp.{eq_by_cmp_equiv}
use Rattle.std.specs.BTreeMap.{get}
use Rattle.std.proofs.lemmas.Map.Views.{Contains-from_any, list_any-from_Contains, tells_apart}
use Rattle.values.specs.Names.{uid_cmp, uid_cmp-IsTotalOrder, uid_cmp-IsAntisymmetric}
use Rattle.ancestor_closure.specs.Lists.{children_or_none}
use Rattle.ancestor_closure.proofs.relatives.is_child.Goals as goal

pub returns-in-Some : goal.returns-in-Some
returns-in-Some c =
    let held : get uid_cmp c.args.relatives.now c.args.parent.now ≡ Some c.in-Some.known.now = sym c.get.ensures.value ∙ ap option_copied c.in-Some.is in
    subst (λ o. IsTrue c.contains.result ↔ Contains (children_or_none o) c.args.child.now) (sym held) (
      λ yes. Contains-from_any (tells_apart uid_cmp-IsAntisymmetric) c.args.child.now c.in-Some.known.now.children.keys (sym c.contains.ensures ∙ yes),
      λ h. c.contains.ensures ∙ list_any-from_Contains (eq_by_cmp_equiv uid_cmp-IsTotalOrder) c.args.child.now c.in-Some.known.now.children.keys h,
    )
