use Rattle.std.proofs.Common.{◌≡◌, ◌∙◌, [], ◌∷◌, sym, ap, subst, inl, inr, Some, None, is_some}
use Rattle.std.specs.Prelude.{Contains}
use Rattle.std.specs.Option.{option_copied_mut}
use Rattle.std.specs.BTreeMap.{get}
use Rattle.values.specs.Names.{uid_cmp, uid_cmp-IsAntisymmetric}
use Rattle.ancestor_search.proofs.Members.{insert_key-kept, insert_key-from, insert_key-here}
use Rattle.ancestor_closure.specs.Lists.{ancestors_in, children_in, ancestors_or_none, children_or_none, HasEntry}
use Rattle.ancestor_closure.specs.declared.relatives.Relatives.{Relatives}
use Rattle.ancestor_closure.proofs.Updates.{same_lists, stay, adds, child_there, none_there}
use Rattle.ancestor_closure.proofs.OneByOne.{adds_as}
use Rattle.ancestor_closure.proofs.children.add_child.Goals as goal

pub returns-in_err-insert-in-Some-clause-lists : goal.returns-in_err-insert-in-Some-clause-lists
returns-in_err-insert-in-Some-clause-lists c =
    let m = c.args.relatives.now in
    let known = c.in-Some.known.now in
    let w : Relatives = record { uid = known.uid; ancestors = known.ancestors; children = c.insert.new.self } in
    let held : get uid_cmp m c.args.parent.now ≡ Some known = sym c.get_mut.ensures.value ∙ ap option_copied_mut c.in-Some.is in
    let n = c.get_mut.follows.lender w in
    same_lists m n c.args.parent.now w (λ u. ((c.get_mut.follows.holds w).3 (ap is_some held)).0 u) (sym (ap ancestors_or_none held))

pub returns-in_err-insert-in-Some-clause-stay : goal.returns-in_err-insert-in-Some-clause-stay
returns-in_err-insert-in-Some-clause-stay c =
    let m = c.args.relatives.now in
    let known = c.in-Some.known.now in
    let w : Relatives = record { uid = known.uid; ancestors = known.ancestors; children = c.insert.new.self } in
    let held : get uid_cmp m c.args.parent.now ≡ Some known = sym c.get_mut.ensures.value ∙ ap option_copied_mut c.in-Some.is in
    let n = c.get_mut.follows.lender w in
    stay m n c.args.parent.now w (λ u. ((c.get_mut.follows.holds w).3 (ap is_some held)).0 u)

pub returns-in_ok-insert-in-Some-clause-lists : goal.returns-in_ok-insert-in-Some-clause-lists
returns-in_ok-insert-in-Some-clause-lists c =
    let m = c.args.relatives.now in
    let known = c.in-Some.known.now in
    let w : Relatives = record { uid = known.uid; ancestors = known.ancestors; children = c.insert.new.self } in
    let held : get uid_cmp m c.args.parent.now ≡ Some known = sym c.get_mut.ensures.value ∙ ap option_copied_mut c.in-Some.is in
    let n = c.get_mut.follows.lender w in
    same_lists m n c.args.parent.now w (λ u. ((c.get_mut.follows.holds w).3 (ap is_some held)).0 u) (sym (ap ancestors_or_none held))

pub returns-in_ok-insert-in-Some-clause-stay : goal.returns-in_ok-insert-in-Some-clause-stay
returns-in_ok-insert-in-Some-clause-stay c =
    let m = c.args.relatives.now in
    let known = c.in-Some.known.now in
    let w : Relatives = record { uid = known.uid; ancestors = known.ancestors; children = c.insert.new.self } in
    let held : get uid_cmp m c.args.parent.now ≡ Some known = sym c.get_mut.ensures.value ∙ ap option_copied_mut c.in-Some.is in
    let n = c.get_mut.follows.lender w in
    stay m n c.args.parent.now w (λ u. ((c.get_mut.follows.holds w).3 (ap is_some held)).0 u)

pub returns-in_err-insert-in-Some-clause-adds : goal.returns-in_err-insert-in-Some-clause-adds
returns-in_err-insert-in-Some-clause-adds c =
    let m = c.args.relatives.now in
    let known = c.in-Some.known.now in
    let w : Relatives = record { uid = known.uid; ancestors = known.ancestors; children = c.insert.new.self } in
    let held : get uid_cmp m c.args.parent.now ≡ Some known = sym c.get_mut.ensures.value ∙ ap option_copied_mut c.in-Some.is in
    let n = c.get_mut.follows.lender w in
    let was : children_in m c.args.parent.now ≡ c.insert.new.self.keys = ap children_or_none held ∙ sym c.in_err-insert-in-Some.ensures.err in
    adds m n c.args.parent.now w (λ u. ((c.get_mut.follows.holds w).3 (ap is_some held)).0 u) c.args.child (λ y h. subst (λ l. Contains l y) was h) (λ y h. inl (subst (λ l. Contains l y) (sym was) h))

pub returns-in_ok-insert-in-Some-clause-adds : goal.returns-in_ok-insert-in-Some-clause-adds
returns-in_ok-insert-in-Some-clause-adds c =
    let m = c.args.relatives.now in
    let known = c.in-Some.known.now in
    let w : Relatives = record { uid = known.uid; ancestors = known.ancestors; children = c.insert.new.self } in
    let held : get uid_cmp m c.args.parent.now ≡ Some known = sym c.get_mut.ensures.value ∙ ap option_copied_mut c.in-Some.is in
    let n = c.get_mut.follows.lender w in
    let was : children_in m c.args.parent.now ≡ known.children.keys = ap children_or_none held in
    let now = c.in_ok-insert-in-Some.ensures.keys in
    adds m n c.args.parent.now w (λ u. ((c.get_mut.follows.holds w).3 (ap is_some held)).0 u) c.args.child
    (λ y h. subst (λ l. Contains l y) (sym now) (insert_key-kept uid_cmp known.children.keys c.args.child y (subst (λ l. Contains l y) was h)))
    (λ y h. elim (insert_key-from uid_cmp known.children.keys c.args.child y (subst (λ l. Contains l y) now h)) [
      | inl t ↦ inl (subst (λ l. Contains l y) (sym was) t)
      | inr same ↦ inr same
    ])

pub returns-in_ok-insert-in-Some-clause-added : goal.returns-in_ok-insert-in-Some-clause-added
returns-in_ok-insert-in-Some-clause-added c =
    let m = c.args.relatives.now in
    let known = c.in-Some.known.now in
    let w : Relatives = record { uid = known.uid; ancestors = known.ancestors; children = c.insert.new.self } in
    let held : get uid_cmp m c.args.parent.now ≡ Some known = sym c.get_mut.ensures.value ∙ ap option_copied_mut c.in-Some.is in
    let n = c.get_mut.follows.lender w in
    child_there m n c.args.parent.now w (λ u. ((c.get_mut.follows.holds w).3 (ap is_some held)).0 u) c.args.child
    (subst (λ l. Contains l c.args.child) (sym c.in_ok-insert-in-Some.ensures.keys) (insert_key-here uid_cmp uid_cmp-IsAntisymmetric known.children.keys c.args.child))

pub returns-in-None-clause-lists : goal.returns-in-None-clause-lists
returns-in-None-clause-lists c = λ q. ap (λ m. ancestors_in m q) c.get_mut.follows.holds-at-none

pub returns-in-None-clause-stay : goal.returns-in-None-clause-stay
returns-in-None-clause-stay c = λ q h. subst (λ m. HasEntry m q) (sym c.get_mut.follows.holds-at-none) h

pub returns-in-None-clause-adds : goal.returns-in-None-clause-adds
returns-in-None-clause-adds c = adds_as (c.args.parent.now ∷ []) c.args.child (children_in c.args.relatives.now) _ (λ q. ap (λ m. children_in m q) c.get_mut.follows.holds-at-none)

pub returns-in-None-clause-added : goal.returns-in-None-clause-added
returns-in-None-clause-added c =
    let none : get uid_cmp c.args.relatives.now c.args.parent.now ≡ None = sym c.get_mut.ensures.value ∙ ap option_copied_mut c.in-None.is in
    none_there c.args.relatives.now c.args.parent.now none c.requires
