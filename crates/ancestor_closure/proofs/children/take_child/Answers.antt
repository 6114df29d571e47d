use Rattle.std.proofs.Common.{◌≡◌, ◌∙◌, sym, ap, subst, Some, None, is_some}
use Rattle.std.specs.Prelude.{Contains}
use Rattle.std.specs.Option.{option_copied_mut}
use Rattle.std.specs.BTreeMap.{get}
use Rattle.values.specs.Names.{uid_cmp}
use Rattle.ancestor_closure.specs.Lists.{ancestors_in, children_in, ancestors_or_none, children_or_none}
use Rattle.ancestor_closure.specs.declared.relatives.Relatives.{Relatives}
use Rattle.ancestor_closure.proofs.Updates.{same_lists, takes, takes_none, member_kept, member_from, member_gone}
use Rattle.ancestor_closure.proofs.children.take_child.Goals as goal

pub returns-in-Some-clause-lists : goal.returns-in-Some-clause-lists
returns-in-Some-clause-lists c =
    let m = c.args.relatives.now in
    let known = c.in-Some.known.now in
    let w : Relatives = record { uid = known.uid; ancestors = known.ancestors; children = c.remove.new.self } in
    let held : get uid_cmp m c.args.parent.now ≡ Some known = sym c.get_mut.ensures.value ∙ ap option_copied_mut c.in-Some.is in
    let n = c.get_mut.follows.lender w in
    same_lists m n c.args.parent.now w (λ u. ((c.get_mut.follows.holds w).3 (ap is_some held)).0 u) (sym (ap ancestors_or_none held))

pub returns-in-Some-clause-takes : goal.returns-in-Some-clause-takes
returns-in-Some-clause-takes c =
    let m = c.args.relatives.now in
    let known = c.in-Some.known.now in
    let w : Relatives = record { uid = known.uid; ancestors = known.ancestors; children = c.remove.new.self } in
    let held : get uid_cmp m c.args.parent.now ≡ Some known = sym c.get_mut.ensures.value ∙ ap option_copied_mut c.in-Some.is in
    let n = c.get_mut.follows.lender w in
    let was : children_in m c.args.parent.now ≡ known.children.keys = ap children_or_none held in
    let ch = c.args.child.now in
    let gone = c.remove.ensures.updates.0 in
    takes m n c.args.parent.now w (λ u. ((c.get_mut.follows.holds w).3 (ap is_some held)).0 u) ch
    (λ y h. member_kept known.children.keys c.remove.new.self.keys ch gone y (subst (λ l. Contains l y) was h))
    (λ y h. subst (λ l. Contains l y) (sym was) (member_from known.children.keys c.remove.new.self.keys ch gone y h))
    (member_gone known.children.keys c.remove.new.self.keys ch gone)

pub returns-in-None-clause-lists : goal.returns-in-None-clause-lists
returns-in-None-clause-lists c = λ q. ap (λ m. ancestors_in m q) c.get_mut.follows.holds-at-none

pub returns-in-None-clause-takes : goal.returns-in-None-clause-takes
returns-in-None-clause-takes c =
    let none : get uid_cmp c.args.relatives.now c.args.parent.now ≡ None = sym c.get_mut.ensures.value ∙ ap option_copied_mut c.in-None.is in
    takes_none c.args.parent.now c.args.child.now (children_in c.args.relatives.now) _ (ap children_or_none none) (λ q. ap (λ m. children_in m q) c.get_mut.follows.holds-at-none)
