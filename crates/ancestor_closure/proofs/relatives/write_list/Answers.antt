use Rattle.std.proofs.Common.{◌≡◌, ◌∙◌, sym, ap, Some, is_some}
use Rattle.std.specs.Option.{option_copied_mut}
use Rattle.std.specs.BTreeMap.{get}
use Rattle.values.specs.Names.{uid_cmp}
use Rattle.ancestor_closure.specs.Lists.{children_or_none}
use Rattle.ancestor_closure.specs.declared.relatives.Relatives.{Relatives}
use Rattle.ancestor_closure.proofs.Updates.{lists_at, same_children, stay}
use Rattle.ancestor_closure.proofs.relatives.write_list.Goals as goal

pub returns-in-Some-clause-lists : goal.returns-in-Some-clause-lists
returns-in-Some-clause-lists c =
    let m = c.args.relatives.now in
    let w : Relatives = record { uid = c.in-Some.known.now.uid; ancestors = c.args.list; children = c.in-Some.known.now.children } in
    let held : get uid_cmp m c.args.uid.now ≡ Some c.in-Some.known.now = sym c.get_mut.ensures.value ∙ ap option_copied_mut c.in-Some.is in
    lists_at m (c.get_mut.follows.lender w) c.args.uid.now w (λ u. ((c.get_mut.follows.holds w).3 (ap is_some held)).0 u)

pub returns-in-Some-clause-children : goal.returns-in-Some-clause-children
returns-in-Some-clause-children c =
    let m = c.args.relatives.now in
    let w : Relatives = record { uid = c.in-Some.known.now.uid; ancestors = c.args.list; children = c.in-Some.known.now.children } in
    let held : get uid_cmp m c.args.uid.now ≡ Some c.in-Some.known.now = sym c.get_mut.ensures.value ∙ ap option_copied_mut c.in-Some.is in
    same_children m (c.get_mut.follows.lender w) c.args.uid.now w (λ u. ((c.get_mut.follows.holds w).3 (ap is_some held)).0 u) (sym (ap children_or_none held))

pub returns-in-Some-clause-stay : goal.returns-in-Some-clause-stay
returns-in-Some-clause-stay c =
    let m = c.args.relatives.now in
    let w : Relatives = record { uid = c.in-Some.known.now.uid; ancestors = c.args.list; children = c.in-Some.known.now.children } in
    let held : get uid_cmp m c.args.uid.now ≡ Some c.in-Some.known.now = sym c.get_mut.ensures.value ∙ ap option_copied_mut c.in-Some.is in
    stay m (c.get_mut.follows.lender w) c.args.uid.now w (λ u. ((c.get_mut.follows.holds w).3 (ap is_some held)).0 u)
