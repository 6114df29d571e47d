use Rattle.std.proofs.Common.{◌≡◌, ◌∙◌, sym, ap, subst, false, is_some}
use Rattle.std.specs.BTreeMap.{get}
use Rattle.values.specs.Names.{uid_cmp}
use Rattle.ancestor_search.proofs.Levels.{none_from_test}
use Rattle.ancestor_closure.specs.Lists.{ancestors_in, children_in, ancestors_or_none, children_or_none, HasEntry}
use Rattle.ancestor_closure.proofs.Updates.{same_lists, same_children, stay, there}
use Rattle.ancestor_closure.proofs.relatives.reserve.Goals as goal

pub returns-in_ok-insert-clause-lists : goal.returns-in_ok-insert-clause-lists
returns-in_ok-insert-clause-lists c =
    let m = c.args.relatives.now in
    let absent : is_some (get uid_cmp m c.args.uid.now) ≡ false = sym c.contains_key.ensures ∙ c.if-not-contains_key.true in
    same_lists m c.insert.new.self c.in_ok-name.name c.in_ok-without_relatives.field-0 c.in_ok-insert.ensures.updates.0
    (c.in_ok-without_relatives.ensures.ancestors ∙ sym (ap (ancestors_in m) c.in_ok-name.ensures ∙ ap ancestors_or_none (none_from_test (get uid_cmp m c.args.uid.now) absent)))

pub returns-in_ok-insert-clause-children : goal.returns-in_ok-insert-clause-children
returns-in_ok-insert-clause-children c =
    let m = c.args.relatives.now in
    let absent : is_some (get uid_cmp m c.args.uid.now) ≡ false = sym c.contains_key.ensures ∙ c.if-not-contains_key.true in
    same_children m c.insert.new.self c.in_ok-name.name c.in_ok-without_relatives.field-0 c.in_ok-insert.ensures.updates.0
    (c.in_ok-without_relatives.ensures.children ∙ sym (ap (children_in m) c.in_ok-name.ensures ∙ ap children_or_none (none_from_test (get uid_cmp m c.args.uid.now) absent)))

pub returns-in_ok-insert-clause-stay : goal.returns-in_ok-insert-clause-stay
returns-in_ok-insert-clause-stay c = stay c.args.relatives.now c.insert.new.self c.in_ok-name.name c.in_ok-without_relatives.field-0 c.in_ok-insert.ensures.updates.0

pub returns-in_ok-insert-clause-there : goal.returns-in_ok-insert-clause-there
returns-in_ok-insert-clause-there c =
    subst (λ z. HasEntry c.insert.new.self z) c.in_ok-name.ensures (there c.args.relatives.now c.insert.new.self c.in_ok-name.name c.in_ok-without_relatives.field-0 c.in_ok-insert.ensures.updates.0)
