use Rattle.std.proofs.Common.{◌∙◌, sym, subst}
use Rattle.std.specs.Prelude.{Contains, OnOk}
use Rattle.values.specs.declared.entity_uid.EntityUid.{EntityUid}
use Rattle.ancestor_search.specs.Hierarchy.{referenced}
use Rattle.ancestor_closure.specs.Lists.{children_in, AddsChild, HasEntry}
use Rattle.ancestor_closure.proofs.Whole.{adds_none}
use Rattle.ancestor_closure.proofs.whole_graph.add_to_parents.Goals as goal

pub returns-in_err-name-clause-adds : goal.returns-in_err-name-clause-adds
returns-in_err-name-clause-adds c = adds_none (referenced c.args.parents.now) c.args.uid.now (children_in c.args.relatives.now)

pub returns-in_err-after-clause-adds : goal.returns-in_err-after-clause-adds
returns-in_err-after-clause-adds c = adds_none (referenced c.args.parents.now) c.args.uid.now (children_in c.args.relatives.now)

pub add_to_all-requires : goal.add_to_all-requires
add_to_all-requires c = subst (λ l. (x : EntityUid) → Contains l x → HasEntry c.args.relatives.now x) (sym (c.deref.ensures.value ∙ c.in_ok-after.ensures)) c.requires

pub returns-clause-adds : goal.returns-clause-adds
returns-clause-adds c =
    let f = children_in c.args.relatives.now in
    let g = children_in c.add_to_all.new.relatives in
    subst (λ z. AddsChild (referenced c.args.parents.now) z f g) c.in_ok-name.ensures
    (subst (λ l. AddsChild l c.in_ok-name.name f g) (c.deref.ensures.value ∙ c.in_ok-after.ensures) c.add_to_all.ensures.adds)

pub returns-clause-added : goal.returns-clause-added
returns-clause-added c =
    let g = children_in c.add_to_all.new.relatives in
    subst (λ z. OnOk c.add_to_all.result ((x : EntityUid) → Contains (referenced c.args.parents.now) x → Contains (g x) z)) c.in_ok-name.ensures
    (subst (λ l. OnOk c.add_to_all.result ((x : EntityUid) → Contains l x → Contains (g x) c.in_ok-name.name)) (c.deref.ensures.value ∙ c.in_ok-after.ensures) c.add_to_all.ensures.added)
