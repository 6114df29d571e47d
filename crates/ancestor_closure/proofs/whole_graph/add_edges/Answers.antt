use Rattle.std.proofs.Common.{◌≡◌, ◌∙◌, sym, subst, ap}
use Rattle.std.specs.Prelude.{Contains}
use Rattle.values.specs.declared.entity_uid.EntityUid.{EntityUid}
use Rattle.ancestor_search.specs.Hierarchy.{referenced}
use Rattle.ancestor_closure.specs.Lists.{children_in, AddsChild, HasEntry}
use Rattle.std.proofs.lemmas.Result.{on_ok_weaker}
use Rattle.ancestor_closure.proofs.Whole.{adds_all, adds_before}
use Rattle.ancestor_closure.proofs.whole_graph.add_edges.Goals as goal

pub add_to_parents-requires : goal.add_to_parents-requires
add_to_parents-requires g c =
    subst (λ l. (x : EntityUid) → Contains (referenced l) x → HasEntry c.add_entries.new.relatives x) (c.deref.ensures.value ∙ sym c.deref-2.ensures.value) c.in_ok-add_entries.ensures.parents_there

pub returns-clause-lists : goal.returns-clause-lists
returns-clause-lists g c = λ q. c.add_to_parents.ensures.lists q ∙ c.add_entries.ensures.lists q

pub returns-clause-stay : goal.returns-clause-stay
returns-clause-stay g c = λ q h. c.add_to_parents.ensures.stay q (c.add_entries.ensures.stay q h)

pub returns-clause-there : goal.returns-clause-there
returns-clause-there g c = on_ok_weaker c.add_to_parents.result (λ _. c.add_to_parents.ensures.stay c.args.uid.now c.in_ok-add_entries.ensures.there) c.add_to_parents.ensures.added

pub returns-clause-adds : goal.returns-clause-adds
returns-clause-adds g c =
    let ps = g.G.ParentsOf.parents c.args.graph.now c.args.uid.now in
    let qs = referenced c.in_ok-parents.parents.items in
    let same : referenced c.deref-2.result.now ≡ qs = ap referenced c.deref-2.ensures.value in
    let ch = children_in c.add_entries.new.relatives in
    let ch' = children_in c.add_to_parents.new.relatives in
    on_ok_weaker c.add_to_parents.result (λ added. adds_before ps c.args.uid.now (children_in c.args.relatives.now) ch ch' c.add_entries.ensures.children
    (adds_all ps qs c.args.uid.now ch ch' c.in_ok-parents.ensures.all
    (subst (λ l. AddsChild l c.args.uid.now ch ch') same c.add_to_parents.ensures.adds)
    (λ x h. added x (subst (λ l. Contains l x) (sym same) h)))) c.add_to_parents.ensures.added
