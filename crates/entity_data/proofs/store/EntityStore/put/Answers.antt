use Rattle.std.proofs.Common.{◌∙◌, ap, Some, arith, rules}
use Rattle.std.proofs.lemmas.Grind.{common_steps}
use Rattle.std.specs.Prelude.{if◌then◌else◌}
use Rattle.evaluator.specs.ancestor_search.Decided.{is_same}
use Rattle.entity_data.specs.EntityStores.{Entries, kept_in, data_of}
use Rattle.entity_data.proofs.store.EntityStore.put.Goals as goal

pub returns-clause-puts : goal.returns-clause-puts
returns-clause-puts c first q =
    let put = (c.in_ok-self-inside.ensures.update.0 (data_of c.args.entity)).0 q in
    let before = ap (λ (es : Entries). if is_same c.args.entity.uid q then Some (data_of c.args.entity) else kept_in es q) c.self.view_is in
    let both = put ∙ before in
    first_of (search (rules, both, c.insert.ensures.value), grind (arith, common_steps, both, c.insert.ensures.value))
