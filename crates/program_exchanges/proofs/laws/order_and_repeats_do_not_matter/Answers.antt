use Rattle.program_exchanges.proofs.MergeLemmas.{AreStores, order, repeats, groups}
use Rattle.program_exchanges.proofs.laws.order_and_repeats_do_not_matter.Goals as goal

pub returns-clause-order : goal.returns-clause-order
returns-clause-order c =
    let law : AreStores = record { grouped = c.updates_have_one_store.ensures.grouped; same_updates = c.updates_have_one_store.ensures.same_updates } in
    order law c.bytes_have_one_outcome.ensures.one_schema

pub returns-clause-repeats : goal.returns-clause-repeats
returns-clause-repeats c =
    let law : AreStores = record { grouped = c.updates_have_one_store.ensures.grouped; same_updates = c.updates_have_one_store.ensures.same_updates } in
    repeats law c.bytes_have_one_outcome.ensures.one_schema

pub returns-clause-groups : goal.returns-clause-groups
returns-clause-groups c =
    let law : AreStores = record { grouped = c.updates_have_one_store.ensures.grouped; same_updates = c.updates_have_one_store.ensures.same_updates } in
    groups law c.bytes_have_one_outcome.ensures.one_schema
