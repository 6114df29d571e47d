use Rattle.std.specs.Prelude.{IfOk, Result}
use Rattle.std.proofs.Common.{subst}
use Rattle.schema_decisions.specs.answer_lines.declared.refusal.Refusal.{Refusal}
use Rattle.sync_messages.specs.schema.Views.{schema_view}
use Rattle.stamped_store.specs.Store.{abstract_store}
use Rattle.program_exchanges.specs.declared.joining.Joined.{Joined}
use Rattle.program_exchanges.specs.Messages.{Joins, IsSendable}
use Rattle.program_exchanges.proofs.MessageLemmas.{merged_under}
use Rattle.program_exchanges.proofs.merging.merge_under.Goals as goal

pub returns-clause-merged : goal.returns-clause-merged
returns-clause-merged c =
    let k = schema_view c.args.schema.now in
    let h = c.in_ok-both.ensures.joined in
    let e = abstract_store c.new.result in
    let d = abstract_store c.new-2.result in
    let joins = subst (λ (r : Result Joined Refusal). IfOk r (λ j. Joins k d c.args.g.now (abstract_store j.store) j.taken))
    h.other_is c.join_message-second.ensures.joined in
    let sends = subst (λ (r : Result Joined Refusal). IfOk r (λ j. IsSendable k d → IsSendable k (abstract_store j.store)))
    h.other_is c.join_message-second.ensures.sendable in
    merged_under c.updates_have_one_store.ensures.own c.updates_have_one_store.ensures.union
    c.stores_are_joined.ensures.only k e d (abstract_store c.in_ok-store.field-0.store) (abstract_store h.joined.store)
    (abstract_store c.in_ok-both.both) c.args.f.now c.args.g.now c.in_ok-state_of.field-0.items c.in_ok-store.field-0.taken
    h.joined.taken c.new.ensures.empty c.new-2.ensures.empty c.in_ok-store.ensures.joined c.in_ok-store.ensures.sendable
    joins sends h.join c.in_ok-state_of.ensures.text c.in_ok-state_of.ensures.reads_back
