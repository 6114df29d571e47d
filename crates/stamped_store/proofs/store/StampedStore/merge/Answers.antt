use Rattle.std.proofs.Common.{◌≡◌, ◌∙◌, ap, subst, refl, take, ◌+◌, []}
use Rattle.std.specs.String.{string_cmp}
use Rattle.stamped_store.specs.EntryOrder.{greater}
use Rattle.stamped_store.specs.JoinMaps.{all_joined}
use Rattle.stamped_store.specs.Store.{concrete_entries, joined_entries, first_entries, abstract_store, abstract_updates, updates}
use Rattle.stamped_store.proofs.Stores.{counted_all, counted_anew}
use Rattle.stamped_store.proofs.JoinedStores.{joined_whole, joined_first, kept_first_policies, kept_first_entities}
use Rattle.stamped_store.proofs.store.StampedStore.merge.Goals as goal

-- ---- memory was refused among the policies
pub invariant_of-self : goal.invariant_of-self
invariant_of-self g c =
    let es = c.self.inside.entities in
    counted_anew c.self.inside.policies (take c.in-Err.short.taken c.other.inside.policies) c.merge.new.self es [] es c.self.inside.greatest _ c.in-Err.ensures.short_entries refl c.greatest_of_both-self-inside.ensures c.self.invariant

pub returns-in-Err-clause-short_kept : goal.returns-in-Err-clause-short_kept
returns-in-Err-clause-short_kept g c =
    let self = concrete_entries c.self.inside.policies c.self.inside.entities in
    let other = concrete_entries c.other.inside.policies c.other.inside.entities in
    kept_first_policies self other c.merge.new.self c.in-Err.short.taken c.in-Err.ensures.short_entries c.in-Err.ensures.cut
    ∙ ap (λ s. joined_entries s (first_entries c.in-Err.short.taken other)) c.self.view_is
    ∙ ap (λ o. joined_entries c.args.self.now (first_entries c.in-Err.short.taken o)) c.other.view_is

pub returns-in-Err-clause-short : goal.returns-in-Err-clause-short
returns-in-Err-clause-short g c =
    let in_order : updates (abstract_store c.args.other) ≡ abstract_updates c.args.other = subst (λ x. updates (abstract_store x) ≡ abstract_updates x) c.other.view_is c.other.invariant.in_order in
    joined_first c.args.self.now c.args.other _ c.in-Err.short.taken in_order (returns-in-Err-clause-short_kept g c)

-- ---- memory was refused among the entities
pub invariant_of-self-in-Err-merge : goal.invariant_of-self-in-Err-merge
invariant_of-self-in-Err-merge g c =
    counted_anew c.self.inside.policies c.other.inside.policies c.merge.new.self c.self.inside.entities (take c.in-Err-merge.short.taken c.other.inside.entities) c.merge-2.new.self c.self.inside.greatest _ c.in_default.ensures.ok_entries c.in-Err-merge.ensures.short_entries c.greatest_of_both-self-inside-in-Err-merge.ensures c.self.invariant

pub returns-in-Err-merge-clause-short_kept : goal.returns-in-Err-merge-clause-short_kept
returns-in-Err-merge-clause-short_kept g c =
    let self = concrete_entries c.self.inside.policies c.self.inside.entities in
    let other = concrete_entries c.other.inside.policies c.other.inside.entities in
    let k = c.short_behind.result.taken in
    kept_first_entities self other c.merge.new.self c.merge-2.new.self c.in-Err-merge.short.taken k c.in_default.ensures.ok_entries c.in-Err-merge.ensures.short_entries (c.short_behind.ensures ∙ ap (λ n. n + c.in-Err-merge.short.taken) c.len-before.ensures.len)
    ∙ ap (λ s. joined_entries s (first_entries k other)) c.self.view_is
    ∙ ap (λ o. joined_entries c.args.self.now (first_entries k o)) c.other.view_is

pub returns-in-Err-merge-clause-short : goal.returns-in-Err-merge-clause-short
returns-in-Err-merge-clause-short g c =
    let in_order : updates (abstract_store c.args.other) ≡ abstract_updates c.args.other = subst (λ x. updates (abstract_store x) ≡ abstract_updates x) c.other.view_is c.other.invariant.in_order in
    joined_first c.args.self.now c.args.other _ c.short_behind.result.taken in_order (returns-in-Err-merge-clause-short_kept g c)

-- ---- all of the other store was taken
pub invariant_of-self-2 : goal.invariant_of-self-2
invariant_of-self-2 g c =
    counted_all c.self.inside.policies c.other.inside.policies c.merge.new.self c.self.inside.entities c.other.inside.entities c.merge-2.new.self c.self.inside.greatest c.other.inside.greatest _
    c.in_default.ensures.ok_entries c.in_default-merge.ensures.ok_entries c.greater_count-self-inside.ensures c.self.invariant c.other.invariant

pub returns-clause-ok_kept : goal.returns-clause-ok_kept
returns-clause-ok_kept g c =
    ap (λ ps. concrete_entries ps c.merge-2.new.self) c.in_default.ensures.ok_entries
    ∙ ap (concrete_entries (all_joined string_cmp greater c.self.inside.policies c.other.inside.policies)) c.in_default-merge.ensures.ok_entries
    ∙ ap (λ s. joined_entries s (concrete_entries c.other.inside.policies c.other.inside.entities)) c.self.view_is
    ∙ ap (joined_entries c.args.self.now) c.other.view_is

pub returns-clause-ok : goal.returns-clause-ok
returns-clause-ok g c =
    let in_order : updates (abstract_store c.args.other) ≡ abstract_updates c.args.other = subst (λ x. updates (abstract_store x) ≡ abstract_updates x) c.other.view_is c.other.invariant.in_order in
    joined_whole c.args.self.now c.args.other _ in_order (returns-clause-ok_kept g c)
