use Rattle.std.proofs.Common.{OnOk, subst, string_bytes}
use Rattle.std.specs.String.{string_cmp}
use Rattle.stamped_store.specs.EntryOrder.{greater}
use Rattle.stamped_store.specs.Store.{abstract_store, policy_name, KeepsOtherNames}
use Rattle.stamped_store.specs.JoinMaps.{taken}
use Rattle.site_store.specs.StoreViews.{StoreView}
use Rattle.site_store.proofs.Standing.{beside_policy, as_lent, as_held}
use Rattle.site_store.proofs.store.IndexedStore.record_policy.Goals as goal

pub rebuild_absent-requires : goal.rebuild_absent-requires
rebuild_absent-requires c = as_lent c.self.inside.schema c.deref.result.now c.deref.ensures c.self.inside.store c.self.inside.index
    c.self.inside.ancestors c.self.invariant

pub invariant_of-self : goal.invariant_of-self
invariant_of-self c =
    let old = c.self.inside.store in
    beside_policy c.self.inside.schema c.record_policy.result c.record_policy.new.store old
    (taken string_cmp greater old.policies c.args.id c.args.entry) c.record_policy.ensures.kept c.record_policy.ensures.err
    c.record_policy.new.index c.record_policy.ensures.indexed c.rebuild_absent.new.ancestors
    (as_held c.self.inside.schema c.deref.result.now c.deref.ensures c.self.inside.store c.rebuild_absent.new.index c.rebuild_absent.new.ancestors c.rebuild_absent.ensures).ancestors_are

pub returns-clause-others : goal.returns-clause-others
returns-clause-others c =
    subst (λ (v : StoreView). OnOk c.record_policy.result (KeepsOtherNames (policy_name (string_bytes c.args.id)) (abstract_store v.kept)
    (abstract_store c.record_policy.new.store))) c.self.view_is c.record_policy.ensures.others
