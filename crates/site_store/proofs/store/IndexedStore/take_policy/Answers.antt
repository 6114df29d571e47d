use Rattle.std.proofs.Common.{OnOk, subst, string_bytes}
use Rattle.std.specs.String.{string_cmp}
use Rattle.stamped_store.specs.EntryOrder.{greater}
use Rattle.stamped_store.specs.Store.{abstract_store, policy_name, KeepsOtherNames}
use Rattle.stamped_store.specs.JoinMaps.{taken}
use Rattle.site_store.specs.StoreViews.{StoreView}
use Rattle.site_store.proofs.Standing.{beside_policy}
use Rattle.site_store.proofs.store.IndexedStore.take_policy.Goals as goal

pub invariant_of-self : goal.invariant_of-self
invariant_of-self c =
    let old = c.self.inside.store in
    beside_policy c.self.inside.schema c.take_policy.result c.take_policy.new.store old
    (taken string_cmp greater old.policies c.args.id c.args.entry) c.take_policy.ensures.kept c.take_policy.ensures.err
    c.take_policy.new.index c.take_policy.ensures.indexed c.self.inside.ancestors
    c.self.invariant.ancestors_are

pub returns-clause-others : goal.returns-clause-others
returns-clause-others c =
    subst (λ (v : StoreView). OnOk c.take_policy.result (KeepsOtherNames (policy_name (string_bytes c.args.id)) (abstract_store v.kept)
    (abstract_store c.take_policy.new.store))) c.self.view_is c.take_policy.ensures.others
