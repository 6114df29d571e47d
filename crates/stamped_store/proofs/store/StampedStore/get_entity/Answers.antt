use Rattle.std.proofs.Common.{ap, sym, ◌∙◌}
use Rattle.std.specs.Option.{option_map}
use Rattle.values.specs.Names.{uid_cmp}
use Rattle.stamped_store.specs.JoinMaps.{value_at}
use Rattle.stamped_store.specs.EntryOrder.{plain_entry}
use Rattle.stamped_store.proofs.Stores.{get-entity}
use Rattle.stamped_store.proofs.store.StampedStore.get_entity.Goals as goal

pub returns-clause-kept : goal.returns-clause-kept
returns-clause-kept g c = c.get.ensures ∙ ap (λ s. value_at uid_cmp s.entities c.args.uid.now) c.self.view_is

pub returns-clause-shown : goal.returns-clause-shown
returns-clause-shown g c =
    ap (option_map plain_entry) (returns-clause-kept g c) ∙ sym (get-entity c.args.self.now.policies c.args.self.now.entities c.args.uid.now)
