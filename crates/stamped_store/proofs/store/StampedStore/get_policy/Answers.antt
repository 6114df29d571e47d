use Rattle.std.proofs.Common.{ap, sym, ◌∙◌}
use Rattle.std.specs.Option.{option_map}
use Rattle.stamped_store.specs.JoinMaps.{value_at_text}
use Rattle.stamped_store.specs.EntryOrder.{plain_entry}
use Rattle.stamped_store.proofs.Stores.{get-policy}
use Rattle.stamped_store.proofs.store.StampedStore.get_policy.Goals as goal

pub returns-clause-kept : goal.returns-clause-kept
returns-clause-kept g c = c.get_str.ensures ∙ ap (λ s. value_at_text s.policies c.args.id.now) c.self.view_is

pub returns-clause-shown : goal.returns-clause-shown
returns-clause-shown g c =
    ap (option_map plain_entry) (returns-clause-kept g c) ∙ sym (get-policy c.args.self.now.policies c.args.self.now.entities c.args.id.now)
