use Rattle.std.proofs.Common.{subst, ◌≡◌}
use Rattle.site_store.specs.policy_grammar.declared.policy.Policy.{Policy}
use Rattle.site_store.specs.entity_data.declared.entity.Entity.{Entity}
use Rattle.site_store.specs.stamped_store.Store.{StoreEntries, abstract_store, updates, abstract_updates}
use Rattle.site_store.specs.schema.Views.{schema_view}
use Rattle.site.specs.SiteViews.{SiteView, schema_of, store_in, IsValidStore}
use Rattle.site.proofs.Taking.{may_be_held}
use Rattle.site.proofs.site.Site.invariant_holds.Goals as goal

pub returns-clause-held : goal.returns-clause-held
returns-clause-held c =
    subst (λ (v : SiteView). IsValidStore (schema_of v) (store_in v)) c.self.view_is
    (may_be_held (schema_view c.self.inside.store.schema) c.self.inside.name c.self.inside.store.kept c.self.invariant
    (subst (λ (k : StoreEntries Policy Entity). updates (abstract_store k) ≡ abstract_updates k) c.store.ensures
    c.policies.ensures.in_order))
