use Rattle.std.proofs.Common.{sym, ap, subst, string_bytes}
use Rattle.std.specs.String.{string_cmp}
use Rattle.site_store.specs.schema.SchemaEntries.{SchemaEntries}
use Rattle.site_store.specs.schema.Views.{schema_view}
use Rattle.site_store.specs.policy_grammar.declared.policy.Policy.{Policy}
use Rattle.site_store.specs.entity_data.declared.entity.Entity.{Entity}
use Rattle.site_store.specs.stamped_store.declared.entry.Entry.{Entry}
use Rattle.site_store.specs.stamped_store.declared.entry.Stamp.{Stamp}
use Rattle.site_store.specs.stamped_store.EntryOrder.{greater, plain_entry}
use Rattle.site_store.specs.stamped_store.Reading.{IsBodyRead}
use Rattle.site_store.specs.stamped_store.Store.{StoreEntries, concrete_entries, policy_name, abstract_store}
use Rattle.site_store.specs.stamped_store.JoinMaps.{taken}
use Rattle.sync_messages.specs.sync_format.Summaries.{IsStamped}
use Rattle.site.specs.Admitted.{IsPolicyUnder}
use Rattle.std.specs.Prelude.{Some}
use Rattle.site.specs.inner.Recording.{IsNext}
use Rattle.site.specs.SiteViews.{IsSite}
use Rattle.site.proofs.Recording.{site_after}
use Rattle.site.proofs.site.Site.record_policy.Goals as goal

pub invariant_of-self : goal.invariant_of-self
invariant_of-self c =
    let schema = c.self.inside.store.schema in
    let k = c.self.inside.store.kept in
    let entry : Entry Policy = record { stamp = c.in-Some.stamp; body = c.args.body } in
    let name = policy_name (string_bytes c.args.id) in
    let next = subst (λ (l : StoreEntries Policy Entity). IsNext c.self.inside.name (abstract_store l) (Some c.in-Some.stamp))
    c.store.ensures c.in-Some.ensures in
    subst (λ (x : SchemaEntries). IsSite (schema_view x) c.self.inside.name c.record_policy-taken.new.self.kept) (sym c.record_policy-taken.ensures.same)
    (site_after (schema_view schema) c.self.inside.name k (concrete_entries (taken string_cmp greater k.policies c.args.id entry) k.entities)
    c.record_policy-taken.new.self.kept (name, plain_entry entry) c.record_policy-taken.result c.record_policy-taken.ensures.kept
    c.record_policy-taken.ensures.ok c.record_policy-taken.ensures.err c.self.invariant
    (c.readings_stay.ensures.policy schema k c.args.id entry c.self.invariant.held
    (subst (λ (x : SchemaEntries). IsBodyRead (IsPolicyUnder (schema_view x) (string_bytes c.args.id)) c.args.body)
    (sym (ap (λ v. v.schema) c.self.view_is)) c.requires.read))
    c.ranges_stay.ensures.joined
    (subst (λ (x : Stamp). IsStamped (name, x)) (sym next.1) (c.ranges_stay.ensures.issued (abstract_store k)
    c.self.inside.name name c.requires.named next.0 c.self.invariant.named)))
