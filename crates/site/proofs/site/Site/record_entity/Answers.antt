use Rattle.std.proofs.Common.{sym, ap, subst}
use Rattle.site_store.specs.schema.SchemaEntries.{SchemaEntries}
use Rattle.site_store.specs.schema.Views.{schema_view}
use Rattle.values.specs.Names.{uid_cmp}
use Rattle.site_store.specs.policy_grammar.declared.policy.Policy.{Policy}
use Rattle.site_store.specs.entity_data.declared.entity.Entity.{Entity}
use Rattle.site_store.specs.stamped_store.declared.entry.Entry.{Entry}
use Rattle.site_store.specs.stamped_store.declared.entry.Stamp.{Stamp}
use Rattle.site_store.specs.stamped_store.EntryOrder.{greater, plain_entry}
use Rattle.site_store.specs.stamped_store.Reading.{IsBodyRead}
use Rattle.site_store.specs.stamped_store.Store.{StoreEntries, concrete_entries, entity_name, abstract_store}
use Rattle.site_store.specs.stamped_store.JoinMaps.{taken}
use Rattle.sync_messages.specs.sync_format.Summaries.{IsStamped}
use Rattle.site.specs.Admitted.{IsEntityUnder}
use Rattle.std.specs.Prelude.{Some}
use Rattle.site.specs.inner.Recording.{IsNext}
use Rattle.site.specs.SiteViews.{IsSite}
use Rattle.site.proofs.Recording.{site_after}
use Rattle.site.proofs.site.Site.record_entity.Goals as goal

pub invariant_of-self : goal.invariant_of-self
invariant_of-self c =
    let schema = c.self.inside.store.schema in
    let k = c.self.inside.store.kept in
    let entry : Entry Entity = record { stamp = c.in-Some.stamp; body = c.args.body } in
    let name = entity_name c.args.uid in
    let next = subst (λ (l : StoreEntries Policy Entity). IsNext c.self.inside.name (abstract_store l) (Some c.in-Some.stamp))
    c.store.ensures c.in-Some.ensures in
    subst (λ (x : SchemaEntries). IsSite (schema_view x) c.self.inside.name c.record_entity-taken.new.self.kept) (sym c.record_entity-taken.ensures.same)
    (site_after (schema_view schema) c.self.inside.name k (concrete_entries k.policies (taken uid_cmp greater k.entities c.args.uid entry))
    c.record_entity-taken.new.self.kept (name, plain_entry entry) c.record_entity-taken.result c.record_entity-taken.ensures.kept
    c.record_entity-taken.ensures.ok c.record_entity-taken.ensures.err c.self.invariant
    (c.readings_stay.ensures.entity schema k c.args.uid entry c.self.invariant.held
    (subst (λ (x : SchemaEntries). IsBodyRead (IsEntityUnder (schema_view x) c.args.uid) c.args.body)
    (sym (ap (λ v. v.schema) c.self.view_is)) c.requires.read))
    c.ranges_stay.ensures.joined
    (subst (λ (x : Stamp). IsStamped (name, x)) (sym next.1) (c.ranges_stay.ensures.issued (abstract_store k)
    c.self.inside.name name c.requires.named next.0 c.self.invariant.named)))
