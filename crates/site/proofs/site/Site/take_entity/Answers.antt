use Rattle.std.proofs.Common.{sym, ap, subst}
use Rattle.site_store.specs.schema.SchemaEntries.{SchemaEntries}
use Rattle.site_store.specs.schema.Views.{schema_view}
use Rattle.values.specs.Names.{uid_cmp}
use Rattle.site_store.specs.stamped_store.EntryOrder.{greater, plain_entry}
use Rattle.site_store.specs.stamped_store.Reading.{IsEntryRead}
use Rattle.site_store.specs.stamped_store.Store.{concrete_entries, entity_name}
use Rattle.site_store.specs.stamped_store.JoinMaps.{taken}
use Rattle.site.specs.Admitted.{IsEntityUnder}
use Rattle.site.specs.SiteViews.{IsSite}
use Rattle.site.proofs.Recording.{site_after}
use Rattle.site.proofs.site.Site.take_entity.Goals as goal

pub invariant_of-self : goal.invariant_of-self
invariant_of-self c =
    let schema = c.self.inside.store.schema in
    let k = c.self.inside.store.kept in
    let entry = c.args.entry in
    subst (λ (x : SchemaEntries). IsSite (schema_view x) c.self.inside.name c.take_entity-taken.new.self.kept) (sym c.take_entity-taken.ensures.same)
    (site_after (schema_view schema) c.self.inside.name k (concrete_entries k.policies (taken uid_cmp greater k.entities c.args.uid entry))
    c.take_entity-taken.new.self.kept (entity_name c.args.uid, plain_entry entry) c.take_entity-taken.result c.take_entity-taken.ensures.kept
    c.take_entity-taken.ensures.ok c.take_entity-taken.ensures.err c.self.invariant
    (c.readings_stay.ensures.entity schema k c.args.uid entry c.self.invariant.held
    (subst (λ (x : SchemaEntries). IsEntryRead (IsEntityUnder (schema_view x) c.args.uid) entry)
    (sym (ap (λ v. v.schema) c.self.view_is)) c.requires.read))
    c.ranges_stay.ensures.joined c.requires.in_range)
