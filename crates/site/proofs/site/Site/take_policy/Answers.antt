use Rattle.std.proofs.Common.{sym, ap, subst, string_bytes}
use Rattle.std.specs.String.{string_cmp}
use Rattle.site_store.specs.schema.SchemaEntries.{SchemaEntries}
use Rattle.site_store.specs.schema.Views.{schema_view}
use Rattle.site_store.specs.stamped_store.EntryOrder.{greater, plain_entry}
use Rattle.site_store.specs.stamped_store.Reading.{IsEntryRead}
use Rattle.site_store.specs.stamped_store.Store.{concrete_entries, policy_name}
use Rattle.site_store.specs.stamped_store.JoinMaps.{taken}
use Rattle.site.specs.Admitted.{IsPolicyUnder}
use Rattle.site.specs.SiteViews.{IsSite}
use Rattle.site.proofs.Recording.{site_after}
use Rattle.site.proofs.site.Site.take_policy.Goals as goal

pub invariant_of-self : goal.invariant_of-self
invariant_of-self c =
    let schema = c.self.inside.store.schema in
    let k = c.self.inside.store.kept in
    let entry = c.args.entry in
    subst (λ (x : SchemaEntries). IsSite (schema_view x) c.self.inside.name c.take_policy-taken.new.self.kept) (sym c.take_policy-taken.ensures.same)
    (site_after (schema_view schema) c.self.inside.name k (concrete_entries (taken string_cmp greater k.policies c.args.id entry) k.entities)
    c.take_policy-taken.new.self.kept (policy_name (string_bytes c.args.id), plain_entry entry) c.take_policy-taken.result c.take_policy-taken.ensures.kept
    c.take_policy-taken.ensures.ok c.take_policy-taken.ensures.err c.self.invariant
    (c.readings_stay.ensures.policy schema k c.args.id entry c.self.invariant.held
    (subst (λ (x : SchemaEntries). IsEntryRead (IsPolicyUnder (schema_view x) (string_bytes c.args.id)) entry)
    (sym (ap (λ v. v.schema) c.self.view_is)) c.requires.read))
    c.ranges_stay.ensures.joined c.requires.in_range)
