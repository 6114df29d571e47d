use Rattle.std.proofs.Common.{◌∙◌, ap, sym}
use Rattle.site_meaning.specs.schema.SchemaEntries.{SchemaEntries}
use Rattle.site_store.specs.StoreViews.{StoreView}
use Rattle.site_store.proofs.Standing.{as_lent}
use Rattle.site_store.proofs.WorldSeen.{Seen, seen_store}
use Rattle.site_store.proofs.store.IndexedStore.lend_world.Goals as goal

pub invariant_of-result : goal.invariant_of-result
invariant_of-result c = record {
  beside = as_lent c.self.inside.schema c.deref-schema.result.now c.deref-schema.ensures c.self.inside.store c.self.inside.index
      c.self.inside.ancestors c.self.invariant;
  store_is = ap (λ (w : Seen). w.0.store.now) c.entity_data_under-searched.ensures ∙ c.requires ∙ sym (ap (λ (s : StoreView). s.kept) c.self.view_is);
  schema_is = ap (λ (w : Seen). w.1) c.entity_data_under-searched.ensures;
}

pub returns : goal.returns
returns c = ap (λ (x : SchemaEntries). seen_store x c.self.inside.store) c.deref-schema.ensures ∙ c.self.view_is
