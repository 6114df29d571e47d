use Rattle.std.proofs.Common.{subst, sym}
use Rattle.std.specs.Prelude.{Option}
use Rattle.std.specs.Option.{IfSome}
use Rattle.ancestor_closure.specs.declared.ancestor_cache.AncestorCache.{AncestorCache}
use Rattle.site_meaning.specs.schema.Views.{schema_view}
use Rattle.site_store.specs.CacheValidity.{AreAncestorsOf}
use Rattle.site_store.proofs.Standing.{if_made}
use Rattle.site_store.proofs.store.rebuild_absent.Goals as goal

pub returns-then-begin : goal.returns-then-begin
returns-then-begin c = record {
  index_is = c.rebuild_index_if_missing.ensures.indexed;
  ancestors_are = subst (λ (o : Option AncestorCache). IfSome o (AreAncestorsOf (schema_view c.args.schema.now) c.args.store.now.entities))
      (sym c.ok.ensures.value)
      (if_made (AreAncestorsOf (schema_view c.args.schema.now) c.args.store.now.entities) c.ancestors_of.result
      c.ancestors_of.ensures);
}
