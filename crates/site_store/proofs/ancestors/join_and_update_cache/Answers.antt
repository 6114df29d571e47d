use Rattle.std.proofs.Common.{ap, sym, subst, Option}
use Rattle.std.specs.Prelude.{IfSome}
use Rattle.ancestor_closure.specs.declared.ancestor_cache.AncestorCache.{AncestorCache}
use Rattle.scope_index.specs.policy_grammar.declared.policy.Policy.{Policy}
use Rattle.site_meaning.specs.schema.Views.{schema_view}
use Rattle.site_meaning.specs.entity_data.declared.entity.Entity.{Entity}
use Rattle.stamped_store.specs.Store.{StoreEntries}
use Rattle.site_store.specs.CacheValidity.{AreAncestorsOf}
use Rattle.site_store.proofs.AncestorsFollow.{right_elsewhere}
use Rattle.site_store.proofs.ancestors.join_and_update_cache.Goals as goal

pub updated_cache-requires : goal.updated_cache-requires
updated_cache-requires c =
    right_elsewhere (schema_view c.args.schema.now) c.args.store.now.entities c.take_entity.new.self.entities c.args.uid c.args.entry
    (ap (λ k. k.entities) c.in_ok-take_entity.ensures.kept) c.in-Ok.name c.in-Ok.ensures c.take-before.result
    (subst (λ (o : Option AncestorCache). IfSome o (AreAncestorsOf (schema_view c.args.schema.now) c.args.store.now.entities)) (sym c.take-before.ensures.value) c.requires)

pub returns-in_err-take_entity-clause-updated_cache : goal.returns-in_err-take_entity-clause-updated_cache
returns-in_err-take_entity-clause-updated_cache c =
    subst (λ (k : StoreEntries Policy Entity). IfSome c.args.ancestors.now (AreAncestorsOf (schema_view c.args.schema.now) k.entities))
    (sym c.in_err-take_entity.ensures.err) c.requires
