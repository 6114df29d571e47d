use Rattle.site_meaning.specs.schema.Views.{schema_view}
use Rattle.site_store.proofs.StaysLemmas.{ancestors_stay}
use Rattle.site_store.proofs.ancestors.take_entity.Goals as goal

pub returns-then-needs_nothing-clause-updated_cache : goal.returns-then-needs_nothing-clause-updated_cache
returns-then-needs_nothing-clause-updated_cache c =
    ancestors_stay (schema_view c.args.schema.now) c.take_entity.result c.take_entity.new.self c.args.store.now c.args.uid c.args.entry
    c.take_entity.ensures.kept c.take_entity.ensures.err c.args.ancestors.now (c.needs_nothing.ensures c.if-needs_nothing.true) c.requires
