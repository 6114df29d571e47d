use Rattle.schema_reading.specs.ResolvedViews.{resolved_view}
use Rattle.schema.proofs.reading.make_schema.Given as goal

abbrev pub ghost-make_types : goal.ghost-make_types
ghost-make_types a = (resolved_view a.found.now).commons
