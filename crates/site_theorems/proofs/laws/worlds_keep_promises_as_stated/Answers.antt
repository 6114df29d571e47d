use Rattle.site.specs.schema.Views.{schema_view}
use Rattle.site_theorems.proofs.Systems.{promises_as_stated}
use Rattle.site_theorems.proofs.laws.worlds_keep_promises_as_stated.Goals as goal

pub returns : goal.returns
returns c bytes schema stated =
    let v = schema_view schema in
    promises_as_stated c.steps_are_as_stated.ensures c.entities_are_read_as_stated.ensures.read
    c.updates_are_read_as_stated.ensures.read c.names_read_back.ensures.one c.names_read_back.ensures.found v
    (c.worlds_keep_promises.ensures schema (bytes, stated))
