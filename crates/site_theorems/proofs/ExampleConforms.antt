-- What is read conforms to the one environment of the schema.
use Rattle.std.proofs.Common.{sym, subst}
use Rattle.site.specs.schema.Laws.{DeclarationsAreRead}
use Rattle.site.specs.schema.Schemas.{EnvironmentOf}
use Rattle.values.specs.Paths.{PathTestIsExact}
use Rattle.site.specs.entity_uids.Laws.{WrittenIsRead}
use Rattle.site.specs.entity_hierarchy.Laws.{closed_world}
use Rattle.site.specs.type_checker.FromSchemas.{typing_environment_of}
use Rattle.site.specs.typing.Conforming.{Conforms}
use Rattle.site.specs.SoundWorlds.{ParsedDataConforms}
use Rattle.site_theorems.specs.Example.{schema_text, schema, entities, request_json, request}
use Rattle.site_theorems.specs.ExamplePremises.{ExampleDataConforms}
use Rattle.site_theorems.proofs.ExampleStated.{only, something_is_stated}
use Rattle.site_theorems.proofs.ExampleRead.{are_read, states}

pub something_conforms : DeclarationsAreRead → PathTestIsExact → WrittenIsRead → ParsedDataConforms → ExampleDataConforms
something_conforms read paths back conform =
    let at = conform schema_text schema (something_is_stated read) entities are_read request_json request (states paths back) in
    subst (λ (e : EnvironmentOf). Conforms (typing_environment_of schema e) (closed_world schema entities) request) (sym (only at.1)) at.2
