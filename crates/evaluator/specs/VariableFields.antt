-- Defines the fields of a variable under a request, over the stored entities.
-- Source: Cedar reference guide 4.0, "Variables" and "Operators and functions".
use Rattle.std.specs.Prelude.{List, Option, Some}
use Rattle.values.specs.declared.entity_uid.EntityUid.{EntityUid}
use Rattle.values.specs.declared.request.Request.{Request}
use Rattle.values.specs.Fields.{Field}
use Rattle.grammar_core.specs.declared.leaf.Variable.{Variable}
use Rattle.grammar_core.specs.declared.leaf.Variable.TheVariants.{Principal, Action, Resource, Context}

-- `fields_under stored q x` are the fields of the variable `x` under the request `q`: those of the context, or the
-- attributes that `stored` has for the variable's entity; `None` if that entity is not stored.
abbrev pub fields_under : (EntityUid → Option (List Field)) → Request → Variable → Option (List Field)
fields_under stored q Principal = stored q.principal
fields_under stored q Action = stored q.action
fields_under stored q Resource = stored q.resource
fields_under stored q Context = Some q.context
