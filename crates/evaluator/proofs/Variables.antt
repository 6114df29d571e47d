-- What is asked of a variable's value is asked of the fields of what it stands for.
use Rattle.std.specs.Prelude.{◌≡◌, ℕ, List, Option, Some, None, is_some, refl}
use Rattle.std.proofs.Common.{ap, ◌∙◌}
use Rattle.values.specs.declared.request.Request.{Request}
use Rattle.values.specs.Fields.{Field, find_field}
use Rattle.values.specs.Values.{PlainValue, pairs_of-fields_of}
use Rattle.grammar_core.specs.declared.leaf.Variable.{Variable}
use Rattle.grammar_core.specs.declared.leaf.Variable.TheVariants.{Principal, Action, Resource, Context}
use Rattle.evaluator.specs.declared.fault.EvalFault.TheVariants.{AttrDoesNotExist}
use Rattle.evaluator.specs.VariableFields.{fields_under}
use Rattle.evaluator.specs.Evaluation.{variable_value}
use Rattle.evaluator.specs.inner.Computing.{DecidedEntities, found_or, attribute, field_of, truth, has_attribute, has_field}

pub field_under : (E : DecidedEntities) (q : Request) (x : Variable) (name : List ℕ) → field_of E name (variable_value x q) ≡ attribute (fields_under E.stored q x) name
field_under E q Principal name = refl
field_under E q Action name = refl
field_under E q Resource name = refl
field_under E q Context name = ap (λ (fs : List Field). found_or AttrDoesNotExist (find_field name fs)) (pairs_of-fields_of q.context)

pub has_under : (E : DecidedEntities) (q : Request) (x : Variable) (name : List ℕ) → has_field E name (variable_value x q) ≡ truth (has_attribute (fields_under E.stored q x) name)
has_under E q Principal name = refl
has_under E q Action name = refl
has_under E q Resource name = refl
has_under E q Context name = ap (λ (fs : List Field). truth (is_some (find_field name fs))) (pairs_of-fields_of q.context)
