use Rattle.type_checker.proofs.OrderedTypes.{below_transitively, types_are_ordered}
use Rattle.type_checker.proofs.laws.environments_are_ordered.Goals as goal

pub returns-clause-transitive : goal.returns-clause-transitive
returns-clause-transitive c = below_transitively c.stated_schemas_are_well_formed.ensures

pub returns-clause-ordered : goal.returns-clause-ordered
returns-clause-ordered c = types_are_ordered c.stated_schemas_are_well_formed.ensures
