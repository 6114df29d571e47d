use Rattle.type_checker.specs.schema.Views.{schema_view}
use Rattle.fault_places.proofs.Environments.{TypedIn}
use Rattle.fault_places.proofs.blaming.blame_type.Given as goal

-- the policy has a boolean type in each environment so far
abbrev pub invariant-loop-at : goal.invariant-loop-at
invariant-loop-at l = TypedIn l.policy (schema_view l.schema) l.environments l.at
