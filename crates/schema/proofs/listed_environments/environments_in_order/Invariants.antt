use Rattle.std.proofs.Common.{◌≡◌, ◌++◌, map}
use Rattle.schema.specs.Places.{environment_of}
use Rattle.schema.proofs.listed_environments.environments_in_order.Given as goal

-- what is listed, and then what is left
abbrev pub invariant-loop-place : goal.invariant-loop-place
invariant-loop-place l = record {
  can_next : goal.iterator-loop-place.can_next l.place-iterator;
  is_finite : goal.iterator-loop-place.is_finite l.place-iterator;
  rest : l.environments ++ map environment_of l.place-iterator ≡ map environment_of l.fn.places.entries;
}
