use Rattle.std.proofs.Common.{◌≡◌, ◌++◌}
use Rattle.type_checker.proofs.RecordFields.{as_built}
use Rattle.type_checker.proofs.literal_types.listed_fields.Given as goal

abbrev pub invariant-loop-key : goal.invariant-loop-key
invariant-loop-key l = as_built l.fn.map.entries ≡ l.fields.items ++ as_built l.key-iterator
