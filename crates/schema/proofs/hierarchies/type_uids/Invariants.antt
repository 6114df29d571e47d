use Rattle.std.proofs.Common.{◌≡◌, map, take}
use Rattle.schema.specs.Schemas.{type_uid}
use Rattle.schema.proofs.hierarchies.type_uids.Given as goal

abbrev pub invariant-loop-name : goal.invariant-loop-name
invariant-loop-name l = l.uids.items ≡ map type_uid (take l.name-index l.types)
