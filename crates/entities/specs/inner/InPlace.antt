-- Defines the types whose values do not own memory, so that parsing them does not allocate.
use Rattle.std.specs.Prelude.{⊤}
use Rattle.schema_types.specs.Cedar as cedar
use Rattle.schema_types.specs.Cedar.{Cedar}

-- `IsInPlace t` holds if a value of the type `t` is stored in place, without memory of its own.
abbrev pub IsInPlace : Cedar → Type 0
IsInPlace cedar.boolean = ⊤
IsInPlace cedar.long = ⊤
IsInPlace cedar.decimal = ⊤
IsInPlace cedar.ipaddr = ⊤
IsInPlace cedar.text = ⊥
IsInPlace (cedar.entity name) = ⊥
IsInPlace (cedar.set t) = ⊥
IsInPlace (cedar.record_of fs) = ⊥
