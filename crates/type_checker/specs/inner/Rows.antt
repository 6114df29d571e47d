-- Defines tests on types, and the types of operators, as the code computes them.
use Rattle.std.specs.Prelude.{ℕ, List, Bool, true, false, not, ◌&&◌, Option, Some, None, Err, if◌then◌else◌}
use Rattle.std.specs.Str.{bytes_eq}
use Rattle.typing.specs.Types.{StaticType, entity_type, set_type, decimal_type, ipaddr_type, common, same_requirement}
use Rattle.typing.specs.declared.fault.TypeFault.TheVariants.{Unexpected}
use Rattle.typing.specs.Rows.{Row, if_common}
use Rattle.type_checker.specs.declared.parts.FieldPart.{FieldPart}
use Rattle.type_checker.specs.declared.parts.FieldPair.{FieldPair}

-- `entity_type_in t` is the name of the entity type `t`; other types have none.
abbrev pub entity_type_in : StaticType → Option (List ℕ)
entity_type_in (entity_type n) = Some n
entity_type_in t = None

-- `entities_in t` is the name of the entity type `t`, or of the entity type of the members of the set type `t`; other
-- types have none.
abbrev pub entities_in : StaticType → Option (List ℕ)
entities_in (set_type t) = entity_type_in t
entities_in t = entity_type_in t

-- `are_unequal a b` tests whether the names `a` and `b` are both present and differ.
abbrev pub are_unequal : Option (List ℕ) → Option (List ℕ) → Bool
are_unequal (Some m) (Some n) = not (bytes_eq m n)
are_unequal m n = false

-- `contains_type s t` is the type of `contains` on operands of the types `s` and `t`.
abbrev pub contains_type : StaticType → StaticType → Row
contains_type (set_type s) t = if_common (common s t)
contains_type s t = Err Unexpected

-- `sets_type s t` is the type of `containsAll` and `containsAny` on operands of the types `s` and `t`.
abbrev pub sets_type : StaticType → StaticType → Row
sets_type s (set_type t) = contains_type s t
sets_type s t = Err Unexpected

-- `paired a b` is the pair of the fields `a` and `b` if both are present with one key and the same requirement, else
-- `None`.
abbrev pub paired : Option FieldPart → Option FieldPart → Option FieldPair
paired (Some a) (Some b) =
    if bytes_eq a.key.now b.key.now && same_requirement a.required b.required
    then Some (record { key = a.key; left = a.part; right = b.part; required = a.required }) else None
paired a b = None

-- `is_decimal t` tests whether `t` is the type of decimals.
abbrev pub is_decimal : StaticType → Bool
is_decimal decimal_type = true
is_decimal t = false

-- `is_ipaddr t` tests whether `t` is the type of IP addresses.
abbrev pub is_ipaddr : StaticType → Bool
is_ipaddr ipaddr_type = true
is_ipaddr t = false
