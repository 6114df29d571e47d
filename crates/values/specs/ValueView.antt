-- Defines the abstract value (`PlainValue`) that a value in the code represents.
use Rattle.std.specs.Prelude.{List, map, String, string_bytes, ℕ}
use Rattle.std.specs.declared.alloc.Global.{Global}
use Rattle.values.specs.declared.value.Kind.{Kind}
use Rattle.values.specs.declared.value.Kind.TheVariants.{Boolean, Long, Text, Entity, Set, Record, Decimal, IpAddr}
use Rattle.values.specs.Values.{PlainValue, boolean, long, text, entity, set, record_of, decimal, ipaddr, values_of}
use Rattle.values.specs.Values.{fields_of}

-- `of_kind k` is the abstract value of a value with the kind and content `k`.
abbrev pub of_kind : Kind → PlainValue
of_kind (Boolean b) = boolean b
of_kind (Long z) = long z
of_kind (Text s) = text s
of_kind (Entity u) = entity u
of_kind (Set vs) = set (values_of vs)
of_kind (Record r) = record_of (fields_of r)
of_kind (Decimal d) = decimal d
of_kind (IpAddr n) = ipaddr n

-- `of_entries es` are the abstract fields of a record whose entries in the code are `es`.
abbrev pub of_entries : List (String Global × PlainValue) → List (List ℕ × PlainValue)
of_entries es = map (λ e. (string_bytes e.0, e.1)) es
