-- Defines the abstract value of a borrowed value.
use Rattle.values.specs.Values.{PlainValue, boolean, long, text, entity, set, record_of, decimal, ipaddr, values_of}
use Rattle.values.specs.Values.{fields_of}
use Rattle.values.specs.declared.value_ref.BorrowedKind.{BorrowedKind}
use Rattle.values.specs.declared.value_ref.BorrowedKind.TheVariants.{Boolean, Long, Text, Entity, Set, Record, Decimal}
use Rattle.values.specs.declared.value_ref.BorrowedKind.TheVariants.{IpAddr}

-- `of_borrowed v` is the abstract value of a borrowed value with the kind and content `v`.
abbrev pub of_borrowed : BorrowedKind → PlainValue
of_borrowed (Boolean b) = boolean b
of_borrowed (Long z) = long z
of_borrowed (Text s) = text s.now
of_borrowed (Entity u) = entity u.now
of_borrowed (Set vs) = set (values_of vs.now)
of_borrowed (Record fs) = record_of (fields_of fs.now)
of_borrowed (Decimal d) = decimal d
of_borrowed (IpAddr n) = ipaddr n
