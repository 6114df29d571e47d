-- Defines the theorems about sets, records and well-formed values.
use Rattle.std.specs.Prelude.{◌≡◌, ◌≢◌, ◌↔◌, ℕ, List, length, Result, IsTrue, Contains, Some, is_ok}
use Rattle.std.specs.List.Sorted.{IsStrictlySortedBy, IsBinarySearchResult, IsSearchInRange}
use Rattle.values.specs.Fields.{Field, AreKeysAscending, put, find_field}
use Rattle.values.specs.Sets.{IsSetOf, set_list, has_member}
use Rattle.values.specs.ValueOrder.{value_cmp}
use Rattle.values.specs.Values.{PlainValue, set, record_of, values_of, fields_of}
use Rattle.values.specs.WellFormed.{IsWellFormed}

-- ---- sets

-- `SetsHoldTheirMembers`: the list that `set_list` makes of some values ascends strictly, and has exactly these values
-- as members.
abbrev pub SetsHoldTheirMembers : Type 0
SetsHoldTheirMembers = (vs : List PlainValue) → IsSetOf vs (set_list vs)

-- `SetsAreOneList`: the list that `set_list` makes of some values is the only one that ascends strictly and has exactly
-- these values as members.
abbrev pub SetsAreOneList : Type 0
SetsAreOneList = (vs s : List PlainValue) → IsSetOf vs s → s ≡ set_list vs

-- `MemberTestIsExact`: `has_member` accepts exactly the members of a list.
abbrev pub MemberTestIsExact : Type 0
MemberTestIsExact = (vs : List PlainValue) (v : PlainValue) → IsTrue (has_member vs v) ↔ Contains vs v

-- `MembersAreFound`: a binary search in an ascending list finds exactly the members.
abbrev pub MembersAreFound : Type 0
MembersAreFound = (vs : List PlainValue) (v : PlainValue) (found : Result ℕ ℕ) → IsStrictlySortedBy value_cmp vs →
    IsSearchInRange found (length vs) → IsBinarySearchResult (λ m. value_cmp m v) vs found
    → IsTrue (is_ok found) ↔ Contains vs v

-- ---- records

-- `KeysStayAscending`: setting a field keeps the keys ascending.
abbrev pub KeysStayAscending : Type 0
KeysStayAscending = (key : List ℕ) (value : PlainValue) (fields : List Field) → AreKeysAscending fields
    → AreKeysAscending (put key value fields)

-- `FieldsDetermineRecords`: two records are equal if each key has the same value in both, or is in neither.
abbrev pub FieldsDetermineRecords : Type 0
FieldsDetermineRecords = (a b : List Field) → AreKeysAscending a → AreKeysAscending b
    → ((key : List ℕ) → find_field key a ≡ find_field key b) → a ≡ b

-- `OrderOfFieldsDoesNotMatter`: the order in which two fields with different keys are set does not matter.
abbrev pub OrderOfFieldsDoesNotMatter : Type 0
OrderOfFieldsDoesNotMatter = (key other : List ℕ) (value next : PlainValue) (fields : List Field)
    → AreKeysAscending fields → key ≢ other →
    put key value (put other next fields) ≡ put other next (put key value fields)

-- `LaterValueWins`: a record in which a field is set twice is the record in which only the later value is set.
abbrev pub LaterValueWins : Type 0
LaterValueWins = (key : List ℕ) (value earlier : PlainValue) (fields : List Field) → AreKeysAscending fields →
    put key value (put key earlier fields) ≡ put key value fields

-- ---- well-formed values

-- `SetsAreWellFormed`: a set of well-formed values is well formed.
abbrev pub SetsAreWellFormed : Type 0
SetsAreWellFormed = (vs : List PlainValue) → ((v : PlainValue) → Contains vs v → IsWellFormed v)
    → IsWellFormed (set (values_of (set_list vs)))

-- `MembersAreWellFormed`: the members of a well-formed set are well formed.
abbrev pub MembersAreWellFormed : Type 0
MembersAreWellFormed = (s : List PlainValue) → IsWellFormed (set (values_of s)) → (v : PlainValue) → Contains s v
    → IsWellFormed v

-- `RecordsStayWellFormed`: a well-formed record in which a field is set to a well-formed value is well formed.
abbrev pub RecordsStayWellFormed : Type 0
RecordsStayWellFormed = (key : List ℕ) (value : PlainValue) (fields : List Field)
    → IsWellFormed (record_of (fields_of fields)) → IsWellFormed value →
    IsWellFormed (record_of (fields_of (put key value fields)))

-- `FieldsAreWellFormed`: the value of each field of a well-formed record is well formed.
abbrev pub FieldsAreWellFormed : Type 0
FieldsAreWellFormed = (fields : List Field) → IsWellFormed (record_of (fields_of fields))
    → (key : List ℕ) (value : PlainValue) →
    find_field key fields ≡ Some value → IsWellFormed value
