-- Defines the list of the offsets of names that repeat an earlier name, and the errors at these offsets.
-- Source: Cedar reference guide 4.0, "Data types: Record": the keys of a record are distinct.
use Rattle.std.specs.Prelude.{◌≡◌, ◌↔◌, ℕ, List, [], ◌∷◌, ◌++◌, map, filter, Contains}
use Rattle.std.specs.Str.{bytes_eq}
use Rattle.grammar_desugaring.specs.declared.fault.DesugarFault.{DesugarFault}
use Rattle.grammar_desugaring.specs.declared.fault.DesugarFault.TheVariants.{RepeatedKey}
use Rattle.grammar_desugaring.specs.ReportedErrors.{least}
pub use Rattle.grammar_syntax.specs.Repeats.{NameAt, IsRepeatedAt, abstract_names}

-- `places_of name marks` are the offsets at which `name` occurs in `marks`.
abbrev pub places_of : List ℕ → List NameAt → List ℕ
places_of name marks = map (λ m. m.at) (filter (λ m. bytes_eq name m.name) marks)

-- `repeats marks` are the offsets of the names of `marks` that repeat an earlier name. An offset is listed once for
-- each earlier occurrence.
abbrev pub repeats : List NameAt → List ℕ
repeats [] = []
repeats (mark ∷ behind) = places_of mark.name behind ++ repeats behind

-- `repeat_faults marks` are the errors `RepeatedKey` at the offsets `repeats marks`.
abbrev pub repeat_faults : List NameAt → List DesugarFault
repeat_faults marks = map RepeatedKey (repeats marks)

-- ## Theorems

-- `RepeatsAreExact`: `repeats` has exactly the offsets of names that also occur earlier.
abbrev pub RepeatsAreExact : Type 0
RepeatsAreExact = (marks : List NameAt) (at : ℕ) → Contains (repeats marks) at ↔ IsRepeatedAt marks at

-- `RepeatsAreReported`: the reported error depends only on the set of the offsets of repeated names.
abbrev pub RepeatsAreReported : Type 0
RepeatsAreReported = (marks others : List NameAt) → ((at : ℕ) → IsRepeatedAt marks at → IsRepeatedAt others at) →
    ((at : ℕ) → IsRepeatedAt others at → IsRepeatedAt marks at) →
    least (repeat_faults marks) ≡ least (repeat_faults others)
