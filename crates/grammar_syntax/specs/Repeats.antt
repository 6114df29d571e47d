-- Defines which names repeat an earlier one: keys of a record, annotations of a policy, or names of policies in a file.
-- Source: Cedar reference guide 4.0, "Data types: Record": the keys of a record are distinct.
use Rattle.std.specs.Prelude.{◌≡◌, ℕ, ◌≤◌, List, ◌∷◌, ◌++◌, map, Contains, Option, Some, None}
use Rattle.grammar_syntax.specs.declared.repeats.NameAt as code

-- A `NameAt` is a name with its byte offset.
pub record NameAt : Type 0 where
  pub name : List ℕ
  pub at : ℕ

-- `IsRepeatedAt marks at` holds if a name at offset `at` also occurs earlier in `marks`.
pub record IsRepeatedAt (marks : List NameAt) (at : ℕ) : Type 0 where
  pub before : List NameAt
  pub mark : NameAt
  pub behind : List NameAt
  pub whole : marks ≡ before ++ mark ∷ behind
  pub again : Contains (map (λ m. m.name) before) mark.name
  pub place : at ≡ mark.at

-- `abstract_names marks` is the list `marks` of the code, with each element as a `NameAt` of this file.
abbrev pub abstract_names : List code.NameAt → List NameAt
abstract_names = map (λ m. record { name = m.name.now; at = m.at })

-- `Nowhere P` holds if `P` holds at no offset.
abbrev pub Nowhere : (ℕ → Type 0) → Type 0
Nowhere P = (at : ℕ) → P at → ⊥

-- `IsLeast P at` holds if `at` is the least offset at which `P` holds.
pub record IsLeast (P : ℕ → Type 0) (at : ℕ) : Type 0 where
  pub here : P at
  pub least : (other : ℕ) → P other → at ≤ other

-- `ReportsLeast P o` holds if `o` is the least offset at which `P` holds, or `None` if there is no such offset.
abbrev pub ReportsLeast : (ℕ → Type 0) → Option ℕ → Type 0
ReportsLeast P None = Nowhere P
ReportsLeast P (Some at) = IsLeast P at
