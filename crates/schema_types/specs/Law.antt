-- Defines the theorems on when a type has an expansion, that it has at most one, and that the names that a type
-- mentions are declared. In this file `commons` are the declared common types, each with its definition.
-- Source: Cedar reference guide 4.0, "Schema JSON format".
use Rattle.std.specs.Prelude.{◌≡◌, ◌⊎◌, ℕ, List, true, Option, Ok}
use Rattle.schema_types.specs.Raw.{Raw}
use Rattle.schema_types.specs.Qualified.{Qualified}
use Rattle.schema_types.specs.Cedar.{Cedar}
use Rattle.schema_types.specs.Expansions.{Declarations, Declares, IsExpansion, HasNoExpansion}
use Rattle.schema_types.specs.Mentions.{IsClosed, Leads, Mentions, MentionsEntity, NamesEntity}
use Rattle.schema_types.specs.Names.{Scope, qualified_of}
use Rattle.schema_types.specs.Outcome.{SomeHasNoExpansion}

-- `AreOnce commons` holds if no name is declared with two definitions.
abbrev pub AreOnce : Declarations → Type 0
AreOnce commons = (q : List ℕ) (r s : Qualified) → Declares commons q r → Declares commons q s → r ≡ s

-- `OneWritten`: a type has at most one expansion, if no name is declared with two definitions.
abbrev pub OneWritten : Type 0
OneWritten =
    (commons : Declarations) → AreOnce commons → (r : Qualified) (t u : Cedar) → IsExpansion commons r t
    → IsExpansion commons r u → t ≡ u

-- `CyclesHaveNoExpansion`: a common type that refers to itself, directly or not, has no expansion, if no name is
-- declared with two definitions.
abbrev pub CyclesHaveNoExpansion : Type 0
CyclesHaveNoExpansion =
    (commons : Declarations) → AreOnce commons → (q : List ℕ) → Leads commons q q → HasNoExpansion commons q

-- `AreClosed commons` holds if each common type that a declaration mentions is declared.
abbrev pub AreClosed : Declarations → Type 0
AreClosed commons = (q : List ℕ) (r : Qualified) → Declares commons q r → IsClosed commons r

-- `WhatHasNoExpansionLeadsBack`: conversely, if `AreClosed` holds, a declared common type without an expansion refers
-- to itself, directly or not, or leads to a common type that does.
abbrev pub WhatHasNoExpansionLeadsBack : Type 0
WhatHasNoExpansionLeadsBack =
    (commons : Declarations) → AreClosed commons → (q : List ℕ) (r : Qualified) → Declares commons q r
    → HasNoExpansion commons q → (p : List ℕ) × ((q ≡ p) ⊎ Leads commons q p) × Leads commons p p

-- `TypesExpandOrSomeCommonDoesNot`: if each common type that is mentioned is declared, with one definition, then each
-- type has an expansion, or some declared common type has none.
abbrev pub TypesExpandOrSomeCommonDoesNot : Type 0
TypesExpandOrSomeCommonDoesNot =
    (commons : Declarations) → AreOnce commons → AreClosed commons → (r : Qualified) → IsClosed commons r
    → ((t : Cedar) × IsExpansion commons r t) ⊎ SomeHasNoExpansion commons

-- `ResolvedCommonsAreDeclared`: the common types that a type with resolved names mentions are declared.
abbrev pub ResolvedCommonsAreDeclared : Type 0
ResolvedCommonsAreDeclared =
    (s : Scope) (own : Option (List ℕ)) (r : Raw) (n : Qualified) → qualified_of s own r ≡ Ok n → (q : List ℕ)
    → Mentions n q → s.commons q ≡ true

-- `FoundEntitiesAreDeclared`: the entity types that a type with resolved names mentions are declared.
abbrev pub FoundEntitiesAreDeclared : Type 0
FoundEntitiesAreDeclared =
    (s : Scope) (own : Option (List ℕ)) (r : Raw) (n : Qualified) → qualified_of s own r ≡ Ok n → (q : List ℕ)
    → MentionsEntity n q → s.entities q ≡ true

-- `WrittenEntitiesAreNamed`: an entity type that the expansion of a type mentions is mentioned in the type itself or in
-- a declared common type.
abbrev pub WrittenEntitiesAreNamed : Type 0
WrittenEntitiesAreNamed =
    (commons : Declarations) (r : Qualified) (t : Cedar) → IsExpansion commons r t → (q : List ℕ) → NamesEntity t q
    → MentionsEntity r q ⊎ ((p : List ℕ) × (s : Qualified) × Declares commons p s × MentionsEntity s q)
