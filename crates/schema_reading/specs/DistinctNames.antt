-- Defines when the names that a schema file declares are distinct, as the keys of an object are.
-- Source: RFC 8259, section 4: names within an object should be unique.
-- Rules of this product: only the last value of a duplicate key counts.
use Rattle.std.specs.Prelude.{◌≢◌, ⊤, List, [], ◌∷◌, map}
use Rattle.std.specs.List.{AllByRecursion}
use Rattle.schema_reading.specs.FileForm.{NamespaceOf}

-- `AreApart xs` holds if no two of `xs` are equal.
abbrev pub AreApart : {A : Type 0} → List A → Type 0
AreApart [] = ⊤
AreApart (x ∷ xs) = AllByRecursion (λ y. x ≢ y) xs × AreApart xs

-- `StatesOnce n` holds if in the namespace `n` no two common types, no two entity types and no two actions have the
-- same name.
pub record StatesOnce (n : NamespaceOf) : Type 0 where
  pub commons : AreApart (map (λ c. c.0) n.commons)
  pub entity_types : AreApart (map (λ e. e.name) n.entity_types)
  pub actions : AreApart (map (λ a. a.id) n.actions)

-- `HaveDistinctNames ns` holds if `StatesOnce` holds for each of the namespaces `ns`, and no two of these have the same
-- name.
pub record HaveDistinctNames (ns : List NamespaceOf) : Type 0 where
  pub namespaces : AreApart (map (λ n. n.name) ns)
  pub names : AllByRecursion StatesOnce ns
