-- Defines that no value of a type, such as a command or a number, has a property.

-- `IsNone Is` holds if `Is` holds of no value.
abbrev pub IsNone : {A : Type 0} → (A → Type 0) → Type 0
IsNone {A} Is = (a : A) → Is a → ⊥
