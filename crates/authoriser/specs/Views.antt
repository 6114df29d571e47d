-- Defines the abstract view of the policies that a caller passes to the authoriser.
use Rattle.std.specs.Prelude.{ℕ, List, map}
use Rattle.std.specs.Borrow.{Bor}
use Rattle.scope_index.specs.policy_grammar.declared.policy.Policy.{Policy}
use Rattle.authoriser.specs.Answers.{NamedPolicy}

-- `named ps` are the policies and ids to which the references `ps` point.
abbrev pub named : List (Bor (List ℕ) × Bor Policy) → List NamedPolicy
named ps = map (λ p. record { id = p.0.now; policy = p.1.now }) ps
