use Rattle.std.proofs.Common.{map, take, string_bytes, option_map}
use Rattle.schema_decisions.specs.schema.Views.{schema_view}
use Rattle.explanations.specs.TextParts.{AppendsSome}
use Rattle.explanations.specs.Policies.{ArePoliciesExplained}
use Rattle.explanations.proofs.policies.explain_policies.Given as goal

-- the policies up to here are explained
abbrev pub invariant-loop-place : goal.invariant-loop-place
invariant-loop-place l =
    AppendsSome (ArePoliciesExplained (option_map (λ s. schema_view s.now) l.schema) l.file l.text l.pieces (map (λ p. p.1) (take l.place l.policies)))
    (string_bytes l.initial.out) (string_bytes l.out)
