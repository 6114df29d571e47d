-- Policies by reference, and their order.
use Rattle.std.proofs.Common.{◌≡◌, ℕ, suc, ◌+◌, ◌<◌, List, [], ◌∷◌, map, length, String, Global, string_bytes, refl, ap}
use Rattle.std.proofs.Common.{arith, Bor}
use Rattle.std.specs.List.Sorted.{IsSortedByKey}
use Rattle.std.specs.Ordering.{nat_cmp}
use Rattle.std.specs.Cmp.Lexicographic.{slice_cmp}
use Rattle.std.proofs.lemmas.List.{get_or-map}
use Rattle.answer_lines.specs.policy_grammar.declared.policy.Policy.{Policy}
use Rattle.answer_lines.specs.authoriser.Answers.{NamedPolicy}
use Rattle.answer_lines.specs.authoriser.Views.{named}
use Rattle.decision_texts.specs.Decisions.{named_policies}

-- a policy with its name, as it was read
abbrev pub own_name : String Global × Policy → NamedPolicy
own_name p = record { id = string_bytes p.0; policy = p.1 }

pub named_policies-map : (ps : List (String Global × Policy)) → named_policies (map (λ p. string_bytes p.0) ps) (map (λ p. p.1) ps) ≡ map own_name ps
named_policies-map [] = refl
named_policies-map (p ∷ ps) = ap (λ (l : List NamedPolicy). own_name p ∷ l) (named_policies-map ps)

named_length : (refs : List (Bor (List ℕ) × Bor Policy)) → length (named refs) ≡ length refs
named_length [] = refl
named_length (r ∷ refs) = ap suc (named_length refs)

abbrev name_of : Bor (List ℕ) × Bor Policy → NamedPolicy
name_of p = record { id = p.0.now; policy = p.1.now }

-- what ascends by the texts behind the references ascends by name
pub named_ascend : (refs : List (Bor (List ℕ) × Bor Policy)) → IsSortedByKey (λ p. p.0.now) (slice_cmp nat_cmp) refs → IsSortedByKey (λ p. p.id) (slice_cmp nat_cmp) (named refs)
named_ascend [] h k d le lt = absurd (omega arith)
named_ascend (r ∷ refs) h k d le lt =
    let within : k + 1 < length (r ∷ refs) = omega (arith, named_length (r ∷ refs)) in
    rw (get_or-map name_of (r ∷ refs) (k + 1) r d within, get_or-map name_of (r ∷ refs) k r d (omega arith)) (h k r le within)
