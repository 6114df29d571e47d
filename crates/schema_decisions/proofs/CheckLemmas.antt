-- Checking policies in turn, as a loop does.
use Rattle.std.specs.Prelude.{◌≡◌, ⊤, ℕ, ◌+◌, ◌<◌, ◌≤◌, List, ◌∷◌, All, map, length, drop, get_or, Result, Ok, Err}
use Rattle.std.proofs.Common.{sym, ap, ◌∙◌, subst, suc, drop-cons, add-one}
use Rattle.std.proofs.lemmas.List.{drop_all}
use Rattle.std.proofs.lemmas.List.Elements.{All-nil, All-cons}
use Rattle.std.specs.declared.alloc.Global.{Global}
use Rattle.std.specs.declared.string.String.{String}
use Rattle.decision_texts.specs.policy_grammar.declared.policy.Policy.{Policy}
use Rattle.entity_hierarchy.specs.schema.Schemas.{StatedSchema}
use Rattle.validator.specs.Passing.{Passes}
use Rattle.decision_texts.specs.answer_lines.declared.refusal.Refusal.{Refusal}
use Rattle.plain.specs.AllocationErrors.{OrNoMemory}
use Rattle.decision_texts.specs.answer_lines.Refusals.{no_memory}
use Rattle.schema_decisions.specs.Policies.{IsUnpassed, FirstUnpassed, unpassed_here, unpassed_later}

abbrev Files : Type 0
Files = List (String Global × Policy)

-- the policies of a file without their names
abbrev pub cores : Files → List Policy
cores ps = map (λ p. p.1) ps

-- the result of checking these policies, where the first of them is at this index
abbrev pub AreChecked : StatedSchema → ℕ → List Policy → Result ⊤ Refusal → Type 0
AreChecked s place ps (Ok u) = All (Passes s) ps
AreChecked s place ps (Err refusal) = OrNoMemory no_memory (FirstUnpassed s place ps) refusal

turn : (ps : Files) (i : ℕ) (p : String Global × Policy) → i < length ps → p ≡ get_or ps i p → drop i ps ≡ p ∷ drop (i + 1) ps
turn ps i p lt e = drop-cons ps i p lt ∙ ap (λ z. z ∷ drop (suc i) ps) (sym e) ∙ ap (λ k. p ∷ drop k ps) (sym (add-one i))

module _ (s : StatedSchema) where
  one_more : (i : ℕ) (p : Policy) (ps : List Policy) → Passes s p → (r : Result ⊤ Refusal) → AreChecked s (i + 1) ps r → AreChecked s i (p ∷ ps) r
  one_more i p ps h (Ok u) g = All-cons (Passes s) p ps h g
  one_more i p ps h (Err refusal) g = λ other. unpassed_later h (subst (λ k. AreChecked s k ps (Err refusal)) (add-one i) g other)

  pub next : (ps : Files) (i : ℕ) (p : String Global × Policy) → i < length ps → p ≡ get_or ps i p → Passes s p.1
      → (r : Result ⊤ Refusal) → AreChecked s (i + 1) (cores (drop (i + 1) ps)) r → AreChecked s i (cores (drop i ps)) r
  next ps i p lt is h r g = subst (λ (qs : Files). AreChecked s i (cores qs) r) (sym (turn ps i p lt is)) (one_more i p.1 (cores (drop (i + 1) ps)) h r g)

  pub stops : (ps : Files) (i : ℕ) (p : String Global × Policy) → i < length ps → p ≡ get_or ps i p → (refusal : Refusal)
      → OrNoMemory no_memory (IsUnpassed s i p.1) refusal → AreChecked s i (cores (drop i ps)) (Err refusal)
  stops ps i p lt is refusal is_fault =
      subst (λ (qs : Files). AreChecked s i (cores qs) (Err refusal)) (sym (turn ps i p lt is)) (λ other. unpassed_here (is_fault other))

  pub ends : (ps : Files) (i : ℕ) → length ps ≤ i → AreChecked s i (cores (drop i ps)) (Ok tt)
  ends ps i h = subst (λ (qs : Files). AreChecked s i (cores qs) (Ok tt)) (sym (drop_all i ps h)) (All-nil (Passes s))
