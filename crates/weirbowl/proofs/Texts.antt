-- What is said of an error of texts, from what is said of its result.
use Rattle.std.proofs.Common.{◌≡◌, ℕ, List, sym, subst, inl, inr}
use Rattle.schema_decisions.specs.answer_lines.declared.refusal.Refusal.{Refusal}
use Rattle.schema_decisions.specs.answer_lines.Refusals.{no_memory}
use Rattle.weirbowl.specs.TextCalls.{Rejects}
use Rattle.weirbowl.specs.declared.call_result.CallResult.{CallResult}

-- an error that is due unless it is out of memory
pub rejects : (IsDue : Refusal → Type 0) (refusal : Refusal) (r : CallResult) (before after : List ℕ)
    → ((refusal ≡ no_memory → ⊥) → IsDue refusal)
    → Rejects (λ f. (f ≡ refusal) × (refusal ≡ no_memory → ⊥)) r before after → Rejects IsDue r before after
rejects IsDue refusal r before after due (inl (f, (same, other), result)) =
    inl (f, subst IsDue (sym same) (due other), result)
rejects IsDue refusal r before after due (inr lacks) = inr lacks
