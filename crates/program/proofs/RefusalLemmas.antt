-- Out of memory among the errors.
use Rattle.std.proofs.Common.{◌≡◌, ◌⊎◌, inl, inr, ℕ, zero, suc, Bool, true, false, List, Option, None, Some, refl}
use Rattle.program_drills.specs.answer_lines.declared.refusal.Refusal.{Refusal}
use Rattle.program_drills.specs.answer_lines.Refusals.{no_memory}
use Rattle.program.specs.Events.{Event}
use Rattle.program.specs.Reports.{IsRefusalReported, IsMemoryReported}
use Rattle.program.specs.Courses.{IsRefusedFor, IsLineOrRefusal}
use Rattle.program.specs.ExplainOption.{IsErrorReported, Explains, IsErrorThenText, IsLineOrErrorThenText}

one_or : (n : ℕ) → (n ≡ 1) ⊎ (n ≡ 1 → ⊥)
one_or zero = inr (λ e. absurd cc)
one_or (suc zero) = inl refl
one_or (suc (suc n)) = inr (λ e. absurd cc)

none_or : {A : Type 0} (o : Option A) → (o ≡ None) ⊎ (o ≡ None → ⊥)
none_or None = inl refl
none_or (Some n) = inr (λ e. absurd cc)

made_of : (r : Refusal) → r.code ≡ 1 → r.place ≡ None → r.within ≡ None → r ≡ no_memory
made_of r c p w = λ i. record { code = c i; place = p i; within = w i }

by_parts : (r : Refusal) → (r.code ≡ 1) ⊎ (r.code ≡ 1 → ⊥) → (r.place ≡ None) ⊎ (r.place ≡ None → ⊥) → (r.within ≡ None) ⊎ (r.within ≡ None → ⊥)
    → (r ≡ no_memory) ⊎ (r ≡ no_memory → ⊥)
by_parts r (inr c) p w = inr (λ e. c (λ i. (e i).code))
by_parts r (inl c) (inr p) w = inr (λ e. p (λ i. (e i).place))
by_parts r (inl c) (inl p) (inr w) = inr (λ e. w (λ i. (e i).within))
by_parts r (inl c) (inl p) (inl w) = inl (made_of r c p w)

-- an error is out of memory, or another
is_no_memory : (r : Refusal) → (r ≡ no_memory) ⊎ (r ≡ no_memory → ⊥)
is_no_memory r = by_parts r (one_or r.code) (none_or r.place) (none_or r.within)

due_or : (Refused : Refusal → Type 0) (refusal : Refusal) → (refusal ≡ no_memory) ⊎ (refusal ≡ no_memory → ⊥)
    → ((refusal ≡ no_memory → ⊥) → Refused refusal) → (refusal ≡ no_memory) ⊎ Refused refusal
due_or Refused refusal (inl is) due = inl is
due_or Refused refusal (inr other) due = inr (due other)

module _ {L G N : Type 0} (Refused : Refusal → Type 0) where
  told_as : (refusal : Refusal) (events : List (Event L G N)) (end : ℕ) → (refusal ≡ no_memory) ⊎ (refusal ≡ no_memory → ⊥)
      → ((refusal ≡ no_memory → ⊥) → Refused refusal) → IsRefusalReported refusal events end ⊎ IsMemoryReported events end
      → IsRefusedFor Refused events end
  told_as refusal events end which due (inr told) = inr told
  told_as refusal events end (inl is) due (inl told) = inr (inl (rw (← is) told))
  told_as refusal events end (inr other) due (inl told) = inl (refusal, due other, told)

  -- what texts are refused for is told, or that memory was refused
  pub refused_for : (refusal : Refusal) (end : ℕ) → ((refusal ≡ no_memory → ⊥) → Refused refusal)
      → (events : List (Event L G N)) → IsRefusalReported refusal events end ⊎ IsMemoryReported events end → IsRefusedFor Refused events end
  refused_for refusal end due events told = told_as refusal events end (is_no_memory refusal) due told

  -- and where a line could have been
  pub line_refused : (Decided : List ℕ → Type 0) (refusal : Refusal) (end : ℕ) → ((refusal ≡ no_memory → ⊥) → Refused refusal)
      → (events : List (Event L G N)) → IsRefusalReported refusal events end ⊎ IsMemoryReported events end
      → IsLineOrRefusal Decided Refused events end
  line_refused Decided refusal end due events told = inr (refused_for refusal end due events told)

  -- and explained behind that, if that is asked for
  pub refused_and : (wanted : Bool) (Is : Refusal → List ℕ → Type 0) (refusal : Refusal) (end : ℕ) → ((refusal ≡ no_memory → ⊥) → Refused refusal)
      → (events : List (Event L G N)) → Explains wanted (Is refusal) (IsErrorReported refusal) events end
      → IsErrorThenText wanted Is Refused events end
  refused_and false Is refusal end due events told = refused_for refusal end due events told
  refused_and true Is refusal end due events told = (refusal, due_or Refused refusal (is_no_memory refusal) due, told)

  pub line_refused_and : (Decided : List ℕ → Type 0) (wanted : Bool) (Is : Refusal → List ℕ → Type 0) (refusal : Refusal) (end : ℕ)
      → ((refusal ≡ no_memory → ⊥) → Refused refusal)
      → (events : List (Event L G N)) → Explains wanted (Is refusal) (IsErrorReported refusal) events end
      → IsLineOrErrorThenText wanted Is Decided Refused events end
  line_refused_and Decided wanted Is refusal end due events told = inr (refused_and wanted Is refusal end due events told)
