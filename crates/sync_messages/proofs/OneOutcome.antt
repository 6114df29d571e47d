-- One outcome, and the function that gives it.
use Rattle.std.proofs.Common.{◌≡◌, ◌∙◌, Result, sym, subst, inl, inr}
use Rattle.std.specs.Prelude.{◌⊎◌}
use Rattle.validator.specs.schema.Agreement.{Gives, HasOneOutcome}
use Rattle.sync_messages.proofs.Steps.{done, failed, ok_is, err_is, never}

module _ {A F : Type 0} (r : Result A F) (Describes : A → Type 0) (Refuses : F → Type 0)
    (states : (a : A) → Describes a → r ≡ done a) (refuses : (f : F) → Refuses f → r ≡ failed f) where
  value_from : (some : ((a : A) × Describes a) ⊎ ((f : F) × Refuses f)) → (a : A) → r ≡ done a → Describes a
  value_from (inl h) a e = subst Describes (ok_is h.0 a (sym (states h.0 h.1) ∙ e)) h.1
  value_from (inr h) a e = absurd (never a h.0 (sym e ∙ refuses h.0 h.1))

  fault_from : (some : ((a : A) × Describes a) ⊎ ((f : F) × Refuses f)) → (f : F) → r ≡ failed f → Refuses f
  fault_from (inl h) f e = absurd (never h.0 f (sym (states h.0 h.1) ∙ e))
  fault_from (inr h) f e = subst Refuses (err_is h.0 f (sym (refuses h.0 h.1) ∙ e)) h.1

  pub gives : ((a : A) × Describes a) ⊎ ((f : F) × Refuses f) → Gives r Describes Refuses
  gives some = record {
    value = λ a. (value_from some a, states a);
    fault = λ f. (fault_from some f, refuses f);
  }

  pub one_outcome : ((a : A) × Describes a) ⊎ ((f : F) × Refuses f) → HasOneOutcome Describes Refuses
  one_outcome some = record {
    one_value = λ a b h k. ok_is a b (sym (states a h) ∙ states b k);
    one_fault = λ f g h k. err_is f g (sym (refuses f h) ∙ refuses g k);
    not_both = λ a f h k. never a f (sym (states a h) ∙ refuses f k);
    some = some;
  }
