-- Lemmas: an explanation is written after the report of a run.
use Rattle.std.proofs.Common.{◌≡◌, ◌==◌, inl, inr, ℕ, Bool, true, false, List, [], ◌∷◌, ◌++◌, codes, length, Result, Ok, Err, IfOk, refl, subst, string_bytes}
use Rattle.std.specs.declared.alloc.Global.{Global}
use Rattle.std.specs.declared.string.String.{String}
use Rattle.program.specs.declared.device.Stream.TheVariants.{Faults}
use Rattle.program.specs.Events.{Event, wrote, Does, Runs}
use Rattle.program.specs.Reports.{ended}
use Rattle.program.specs.Courses.{Course}
use Rattle.program.specs.ExplainCommand.{IsWithoutEnd}
use Rattle.program.specs.ExplainOption.{IsTextWritten, IsExplanationWritten, Explains}
use Rattle.program.specs.inner.WrittenTexts.{IsMadeWritten}

-- what holds of a result, in other words
pub ok_as : {A E : Type 0} (r : Result A E) (P Q : A → Type 0) → ((x : A) → P x → Q x) → IfOk r P → IfOk r Q
ok_as (Ok x) P Q so h = so x h
ok_as (Err e) P Q so h = tt

module _ {L G N H : Type 0} (does : H → Event L G N → H → Type 0) where
  -- a text with a byte is written
  pub lines_told : (old new : H) (text lines : List ℕ) (done : Bool) → (length lines == 0) ≡ false → IsWithoutEnd text lines
      → does old (wrote Faults (ended lines) done) new → Runs does old new (λ events. IsTextWritten text events)
  lines_told old new text [] done some without step = absurd cc
  lines_told old new text (byte ∷ lines) done some without step =
      (wrote Faults (ended (byte ∷ lines)) done ∷ [], (new, step, refl), (byte ∷ lines, without, (done, refl)))

  -- a text was not made
  pub no_text_told : {E : Type 0} (old new : H) (made : Result (String Global) E) (error : E) (done : Bool) → made ≡ Err error
      → does old (wrote Faults (ended (codes "explanation: out of memory")) done) new → Runs does old new (λ events. IsMadeWritten made events)
  no_text_told old new (Ok text) error done is step = absurd cc
  no_text_told old new (Err other) error done is step =
      (wrote Faults (ended (codes "explanation: out of memory")) done ∷ [], (new, step, refl), (done, refl))

  -- an explanation is written if it was made, and the line `out of memory` if it was not
  pub made_told : {E : Type 0} (old new : H) (Is : List ℕ → Type 0) (made : Result (String Global) E) → IfOk made (λ text. Is (string_bytes text))
      → Runs does old new (λ events. IsMadeWritten made events) → Runs does old new (λ events. IsExplanationWritten Is events)
  made_told old new Is (Ok text) is run = (run.0, run.1, inl (string_bytes text, is, run.2))
  made_told old new Is (Err error) is run = (run.0, run.1, inr run.2)

  does_both : (xs ys : List (Event L G N)) (old mid new : H) → Does does xs old mid → Does does ys mid new → Does does (xs ++ ys) old new
  does_both [] ys old mid new first second = subst (λ (h : H). Does does ys h new) first second
  does_both (x ∷ xs) ys old mid new first second = (first.0, first.1, does_both xs ys first.0 mid new first.2 second)

  -- if an explanation is wanted, it is written after the report
  pub followed : (old mid new : H) (wanted : Bool) (Is : List ℕ → Type 0) (course : Course L G N) (end : ℕ) → wanted ≡ true
      → Runs does old mid (λ events. course events end) → Runs does mid new (λ events. IsExplanationWritten Is events)
      → Runs does old new (λ events. Explains wanted Is course events end)
  followed old mid new false Is course end is first behind = absurd cc
  followed old mid new true Is course end is first behind =
      (first.0 ++ behind.0, does_both first.0 behind.0 old mid new first.1 behind.1, (first.0, behind.0, first.2, behind.2, refl))

  pub not_followed : (old new : H) (wanted : Bool) (Is : List ℕ → Type 0) (course : Course L G N) (end : ℕ) → wanted ≡ false
      → Runs does old new (λ events. course events end) → Runs does old new (λ events. Explains wanted Is course events end)
  not_followed old new false Is course end is run = run
  not_followed old new true Is course end is run = absurd cc
