-- The text of a file of policies: it is read or refused, never both, and refused for one reason.
use Rattle.std.proofs.Common.{◌≡◌, ◌∙◌, ◌⊎◌, ℕ, ◌≤◌, Bool, true, false, leb, leb-true, leb-false, List, length, IsUtf8}
use Rattle.std.proofs.Common.{inl, inr, refl, sym, arith}
use Rattle.std.specs.Str.{is_utf8}
use Rattle.std.proofs.lemmas.Str.{IsUtf8-from_is_utf8, is_utf8-from_IsUtf8}
use Rattle.answer_lines.specs.policy_grammar.declared.fault.ReadFault.{ReadFault}
use Rattle.answer_lines.specs.policy_grammar.declared.fault.ReadFault.TheVariants.{TooLong, BadToken}
use Rattle.answer_lines.specs.policy_grammar.declared.policy.Policy.{Policy}
use Rattle.answer_lines.specs.policy_grammar.Limits.{most_file_bytes}
use Rattle.answer_lines.specs.policy_grammar.PolicyText.{IsFileRefused}
use Rattle.answer_lines.specs.policy_grammar.Unique.{HasOneReading, IsFileOf}
use Rattle.answer_lines.specs.declared.refusal.Refusal.{Refusal}
use Rattle.decision_texts.specs.Decisions.{ArePoliciesOf, IsFileFault, refusal_by, ArePoliciesRefused}

-- the policies of a text, or its refusal
abbrev pub PoliciesOrNone : List ℕ → Type 0
PoliciesOrNone bytes =
    ((file : List (List ℕ) × List Policy) × ArePoliciesOf bytes file.0 file.1) ⊎ ((refusal : Refusal) × ArePoliciesRefused bytes refusal)

file_or_none : (bytes : List ℕ) → length bytes ≤ most_file_bytes → IsUtf8 bytes →
    ((file : List (List ℕ) × List Policy) × IsFileOf bytes file) ⊎ ((why : ReadFault) × IsFileRefused bytes why) → PoliciesOrNone bytes
file_or_none bytes short utf8 (inl read) = inl (read.0, record { utf8 = utf8; file = read.1 })
file_or_none bytes short utf8 (inr none) = inr (refusal_by none.0, record { fault = none.0; is_fault = inr (inr (short, utf8, none.1)); is = refl })

module _ (files : HasOneReading IsFileOf IsFileRefused) where
  text_or_none : (bytes : List ℕ) → length bytes ≤ most_file_bytes → (valid : Bool) → is_utf8 bytes ≡ valid → PoliciesOrNone bytes
  text_or_none bytes short true e = file_or_none bytes short (IsUtf8-from_is_utf8 bytes e) (files.some bytes)
  text_or_none bytes short false e =
      inr (refusal_by (BadToken 0), record { fault = BadToken 0; is_fault = inr (inl (short, λ utf8. let valid = is_utf8-from_IsUtf8 bytes utf8 in absurd (cc), refl)); is = refl })

  short_or_long : (bytes : List ℕ) (short : Bool) → leb (length bytes) most_file_bytes ≡ short → PoliciesOrNone bytes
  short_or_long bytes true e = text_or_none bytes (leb-true (length bytes) most_file_bytes e) (is_utf8 bytes) refl
  short_or_long bytes false e =
      inr (refusal_by TooLong, record { fault = TooLong; is_fault = inl (leb-false (length bytes) most_file_bytes e, refl); is = refl })

  pub policies_or_none : (bytes : List ℕ) → PoliciesOrNone bytes
  policies_or_none bytes = short_or_long bytes (leb (length bytes) most_file_bytes) refl

  pub file_or_fault : (bytes : List ℕ) (names : List (List ℕ)) (cores : List Policy) (fault : ReadFault) → ArePoliciesOf bytes names cores
      → IsFileFault bytes fault → ⊥
  file_or_fault bytes names cores fault are (inl long) = let over = long.0 in let short = are.file.derives.short in absurd (omega arith)
  file_or_fault bytes names cores fault are (inr (inl bad)) = bad.1 are.utf8
  file_or_fault bytes names cores fault are (inr (inr is_fault)) = files.not_both bytes (names, cores) fault are.file is_fault.2

  pub fault_same : (bytes : List ℕ) (fault other : ReadFault) → IsFileFault bytes fault → IsFileFault bytes other → fault ≡ other
  fault_same bytes fault other (inl a) (inl b) = a.1 ∙ sym b.1
  fault_same bytes fault other (inl a) (inr (inl b)) = let over = a.0 in let short = b.0 in absurd (omega arith)
  fault_same bytes fault other (inl a) (inr (inr b)) = let over = a.0 in let short = b.0 in absurd (omega arith)
  fault_same bytes fault other (inr (inl a)) (inl b) = let over = b.0 in let short = a.0 in absurd (omega arith)
  fault_same bytes fault other (inr (inl a)) (inr (inl b)) = a.2 ∙ sym b.2
  fault_same bytes fault other (inr (inl a)) (inr (inr b)) = absurd (a.1 b.1)
  fault_same bytes fault other (inr (inr a)) (inl b) = let over = b.0 in let short = a.0 in absurd (omega arith)
  fault_same bytes fault other (inr (inr a)) (inr (inl b)) = absurd (b.1 a.1)
  fault_same bytes fault other (inr (inr a)) (inr (inr b)) = files.one_refusal bytes fault other a.2 b.2
