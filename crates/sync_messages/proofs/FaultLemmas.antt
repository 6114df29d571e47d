-- The errors of the parser and of the validator, as errors of a text.
use Rattle.std.specs.Prelude.{◌≡◌, ◌≢◌, ℕ, List}
use Rattle.std.proofs.Common.{sym, subst}
use Rattle.sync_format.specs.policy_grammar.declared.policy.Policy.{Policy}
use Rattle.sync_format.specs.policy_grammar.declared.fault.ReadFault.{ReadFault}
use Rattle.sync_format.specs.policy_grammar.declared.fault.ReadFault.TheVariants as read
use Rattle.sync_format.specs.policy_grammar.Faults as grammar
use Rattle.sync_format.specs.policy_grammar.PolicyText.{IsPolicyText, IsPolicyRefused}
use Rattle.validator.specs.schema.Schemas.{StatedSchema}
use Rattle.validator.specs.typing.declared.fault.TypeFault.{TypeFault}
use Rattle.validator.specs.typing.declared.fault.TypeFault.TheVariants as check
use Rattle.validator.specs.typing.Codes as validation
use Rattle.validator.specs.Passing.{IsCheckRefused}
use Rattle.sync_format.specs.declared.bodies.BodyFault.{BodyFault}
use Rattle.sync_format.specs.declared.bodies.BodyFault.TheVariants as body
use Rattle.plain.specs.AllocationErrors.{OrNoMemory}
use Rattle.sync_messages.specs.Texts.{RefusesPolicy, no_policy, not_passing}

module _ (s : StatedSchema) (t : List ℕ) (b : BodyFault) where
  of_reading : (f : ReadFault) → IsPolicyRefused t f → b ≡ body.Refused (grammar.code_of f) → RefusesPolicy s t b
  of_reading f h e = subst (λ c. RefusesPolicy s t c) (sym e) (no_policy f h)

  -- reported as `NoMemory` alone, or by its code
  pub unread_is_refused : (f : ReadFault) → OrNoMemory read.NoMemory (IsPolicyRefused t) f → (f ≡ read.NoMemory → b ≡ body.NoMemory)
      → (f ≢ read.NoMemory → b ≡ body.Refused (grammar.code_of f)) → OrNoMemory body.NoMemory (RefusesPolicy s t) b
  unread_is_refused f h m r ne = let other : f ≢ read.NoMemory = λ e. ne (m e) in of_reading f (h other) (r other)

  of_checking : (p : Policy) → IsPolicyText t p → (f : TypeFault) → IsCheckRefused s p f → b ≡ body.Refused (validation.code_of f)
      → RefusesPolicy s t b
  of_checking p is f h e = subst (λ c. RefusesPolicy s t c) (sym e) (not_passing p f is h)

  pub unpassed_is_refused : (p : Policy) → IsPolicyText t p → (f : TypeFault) → OrNoMemory check.NoMemory (IsCheckRefused s p) f
      → (f ≡ check.NoMemory → b ≡ body.NoMemory) → (f ≢ check.NoMemory → b ≡ body.Refused (validation.code_of f))
      → OrNoMemory body.NoMemory (RefusesPolicy s t) b
  unpassed_is_refused p is f h m r ne = let other : f ≢ check.NoMemory = λ e. ne (m e) in of_checking p is f (h other) (r other)
