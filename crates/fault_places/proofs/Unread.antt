-- A text that is not made of tokens is no policy.
use Rattle.std.proofs.Common.{ℕ, List, length, inl, inr}
use Rattle.std.proofs.lemmas.Bool.{cases_lt}
use Rattle.grammar_syntax.specs.Lexing.{IsBadAt}
use Rattle.policy_grammar.specs.declared.fault.ReadFault.TheVariants as fault
use Rattle.policy_grammar.specs.Texts.{most_policy_bytes}
use Rattle.fault_places.specs.Spans.{IsNoPolicy}

pub bad_is_no_policy : (text : List ℕ) → ((bad : ℕ) × IsBadAt text bad) → IsNoPolicy text
bad_is_no_policy text b =
    elim (cases_lt most_policy_bytes (length text)) [
      | inl long ↦ (fault.TooLong, long)
      | inr short ↦ (fault.BadToken b.0, (short, b.1))
    ]
