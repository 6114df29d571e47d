-- Defines which token kinds are in each set that the parsers of policies use.
use Rattle.grammar_syntax.specs.Kinds.{Kinds}
use Rattle.grammar_parsing.specs.declared.policy_sets.PolicySet.{PolicySet}
use Rattle.grammar_parsing.specs.declared.policy_sets.PolicySet.TheVariants as set
use Rattle.grammar_parsing.specs.Grammar.{words, effects, condition_words}
use Rattle.grammar_parsing.specs.inner.Parsing.{policy_firsts}

-- `included set` are the token kinds in `set`.
abbrev pub included : PolicySet → Kinds
included set.Words = words
included set.Effects = effects
included set.ConditionWords = condition_words
included set.PolicyStarts = policy_firsts
