use Rattle.std.proofs.Common.{subst}
use Rattle.grammar_parsing.specs.WellFormed.{WellFormedValue}
use Rattle.policy_grammar.proofs.Lists.{text-kind}
use Rattle.policy_grammar.proofs.names.value_of.Goals as goal

pub decode_string-requires-clause-string : goal.decode_string-requires-clause-string
decode_string-requires-clause-string c = text-kind _ (subst (WellFormedValue c.requires.tokens) c.in-Some.is c.requires.is_well_formed.2).1
