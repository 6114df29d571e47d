use Rattle.policy_grammar.proofs.Differing.{each_is_named, names_differ}
use Rattle.policy_grammar.proofs.laws.file_names_differ.Goals as goal

pub returns : goal.returns
returns c = record { each = each_is_named; differ = names_differ }
