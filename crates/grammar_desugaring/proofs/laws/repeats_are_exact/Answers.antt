use Rattle.grammar_desugaring.proofs.Again.{repeats_are_exact, repeats_are_told}
use Rattle.grammar_desugaring.proofs.laws.repeats_are_exact.Goals as goal

pub returns : goal.returns
returns c = record { again = repeats_are_exact; told = repeats_are_told }
