use Rattle.grammar_desugaring.proofs.Least.{least-append}
use Rattle.grammar_desugaring.proofs.Telling.{least_is_least, none_of_none}
use Rattle.grammar_desugaring.proofs.laws.least_fault_is_reported.Goals as goal

pub returns : goal.returns
returns c = record { least = least_is_least; none = none_of_none; both = least-append }
