use Rattle.grammar_core.specs.declared.operator.Binary.TheVariants.{Less}
use Rattle.evaluator.proofs.TestsTold.{compare_fails}
use Rattle.evaluator.proofs.numbers.is_less.Goals as goal

pub returns-in-Err : goal.returns-in-Err
returns-in-Err c = λ E a b h n. compare_fails E Less c.args.found c.in-Err.fault c.in-Err.is a b h n
