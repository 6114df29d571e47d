use Rattle.std.proofs.Common.{sym, subst}
use Rattle.grammar_core.specs.declared.operator.Binary.{Binary}
use Rattle.evaluator.specs.inner.Computing.{decided_entities, Answers, meaning, and_then, as_test, apply_binary}
use Rattle.evaluator.proofs.AfterFirst.{decided, undecided}
use Rattle.evaluator.proofs.+evaluate.Goals as goal

pub testing::binary_test-returns-in-Less : goal.testing::binary_test-returns-in-Less
testing::binary_test-returns-in-Less g t c =
    let E = decided_entities (g.L.Lookup.stored c.args.env.now) (g.L.Ancestry.ancestor_test c.args.env.now) in
    let a = meaning (g.L.EvalEnv.request_of c.args.env.now) E c.args.left.now in
    let b = meaning (g.L.EvalEnv.request_of c.args.env.now) E c.args.right.now in
    subst (λ (op : Binary). Answers c.is_less.result (as_test (and_then a (λ v. and_then b (apply_binary E op v))))) (sym c.in-Less.is)
    (c.is_less.ensures E a b c.two_numbers.ensures)

pub testing::binary_test-returns-in-LessOrEqual : goal.testing::binary_test-returns-in-LessOrEqual
testing::binary_test-returns-in-LessOrEqual g t c =
    let E = decided_entities (g.L.Lookup.stored c.args.env.now) (g.L.Ancestry.ancestor_test c.args.env.now) in
    let a = meaning (g.L.EvalEnv.request_of c.args.env.now) E c.args.left.now in
    let b = meaning (g.L.EvalEnv.request_of c.args.env.now) E c.args.right.now in
    subst (λ (op : Binary). Answers c.is_less_or_equal.result (as_test (and_then a (λ v. and_then b (apply_binary E op v))))) (sym c.in-LessOrEqual.is)
    (c.is_less_or_equal.ensures E a b c.two_numbers-in-LessOrEqual.ensures)

pub choosing::both_test-returns-in-Some : goal.choosing::both_test-returns-in-Some
choosing::both_test-returns-in-Some g t c =
    decided _ _ _ _ c.test_of-first.ensures (c.in-Some.ensures _)

pub choosing::both_test-returns-in-None : goal.choosing::both_test-returns-in-None
choosing::both_test-returns-in-None g t c =
    undecided _ _ _ _ c.test_of-first.ensures c.in-None.ensures c.test_of.ensures
