-- An expression as a whole list of tokens.
use Rattle.std.proofs.Common.{ℕ, zero, suc, ◌-◌, ◌≤◌, ◌<◌, List, [], Result, refl, arith}
use Rattle.grammar_syntax.specs.declared.token.Token.{Token}
use Rattle.grammar_syntax.specs.declared.fault.StopCause.{StopCause}
use Rattle.grammar_syntax.specs.declared.tree.ExprTree.{ExprTree}
use Rattle.grammar_parsing.specs.Expressions as g
use Rattle.grammar_parsing.specs.Expressions.{nesting_limit, any_expr}
use Rattle.grammar_parsing.specs.inner.Reading as r
use Rattle.grammar_syntax.specs.ParsesTo.{ParsesTo}
use Rattle.grammar_syntax.specs.ParseResults.{Begins, HasOneTree, HasOneAnswerWithin}
use Rattle.grammar_syntax.specs.ParseResults.{ReadsFrontWithin, OpensNextLevel}
use Rattle.grammar_syntax.proofs.Rules.{Rule}
use Rattle.grammar_parsing.proofs.Follows.{after_expr}
use Rattle.grammar_parsing.proofs.ExpressionRules.{expr_rule, alive_expr}
use Rattle.grammar_parsing.proofs.ExpressionFirm.{firm_expr}
use Rattle.grammar_syntax.proofs.Depths as depths
use Rattle.grammar_syntax.proofs.Depths.{levels}

rule : (n m : ℕ) → n ≤ m → Rule (g.expr (suc n)) (g.expr (suc m)) (r.expr (suc n)) (r.expr (suc m)) after_expr (levels (suc n) (suc m))
rule n m le = expr_rule (suc n) (suc m) (omega (arith, le)) refl

alive : (n : ℕ) → Begins (g.expr (suc n)) []
alive n = alive_expr (suc n) refl

pub one_expression : HasOneTree (g.expr nesting_limit)
one_expression = depths.one_tree g.expr r.expr after_expr rule alive 63

pub one_at_any : HasOneTree any_expr
one_at_any = depths.one_tree_at_any g.expr r.expr after_expr rule alive

pub expression_answer : HasOneAnswerWithin (g.expr nesting_limit) any_expr
expression_answer = depths.one_answer g.expr r.expr after_expr rule alive 63

pub next_level : OpensNextLevel g.expr nesting_limit
next_level = depths.next_level g.expr r.expr after_expr rule alive 63

-- the front of a list, at any number of levels
pub expression_front : (levels : ℕ) (ts rest : List Token) (x : Result ExprTree StopCause) → ParsesTo (r.expr levels ts) x rest → 0 < levels
    → ReadsFrontWithin (g.expr levels) any_expr ts x rest
expression_front zero ts rest x gives some = absurd (omega (arith, some))
expression_front (suc n) ts rest x gives some = depths.front_read g.expr r.expr after_expr rule alive n (firm_expr (suc n) refl) ts rest x gives
