-- What is read of a relation is derived: its first Sum, and that with what stands behind it.
use Rattle.std.proofs.Common.{◌≡◌, ℕ, suc, List, Result, Ok, Err, refl, arith}
use Rattle.std.specs.Prelude.{IfOk}
use Rattle.grammar_syntax.specs.declared.token.Token.{Token}
use Rattle.grammar_syntax.specs.declared.tree.ExprTree.{ExprTree}
use Rattle.grammar_syntax.specs.declared.fault.StopCause.{StopCause}
use Rattle.grammar_syntax.specs.Lang.{Lang}
use Rattle.grammar_syntax.specs.ParserCombinators.{Parser, Read}
use Rattle.grammar_syntax.specs.ParsesTo.{ParsesTo}
use Rattle.grammar_syntax.specs.Relations.{DerivesFront}
use Rattle.grammar_parsing.specs.Expressions as g
use Rattle.grammar_parsing.specs.Expressions.{is_positive}
use Rattle.grammar_parsing.specs.inner.Reading as r
use Rattle.grammar_syntax.proofs.Rules.{ReadsFront}
use Rattle.grammar_syntax.proofs.Depths.{levels}
use Rattle.grammar_parsing.proofs.PrimaryRules.{Inner}
use Rattle.grammar_parsing.proofs.ExpressionRules.{sum_rule, related_rule, one_deeper, expr_rule, starts_expr, alive_expr}

-- what stands inside of so many levels is read as the grammar has it
inner : (n : ℕ) → Inner (is_positive n) (is_positive n) (g.expr n) (g.expr n) (r.expr n) (r.expr n) (levels (suc n) (suc n))
inner n = record {
  rule = λ e. one_deeper n n (expr_rule n n (omega arith) e);
  starts = starts_expr n;
  alive = alive_expr n;
  wide = λ e. e;
  alike = λ e. refl;
  deeper = λ d. absurd (omega (arith, d));
  wide_alive = alive_expr n;
}

derives : (L : Lang ExprTree) (p : Parser ExprTree) → ((ts : List Token) (x : ExprTree) (rest : List Token) → p ts ≡ Read x rest → ReadsFront L ts x rest)
    → (ts rest : List Token) (read : Result ExprTree StopCause) → ParsesTo (p ts) read rest → IfOk read (λ x. DerivesFront L ts x rest)
derives L p sound ts rest (Ok x) h = let found = sound ts x rest h in record { front = found.front; whole = found.whole; derived = found.derived }
derives L p sound ts rest (Err e) h = tt

pub sum_derives : (n : ℕ) (ts rest : List Token) (read : Result ExprTree StopCause) → ParsesTo (r.sum (is_positive n) (r.expr n) ts) read rest
    → IfOk read (λ x. DerivesFront (g.sum (is_positive n) (g.expr n)) ts x rest)
sum_derives n = derives _ _ (sum_rule _ _ _ _ _ _ _ (inner n)).sound

pub tail_derives : (n : ℕ) (x : ExprTree) (ts rest : List Token) (read : Result ExprTree StopCause) → ParsesTo (r.related (is_positive n) (r.expr n) x ts) read rest
    → IfOk read (λ e. DerivesFront (g.tailed (is_positive n) (g.expr n) x) ts e rest)
tail_derives n x = derives _ _ (related_rule _ _ _ _ _ _ _ (inner n) x).sound
