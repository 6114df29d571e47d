-- An operand that was derived, and what was derived of it, are a relation.
use Rattle.std.proofs.Common.{◌≡◌, List, ◌++◌, Result, Ok, Err, refl, sym, ap, ◌∙◌, append_assoc}
use Rattle.std.specs.Prelude.{IfOk}
use Rattle.grammar_syntax.specs.declared.token.Token.{Token}
use Rattle.grammar_syntax.specs.declared.fault.StopCause.{StopCause}
use Rattle.grammar_syntax.specs.Lang.{Lang}
use Rattle.grammar_syntax.specs.declared.tree.ExprTree.{ExprTree}
use Rattle.grammar_syntax.specs.Relations.{relation, DerivesFront}

pub relation_derives : (L : Lang ExprTree) (M : ExprTree → Lang ExprTree) (ts mid rest : List Token) (x : ExprTree) (read : Result ExprTree StopCause) → DerivesFront L ts x mid
    → IfOk read (λ e. DerivesFront (M x) mid e rest) → IfOk read (λ e. DerivesFront (relation L M) ts e rest)
relation_derives L M ts mid rest x (Ok e) f g = record {
  front = f.front ++ g.front;
  whole = f.whole ∙ ap (λ z. f.front ++ z) g.whole ∙ sym (append_assoc f.front g.front rest);
  derived = record { front = f.front; back = g.front; value = x; whole = refl; first = f.derived; second = g.derived };
}
relation_derives L M ts mid rest x (Err halt) f g = tt
