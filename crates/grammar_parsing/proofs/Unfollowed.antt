-- An operand behind which no piece begins is a whole level.
use Rattle.std.proofs.Common.{◌≡◌, ℕ, zero, suc, Bool, true, false, List, [], refl, ap}
use Rattle.grammar_syntax.specs.declared.token.Token.{Token}
use Rattle.grammar_syntax.specs.declared.tree.ExprTree.{ExprTree}
use Rattle.grammar_syntax.specs.Kinds.{Kinds}
use Rattle.grammar_syntax.specs.ParseResults.{sees}
use Rattle.grammar_syntax.specs.ParserCombinators.{Parser, Read, and_then, pure, chosen, loop_from}
use Rattle.grammar_parsing.specs.Expressions.{joined}
use Rattle.grammar_parsing.specs.inner.Chains.{chained}

skipped : {A : Type 0} (b : Bool) (p q : Parser A) (ts : List Token) → b ≡ false → chosen b p q ts ≡ q ts
skipped false p q ts h = refl
skipped true p q ts h = absurd (cc)

none_from : {A : Type 0} (ks : Kinds) (p : Parser A) (n : ℕ) (ts : List Token) → sees ks ts ≡ false
    → loop_from (λ s a. s) (λ s. ks) (λ s. p) n (tt {0}) ts ≡ Read [] ts
unfolding loop_from
none_from ks p zero ts h = refl
none_from ks p (suc n) ts h = skipped (sees ks ts) _ _ ts h

pub unfollowed : {A : Type 0} (ks : Kinds) (piece : Parser A) (make : ExprTree → List A → ExprTree) (x : ExprTree) (ts : List Token)
    → sees ks ts ≡ false → chained ks piece make x ts ≡ Read x ts
unfollowed ks piece make x ts h = ap (λ o. and_then o (λ more. pure (joined make x more))) (none_from ks piece _ ts h)
