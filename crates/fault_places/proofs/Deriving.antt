-- What is shown of each production of expressions: its tree's operands stand in its tokens; of parentheses, what is in
-- them stands there.
use Rattle.std.proofs.Common.{◌≡◌, ℕ, ◌++◌, List, [], ◌∷◌, Some, refl, sym, ap, ◌∙◌, subst}
use Rattle.std.specs.List.{slice_get}
use Rattle.grammar_syntax.specs.declared.token.Token.{Token}
use Rattle.grammar_syntax.specs.declared.tree.ExprTree.{ExprTree, out-ExprTree}
use Rattle.grammar_syntax.specs.declared.tree.ExprTree.TheOpen.{ExprTree-F as tree}
use Rattle.grammar_core.specs.declared.expr.Expr.{Expr}
use Rattle.grammar_parsing.specs.Expressions.{any_expr}
use Rattle.typing.specs.Places.{operands_of}
use Rattle.policy_grammar.specs.grammar_desugaring.Core.{core_of}
use Rattle.fault_places.specs.Forms.{Form, whole, operand, operand_step}
use Rattle.fault_places.proofs.Lists.{Ends, in_none}
use Rattle.fault_places.proofs.Standing.{whole_stands, Next}

-- parentheses, and what is in them
pub record Opened (ts : List Token) (a : ExprTree) : Type 0 where
  pub opening : Token
  pub inside : List Token
  pub closing : Token
  pub written : ts ≡ opening ∷ (inside ++ closing ∷ [])
  pub derives : any_expr inside a

-- the operands of x stand in the tokens ts, whatever is behind these
abbrev pub Follows : List ℕ → List Token → ExprTree → Type 0
Follows text ts x =
    (behind : List Token) (i : ℕ) (y : Expr) → slice_get (operands_of (core_of text x)) i ≡ Some y
    → Next text (whole x (ts ++ behind)) i y

-- by the form of the tree
abbrev pub Derived : List ℕ → List Token → ExprTree → tree ExprTree → Type 0
Derived text ts x (tree.Parentheses a) = Opened ts a
Derived text ts x _ = Follows text ts x

abbrev pub Shown : List ℕ → List Token → ExprTree → Type 0
Shown text ts x = Derived text ts x (out-ExprTree x)

pub shown : (text : List ℕ) (ts : List Token) (x : ExprTree) (y : tree ExprTree) → out-ExprTree x ≡ y
    → Derived text ts x y → Shown text ts x
shown text ts x y outs d = subst (Derived text ts x) (sym outs) d

-- the operands of a core expression are these
pub by_core : (text : List ℕ) (ts : List Token) (x : ExprTree) (e : Expr) (ys : List Expr) → core_of text x ≡ e
    → operands_of e ≡ ys
    → ((behind : List Token) (i : ℕ) (y : Expr) → slice_get ys i ≡ Some y → Next text (whole x (ts ++ behind)) i y)
    → Follows text ts x
by_core text ts x e ys is outs each behind i y found =
    each behind i y (ap (λ zs. slice_get zs i) (sym (ap operands_of is ∙ outs)) ∙ found)

pub by_none : (text : List ℕ) (ts : List Token) (x : ExprTree) (e : Expr) → core_of text x ≡ e → operands_of e ≡ []
    → Follows text ts x
by_none text ts x e is outs =
    by_core text ts x e [] is outs (λ behind i y found. in_none (Next text (whole x (ts ++ behind))) i y found)

-- an operand that is a whole expression
pub next : (text : List ℕ) (f : Form) (i : ℕ) (a : ExprTree) (ts us vs : List Token) → operand f i ≡ Some (whole a ts)
    → ts ≡ us ++ vs → any_expr us a → Ends ts f.tokens → Next text f i (core_of text a)
next text f i a ts us vs found written derives ends = record {
  below = whole a ts;
  found = found;
  stands = whole_stands us vs refl written derives refl;
  within = ends;
}

-- the operand that the tree's form gives
pub found_in : (f : Form) (y : tree ExprTree) (i : ℕ) (g : Form) → out-ExprTree f.tree ≡ y → operand_step y f i ≡ Some g
    → operand f i ≡ Some g
found_in f y i g outs found = ap (λ z. operand_step z f i) outs ∙ found
