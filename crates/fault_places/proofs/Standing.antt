-- A form whose tokens derive it, for a core node: on the way down to a core node each form stands so.
use Rattle.std.proofs.Common.{◌≡◌, ℕ, ◌+◌, ◌++◌, List, [], ◌∷◌, length, true, Some}
use Rattle.std.specs.List.{fold}
use Rattle.grammar_syntax.specs.declared.token.Token.{Token}
use Rattle.grammar_syntax.specs.declared.token.TokenKind.TheVariants as k
use Rattle.grammar_syntax.specs.declared.name_trees.PathTree.{PathTree}
use Rattle.grammar_syntax.specs.Lang.{Lang, many}
use Rattle.grammar_syntax.specs.Lang as lang
use Rattle.grammar_syntax.specs.Grammar as names
use Rattle.grammar_syntax.specs.declared.tree.Access.{Access}
use Rattle.grammar_syntax.specs.declared.tree.Comparison.{Comparison}
use Rattle.grammar_syntax.specs.declared.tree.Comparison.TheVariants as is
use Rattle.grammar_syntax.specs.declared.tree.Term.{Term}
use Rattle.grammar_syntax.specs.declared.tree.ExprTree.{ExprTree}
use Rattle.grammar_syntax.specs.declared.tree.ExprTree.TheVariants as tree
use Rattle.grammar_core.specs.declared.expr.Expr.{Expr}
use Rattle.grammar_core.specs.declared.expr.Expr.TheVariants as core
use Rattle.grammar_core.specs.declared.operator.Unary.TheVariants.{Is}
use Rattle.grammar_core.specs.declared.operator.Binary.TheVariants.{In, Multiply, Less, LessOrEqual, Equal}
use Rattle.grammar_parsing.specs.Expressions as g
use Rattle.grammar_parsing.specs.Expressions.{expr, any_expr, is_positive}
use Rattle.policy_grammar.specs.grammar_desugaring.Core.{core_of, accessed, added, in_access, in_term}
use Rattle.policy_grammar.specs.grammar_desugaring.Meaning.{path_name}
use Rattle.fault_places.specs.inner.Nodes as part
use Rattle.fault_places.specs.Forms.{Form, kept, is_negated, operand}
use Rattle.fault_places.proofs.Lists.{Ends}

-- Of a chain's form, the node with the pieces up to `last`: the tokens of its head, of the pieces before the last one, and
-- of the last one stand in a row. L derives the head, M a piece, and `step` is what a piece makes of what is before it.
pub record Chained {A : Type 0} (L : Lang ExprTree) (M : Lang A) (make : ExprTree → List A → ExprTree)
    (step : Expr → A → Expr) (text : List ℕ) (f : Form) (e : Expr) : Type 0 where
  pub head : ExprTree
  pub init : List A
  pub last : A
  pub later : List A
  pub of_head : List Token
  pub of_init : List Token
  pub of_last : List Token
  pub behind : List Token
  pub form : f.tree ≡ make head (init ++ last ∷ later)
  pub pieces : kept f.part (length (init ++ last ∷ later)) ≡ length init + 1
  pub written : f.tokens ≡ of_head ++ (of_init ++ (of_last ++ behind))
  pub head_derives : L of_head head
  pub init_derives : many M of_init init
  pub last_derives : M of_last last
  pub meant : e ≡ step (fold step (core_of text head) init) last

-- `a is T in b`, by its tokens
pub record Tested (levels : ℕ) (f : Form) : Type 0 where
  pub head : ExprTree
  pub name : PathTree
  pub tail : ExprTree
  pub is_token : Token
  pub in_token : Token
  pub of_head : List Token
  pub of_name : List Token
  pub of_tail : List Token
  pub behind : List Token
  pub form : f.tree ≡ tree.IsIn head name tail
  pub written : f.tokens ≡ of_head ++ (is_token ∷ (of_name ++ (in_token ∷ (of_tail ++ behind))))
  pub is_is : lang.one k.Is (is_token ∷ []) is_token
  pub in_is : lang.one k.In (in_token ∷ []) in_token
  pub head_derives : g.sum (is_positive levels) (expr levels) of_head head
  pub name_derives : names.path of_name name
  pub tail_derives : g.sum (is_positive levels) (expr levels) of_tail tail

-- `a > b`, `a >= b` or `a != b`, by its tokens
pub record Compared (levels : ℕ) (f : Form) : Type 0 where
  pub left : ExprTree
  pub operator : Comparison
  pub right : ExprTree
  pub token : Token
  pub of_left : List Token
  pub of_right : List Token
  pub behind : List Token
  pub form : f.tree ≡ tree.Compare left operator right
  pub negates : is_negated operator ≡ true
  pub written : f.tokens ≡ of_left ++ (token ∷ (of_right ++ behind))
  pub token_is : g.symbol g.comparison_of (token ∷ []) operator
  pub left_derives : g.sum (is_positive levels) (expr levels) of_left left
  pub right_derives : g.sum (is_positive levels) (expr levels) of_right right

-- what a comparison negates
abbrev pub inner_of : Comparison → Expr → Expr → Expr
inner_of is.Greater a b = core.Binary LessOrEqual a b
inner_of is.GreaterOrEqual a b = core.Binary Less a b
inner_of _ a b = core.Binary Equal a b

-- what a piece makes of what is before it
abbrev pub access_step : List ℕ → Expr → Access (List ExprTree) → Expr
access_step text e x = accessed text e (in_access (core_of text) x)

abbrev pub factor_step : List ℕ → Expr → ExprTree → Expr
factor_step text e x = core.Binary Multiply e (core_of text x)

abbrev pub term_step : List ℕ → Expr → Term ExprTree → Expr
term_step text e x = added e (in_term (core_of text) x)

abbrev pub and_step : List ℕ → Expr → ExprTree → Expr
and_step text e x = core.And e (core_of text x)

abbrev pub or_step : List ℕ → Expr → ExprTree → Expr
or_step text e x = core.Or e (core_of text x)

-- `Stands text f e`: the tokens of the form f derive it, and e is its node.
pub data Stands (text : List ℕ) (f : Form) (e : Expr) : Type 0 where
  whole_stands : (mine behind : List Token) → f.part ≡ part.Whole → f.tokens ≡ mine ++ behind → any_expr mine f.tree
      → e ≡ core_of text f.tree → Stands text f e
  member_stands : (levels : ℕ)
      → Chained (g.primary (is_positive levels) (expr levels))
      (lang.◌or◌ (g.dotted (is_positive levels) (expr levels)) g.indexed) tree.Member (access_step text) text f e
      → Stands text f e
  product_stands : (levels : ℕ)
      → Chained (g.unary (is_positive levels) (expr levels))
      (lang.◌>>◌ (lang.one k.Star) (g.unary (is_positive levels) (expr levels))) tree.Product (factor_step text) text f e
      → Stands text f e
  sum_stands : (levels : ℕ)
      → Chained (g.product (is_positive levels) (expr levels)) (g.term (is_positive levels) (expr levels)) tree.Sum
      (term_step text) text f e → Stands text f e
  and_stands : (levels : ℕ)
      → Chained (g.relation (is_positive levels) (expr levels))
      (lang.◌>>◌ (lang.one k.And) (g.relation (is_positive levels) (expr levels))) tree.And (and_step text) text f e
      → Stands text f e
  or_stands : (levels : ℕ)
      → Chained (g.conjunction (is_positive levels) (expr levels))
      (lang.◌>>◌ (lang.one k.Or) (g.conjunction (is_positive levels) (expr levels))) tree.Or (or_step text) text f e
      → Stands text f e
  test_stands : (levels : ℕ) (w : Tested levels f) → f.part ≡ part.Test
      → e ≡ core.Unary (Is (path_name text w.name)) (core_of text w.head) → Stands text f e
  inner_stands : (levels : ℕ) (w : Tested levels f) → f.part ≡ part.Inner
      → e ≡ core.Binary In (core_of text w.head) (core_of text w.tail) → Stands text f e
  negated_stands : (levels : ℕ) (w : Compared levels f) → f.part ≡ part.Inner
      → e ≡ inner_of w.operator (core_of text w.left) (core_of text w.right) → Stands text f e

-- `Next text f i e`: the form of operand i of f stands for e, in the tokens of f.
pub record Next (text : List ℕ) (f : Form) (i : ℕ) (e : Expr) : Type 0 where
  pub below : Form
  pub found : operand f i ≡ Some below
  pub stands : Stands text below e
  pub within : Ends below.tokens f.tokens
