-- Operators, relations and levels derive something, and what each begins with.
use Rattle.std.proofs.Common.{ℕ, zero, suc, Bool, [], refl}
use Rattle.grammar_syntax.specs.declared.token.TokenKind.{TokenKind}
use Rattle.grammar_syntax.specs.declared.token.TokenKind.TheVariants as k
use Rattle.grammar_syntax.specs.declared.name_trees.PathTree.{PathTree}
use Rattle.grammar_syntax.specs.declared.tree.Comparison.{Comparison}
use Rattle.grammar_syntax.specs.declared.tree.Sign.{Sign}
use Rattle.grammar_syntax.specs.declared.tree.Term.{Term}
use Rattle.grammar_syntax.specs.declared.tree.ExprTree.{ExprTree}
use Rattle.grammar_syntax.specs.declared.tree.ExprTree.TheVariants as tree
use Rattle.grammar_syntax.specs.Kinds.{Kinds, only, same_kind}
use Rattle.grammar_syntax.specs.Lang.{Lang}
use Rattle.grammar_syntax.specs.Lang as lang
use Rattle.grammar_parsing.specs.Expressions as g
use Rattle.grammar_parsing.specs.Expressions.{sign_of, comparison_of, signs, comparisons, is_in}
use Rattle.grammar_parsing.specs.inner.Reading.{firsts}
use Rattle.grammar_syntax.specs.ParseResults.{Begins}
use Rattle.grammar_syntax.proofs.Forms.{Starts, starts_of, starts_both, starts_or, alive_empty}
use Rattle.grammar_syntax.proofs.Forms.{alive_right}
use Rattle.grammar_syntax.proofs.Steps.{go, go_one, alive_maybe, starts_one, wide_starts}
use Rattle.grammar_syntax.proofs.Openings.{Opening, opening_one, starts_gate}
use Rattle.grammar_parsing.proofs.SymbolRules.{starts_symbol}
use Rattle.grammar_parsing.proofs.AlivePrimaries.{primary_firsts, minus_firsts, unary_firsts, alive_chain}
use Rattle.grammar_parsing.proofs.AlivePrimaries.{starts_chain, term_of, alive_member, starts_member}

module _ (o : Bool) (E : Lang ExprTree) where
  -- ---- operators

  abbrev pub behind_sign : TokenKind → (ExprTree → ExprTree) → ℕ → Lang ExprTree
  behind_sign sign make n = lang.◌>>=◌ (g.signed o E sign make n) (λ x. lang.empty (make x))

  pub alive_signed : (sign : TokenKind) (make : ExprTree → ExprTree) (n : ℕ) → Begins (g.signed o E sign make n) []
  alive_signed sign make zero = alive_member o E
  alive_signed sign make (suc n) = alive_right (lang.◌>>◌ (lang.one sign) (behind_sign sign make n)) (g.member o E) [] (alive_member o E)

  pub alive_behind_sign : (sign : TokenKind) (make : ExprTree → ExprTree) (n : ℕ) → Begins (behind_sign sign make n) []
  alive_behind_sign sign make n = go (alive_signed sign make n) (λ x. alive_empty (make x))

  abbrev pub minuses : Lang ExprTree
  minuses = g.signed o E k.Minus tree.Minus 4

  pub alive_unary : Begins (g.unary o E) []
  alive_unary = alive_right (g.signed o E k.Not tree.Not 4) minuses [] (alive_signed k.Minus tree.Minus 4)

  starts_signed : (sign : TokenKind) (make : ExprTree → ExprTree) (ks : Kinds) → Starts (lang.one sign) ks → Starts (g.member o E) ks → (n : ℕ) → Starts (g.signed o E sign make n) ks
  starts_signed sign make ks one member zero = member
  starts_signed sign make ks one member (suc n) =
      starts_or (lang.◌>>◌ (lang.one sign) (behind_sign sign make n)) (g.member o E) ks (starts_both (lang.one sign) (λ _. behind_sign sign make n) ks one) member

  pub starts_minuses : Starts minuses minus_firsts
  unfolding same_kind
  starts_minuses = starts_signed k.Minus tree.Minus minus_firsts (wide_starts (lang.one k.Minus) (only k.Minus) minus_firsts refl (starts_of (only k.Minus))) (wide_starts (g.member o E) primary_firsts minus_firsts refl (starts_member o E)) 4

  starts_nots : Starts (g.signed o E k.Not tree.Not 4) unary_firsts
  unfolding same_kind
  starts_nots = starts_signed k.Not tree.Not unary_firsts (wide_starts (lang.one k.Not) (only k.Not) unary_firsts refl (starts_of (only k.Not))) (wide_starts (g.member o E) primary_firsts unary_firsts refl (starts_member o E)) 4

  starts_unary : Starts (g.unary o E) unary_firsts
  starts_unary = starts_or (g.signed o E k.Not tree.Not 4) minuses unary_firsts starts_nots (wide_starts minuses minus_firsts unary_firsts refl starts_minuses)

  abbrev pub factor : Lang ExprTree
  factor = lang.◌>>◌ (lang.one k.Star) (g.unary o E)

  pub alive_product : Begins (g.product o E) []
  alive_product = alive_chain (g.unary o E) factor tree.Product alive_unary

  starts_product : Starts (g.product o E) unary_firsts
  starts_product = starts_chain (g.unary o E) factor tree.Product unary_firsts starts_unary

  abbrev pub behind_term : Sign → Lang (Term ExprTree)
  behind_term sign = lang.◌>>=◌ (g.product o E) (λ x. lang.empty (term_of sign x))

  pub alive_behind_term : (sign : Sign) → Begins (behind_term sign) []
  alive_behind_term sign = go alive_product (λ x. alive_empty (term_of sign x))

  pub starts_term : Starts (g.term o E) signs
  starts_term = starts_both (g.symbol sign_of) behind_term signs (starts_symbol sign_of)

  pub alive_sum : Begins (g.sum o E) []
  alive_sum = alive_chain (g.product o E) (g.term o E) tree.Sum alive_product

  starts_sum : Starts (g.sum o E) unary_firsts
  starts_sum = starts_chain (g.product o E) (g.term o E) tree.Sum unary_firsts starts_product

  -- ---- relations

  abbrev pub behind_comparison : ExprTree → Comparison → Lang ExprTree
  behind_comparison x operator = lang.◌>>=◌ (g.sum o E) (λ y. lang.empty (tree.Compare x operator y))

  pub alive_behind_comparison : (x : ExprTree) (operator : Comparison) → Begins (behind_comparison x operator) []
  alive_behind_comparison x operator = go alive_sum (λ y. alive_empty (tree.Compare x operator y))

  pub starts_compared : (x : ExprTree) → Starts (g.compared o E x) comparisons
  starts_compared x = starts_both (g.symbol comparison_of) (behind_comparison x) comparisons (starts_symbol comparison_of)

  pub starts_inside : Starts (g.inside o E) (only k.In)
  starts_inside = starts_one k.In (λ _. g.sum o E)

  abbrev pub behind_type : ExprTree → PathTree → Lang ExprTree
  behind_type x name = lang.◌>>=◌ (lang.optional (g.inside o E)) (λ y. lang.empty (is_in x name y))

  pub alive_behind_type : (x : ExprTree) (name : PathTree) → Begins (behind_type x name) []
  alive_behind_type x name = go (alive_maybe (g.inside o E)) (λ y. alive_empty (is_in x name y))

  abbrev pub typed_or_alone : ExprTree → Lang ExprTree
  typed_or_alone x = lang.◌or◌ (g.type_test o E x) (lang.empty x)

  abbrev pub like_or : ExprTree → Lang ExprTree
  like_or x = lang.◌or◌ (g.like o E x) (typed_or_alone x)

  abbrev pub test_tail : ExprTree → Lang ExprTree
  test_tail x = lang.◌or◌ (g.has o E x) (like_or x)

  abbrev pub related : ExprTree → Lang ExprTree
  related x = lang.◌or◌ (g.compared o E x) (test_tail x)

  pub alive_related : (x : ExprTree) → Begins (related x) []
  alive_related x =
      alive_right (g.compared o E x) (test_tail x) [] (alive_right (g.has o E x) (like_or x) []
      (alive_right (g.like o E x) (typed_or_alone x) [] (alive_right (g.type_test o E x) (lang.empty x) [] (alive_empty x))))

  pub alive_relation : Begins (g.relation o E) []
  alive_relation = go alive_sum alive_related

  starts_relation : Starts (g.relation o E) unary_firsts
  starts_relation = starts_both (g.sum o E) related unary_firsts starts_sum

  abbrev pub next_and : Lang ExprTree
  next_and = lang.◌>>◌ (lang.one k.And) (g.relation o E)

  pub alive_conjunction : Begins (g.conjunction o E) []
  alive_conjunction = alive_chain (g.relation o E) next_and tree.And alive_relation

  abbrev pub next_or : Lang ExprTree
  next_or = lang.◌>>◌ (lang.one k.Or) (g.conjunction o E)

  alive_disjunction : Begins (g.disjunction o E) []
  alive_disjunction = alive_chain (g.conjunction o E) next_or tree.Or alive_conjunction

  pub starts_disjunction : Starts (g.disjunction o E) unary_firsts
  starts_disjunction = starts_chain (g.conjunction o E) next_or tree.Or unary_firsts (starts_chain (g.relation o E) next_and tree.And unary_firsts starts_relation)

  -- ---- a level

  abbrev pub then_expr : Lang ExprTree
  then_expr = lang.◌>>◌ (lang.one k.Then) E

  abbrev pub else_expr : Lang ExprTree
  else_expr = lang.◌>>◌ (lang.one k.Else) E

  abbrev pub decided : ExprTree → ExprTree → Lang ExprTree
  decided test consequent = lang.◌>>=◌ else_expr (λ alternative. lang.empty (tree.If test consequent alternative))

  abbrev pub conditional_tail : ExprTree → Lang ExprTree
  conditional_tail test = lang.◌>>=◌ then_expr (decided test)

  abbrev pub behind_if : Lang ExprTree
  behind_if = lang.◌>>=◌ E conditional_tail

  pub alive_level : Begins (g.level o E) []
  alive_level = alive_right (lang.gate o (g.conditional o E)) (g.disjunction o E) [] alive_disjunction

  pub starts_conditional : Starts (g.conditional o E) (only k.If)
  starts_conditional = starts_one k.If (λ _. behind_if)

  pub starts_level : Starts (g.level o E) firsts
  unfolding same_kind
  starts_level =
      starts_or (lang.gate o (g.conditional o E)) (g.disjunction o E) firsts
      (starts_gate o (g.conditional o E) firsts (wide_starts (g.conditional o E) (only k.If) firsts refl starts_conditional))
      (wide_starts (g.disjunction o E) unary_firsts firsts refl starts_disjunction)

  -- ---- where the inner language derives something

  module _ (alive : Begins E []) where
    pub alive_decided : (test consequent : ExprTree) → Begins (decided test consequent) []
    alive_decided test consequent = go (go_one k.Else (λ _. alive)) (λ alternative. alive_empty (tree.If test consequent alternative))

    pub alive_tried : (test : ExprTree) → Begins (conditional_tail test) []
    alive_tried test = go (go_one k.Then (λ _. alive)) (alive_decided test)

    pub alive_behind_if : Begins behind_if []
    alive_behind_if = go alive alive_tried

    pub opening_conditional : Opening (g.conditional o E) (only k.If)
    opening_conditional = opening_one k.If (λ _. behind_if) (λ _. alive_behind_if)
