-- A reader of expressions stops for a token at no place at which an expression ends.
use Rattle.std.proofs.Common.{◌≡◌, inl, inr, ℕ, zero, suc, Bool, true, refl, arith}
use Rattle.grammar_syntax.specs.declared.token.TokenKind.{TokenKind}
use Rattle.grammar_syntax.specs.declared.token.TokenKind.TheVariants as k
use Rattle.grammar_syntax.specs.declared.name_trees.PathTree.{PathTree}
use Rattle.grammar_syntax.specs.declared.tree.Comparison.{Comparison}
use Rattle.grammar_syntax.specs.declared.tree.Sign.{Sign}
use Rattle.grammar_syntax.specs.declared.tree.ExprTree.{ExprTree}
use Rattle.grammar_syntax.specs.declared.tree.ExprTree.TheVariants as tree
use Rattle.grammar_syntax.specs.Kinds.{only, same_kind}
use Rattle.grammar_syntax.specs.Lang.{Lang}
use Rattle.grammar_syntax.specs.Lang as lang
use Rattle.grammar_parsing.specs.Expressions as g
use Rattle.grammar_parsing.specs.Expressions.{sign_of, comparison_of, patterns, signs, comparisons, is_in}
use Rattle.grammar_parsing.specs.Expressions.{is_positive}
use Rattle.grammar_syntax.specs.ParserCombinators.{Parser, ◌>>=◌, ◌>>◌, pure, token, optional}
use Rattle.grammar_parsing.specs.inner.Reading as r
use Rattle.grammar_syntax.proofs.Sets.{apart}
use Rattle.grammar_syntax.proofs.Rules.{Rule, Levels}
use Rattle.grammar_syntax.proofs.Forms.{Leads, of, nothing, leads_starts, leads_empty, leads_or}
use Rattle.grammar_syntax.proofs.Forms.{leads_both, leads_maybe, alive_empty, begin_of}
use Rattle.grammar_syntax.proofs.More.{maybe}
use Rattle.grammar_syntax.proofs.Steps.{none, seq, free, behind, go, leads_first, starts_one}
use Rattle.grammar_syntax.proofs.NameRules.{path_rule, alive_path}
use Rattle.grammar_syntax.proofs.NamesFirm.{firm_path}
use Rattle.grammar_syntax.proofs.Depths.{levels}
use Rattle.grammar_syntax.proofs.Openings.{opening_one, opening_then, giving}
use Rattle.grammar_syntax.proofs.Firm.{Firm, Fresh, solid_starts, fresh_opening, firm_free}
use Rattle.grammar_syntax.proofs.Firm.{firm_nothing, firm_same, firm_seq, firm_token, firm_giving}
use Rattle.grammar_syntax.proofs.Firm.{firm_or, firm_gated, firm_maybe}
use Rattle.grammar_parsing.proofs.Follows.{after_member, after_product, after_sum, after_relation, after_conjunction}
use Rattle.grammar_parsing.proofs.Follows.{after_expr}
use Rattle.grammar_parsing.proofs.AlivePrimaries.{primary_firsts, minus_firsts, unary_firsts, term_of}
use Rattle.grammar_parsing.proofs.SymbolRules.{symbol_rule, opening_symbol}
use Rattle.grammar_parsing.proofs.PrimaryRules.{Inner}
use Rattle.grammar_parsing.proofs.ExpressionRules.{not_or_minuses, same_unary, one_deeper, expr_rule, starts_expr}
use Rattle.grammar_parsing.proofs.ExpressionRules.{alive_expr}
use Rattle.grammar_parsing.proofs.PrimaryFirm.{firm_chain, firm_member}
use Rattle.grammar_parsing.proofs.AlivePrimaries as primaries
use Rattle.grammar_parsing.proofs.Alive as a
use Rattle.grammar_parsing.proofs.PrimaryRules as primary_rules
use Rattle.grammar_parsing.proofs.ExpressionRules as rules

module _ (o : Bool) (E : Lang ExprTree) (p : Parser ExprTree) (D : Levels) (i : Inner o o E E p p D) (inner : o ≡ true → Firm E p) where
  -- ---- operators

  -- a sign, and what stands behind it
  firm_sign : (sign : TokenKind) (make : ExprTree → ExprTree) (L : Lang ExprTree) (s : Parser ExprTree) → Rule L L s s after_member D → Firm L s → Firm (lang.◌>>◌ (lang.one sign) (lang.◌giving◌ L make)) (token sign >> (s >>= (λ x. pure (make x))))
  firm_sign sign make L s rule firm =
      firm_token sign after_member D (seq rule (λ x. nothing (make x) after_member D) (λ x. leads_empty (make x) after_member after_member refl) (λ x. alive_empty (make x))) (firm_giving rule after_member refl make firm)

  firm_signed : (sign : TokenKind) (make : ExprTree → ExprTree) → apart primary_firsts (only sign) ≡ true → (n : ℕ) → Firm (g.signed o E sign make n) (r.signed o p sign make n)
  unfolding r.signed
  firm_signed sign make apart zero = firm_member o E p D i inner
  firm_signed sign make apart (suc n) =
      firm_or (only sign) after_member (starts_one sign (λ _. a.behind_sign o E sign make n)) (leads_starts (g.member o E) primary_firsts (only sign) after_member (primaries.starts_member o E) apart)
      (firm_sign sign make (g.signed o E sign make n) (r.signed o p sign make n) (rules.signed_rule o o E E p p D i sign make apart n) (firm_signed sign make apart n))
      (firm_member o E p D i inner)
      (inr (solid_starts primary_firsts (primaries.starts_member o E)))

  firm_not_or_minuses : Firm (not_or_minuses o E) (r.unary o p)
  unfolding r.unary same_kind
  firm_not_or_minuses =
      firm_or (only k.Not) after_member (starts_one k.Not (λ _. a.behind_sign o E k.Not tree.Not 3)) (leads_starts (a.minuses o E) minus_firsts (only k.Not) after_member (a.starts_minuses o E) refl)
      (firm_sign k.Not tree.Not (g.signed o E k.Not tree.Not 3) (r.signed o p k.Not tree.Not 3) (rules.signed_rule o o E E p p D i k.Not tree.Not refl 3) (firm_signed k.Not tree.Not refl 3))
      (firm_signed k.Minus tree.Minus refl 4)
      (inr (solid_starts minus_firsts (a.starts_minuses o E)))

  firm_unary : Firm (g.unary o E) (r.unary o p)
  firm_unary = firm_same (same_unary o E) firm_not_or_minuses

  firm_factor : Firm (a.factor o E) (r.factor o p)
  unfolding r.factor
  firm_factor = firm_token k.Star after_member D (rules.unary_rule o o E E p p D i) firm_unary

  firm_product : Firm (g.product o E) (r.product o p)
  unfolding r.product r.factors same_kind
  firm_product =
      firm_chain (g.unary o E) _ (a.factor o E) _ tree.Product (only k.Star) after_member after_member after_product D refl refl refl refl refl refl
      (starts_one k.Star (λ _. g.unary o E)) (rules.unary_rule o o E E p p D i) (rules.factor_rule o o E E p p D i) firm_unary firm_factor
      (fresh_opening (rules.factor_rule o o E E p p D i) (opening_one k.Star (λ _. g.unary o E) (λ _. a.alive_unary o E)))

  term_made : (sign : Sign) → Rule (a.behind_term o E sign) (a.behind_term o E sign) (r.product o p >>= (λ x. pure (term_of sign x))) (r.product o p >>= (λ x. pure (term_of sign x))) after_product D
  term_made sign = seq (rules.product_rule o o E E p p D i) (λ x. nothing (term_of sign x) after_product D) (λ x. leads_empty (term_of sign x) after_product after_product refl) (λ x. alive_empty (term_of sign x))

  firm_term : Firm (g.term o E) (r.term o p)
  unfolding r.term
  firm_term =
      firm_seq (symbol_rule sign_of none D) term_made (λ sign. free _ after_product) (firm_free (symbol_rule sign_of none D))
      (λ sign. firm_giving (rules.product_rule o o E E p p D i) after_product refl (term_of sign) firm_product)

  firm_sum : Firm (g.sum o E) (r.sum o p)
  unfolding r.sum r.terms
  firm_sum =
      firm_chain (g.product o E) _ (g.term o E) _ tree.Sum signs after_product after_product after_sum D refl refl refl refl refl refl
      (a.starts_term o E) (rules.product_rule o o E E p p D i) (rules.term_rule o o E E p p D i) firm_product firm_term
      (fresh_opening (rules.term_rule o o E E p p D i) (opening_then (g.symbol sign_of) (a.behind_term o E) signs (opening_symbol sign_of) (a.alive_behind_term o E)))

  -- ---- relations

  compared_made : (x : ExprTree) (operator : Comparison) → Rule (a.behind_comparison o E x operator) (a.behind_comparison o E x operator) (r.sum o p >>= (λ y. pure (tree.Compare x operator y))) (r.sum o p >>= (λ y. pure (tree.Compare x operator y))) after_relation D
  compared_made x operator =
      seq (rules.sum_rule o o E E p p D i) (λ y. nothing (tree.Compare x operator y) after_relation D) (λ y. leads_empty (tree.Compare x operator y) after_sum after_relation refl) (λ y. alive_empty (tree.Compare x operator y))

  firm_compared : (x : ExprTree) → Firm (g.compared o E x) (r.compared o p x)
  unfolding r.compared
  firm_compared x =
      firm_seq (symbol_rule comparison_of none D) (compared_made x) (λ operator. free _ after_relation) (firm_free (symbol_rule comparison_of none D))
      (λ operator. firm_giving (rules.sum_rule o o E E p p D i) after_relation refl (tree.Compare x operator) firm_sum)

  firm_has : (x : ExprTree) → Firm (g.has o E x) (r.has o p x)
  unfolding r.has
  firm_has x = firm_free (behind k.Has none D (giving (λ name. tree.Has x name) none D (primary_rules.key_rule D)) (go primaries.alive_key (λ name. alive_empty (tree.Has x name))))

  firm_like : (x : ExprTree) → Firm (g.like o E x) (r.like o p x)
  unfolding r.like
  firm_like x = firm_free (behind k.Like none D (giving (λ text. tree.Like x text) none D (of patterns none D)) (go (begin_of patterns k.Text refl) (λ text. alive_empty (tree.Like x text))))

  firm_inside : Firm (g.inside o E) (r.inside o p)
  unfolding r.inside
  firm_inside = firm_token k.In after_sum D (rules.sum_rule o o E E p p D i) firm_sum

  fresh_inside : Fresh (only k.In) (r.inside o p)
  fresh_inside = fresh_opening (rules.inside_rule o o E E p p D i) (opening_one k.In (λ _. g.sum o E) (λ _. a.alive_sum o E))

  maybe_inside_rule : Rule (lang.optional (g.inside o E)) (lang.optional (g.inside o E)) (optional (only k.In) (r.inside o p)) (optional (only k.In) (r.inside o p)) after_relation D
  unfolding same_kind
  maybe_inside_rule = maybe (g.inside o E) (g.inside o E) _ _ (only k.In) after_sum after_relation D (rules.inside_rule o o E E p p D i) (a.starts_inside o E) refl refl

  typed_made : (x : ExprTree) (name : PathTree) → Rule (a.behind_type o E x name) (a.behind_type o E x name) (optional (only k.In) (r.inside o p) >>= (λ y. pure (is_in x name y))) (optional (only k.In) (r.inside o p) >>= (λ y. pure (is_in x name y))) after_relation D
  typed_made x name =
      seq maybe_inside_rule (λ y. nothing (is_in x name y) after_relation D) (λ y. leads_empty (is_in x name y) after_relation after_relation refl) (λ y. alive_empty (is_in x name y))

  leads_inside : (x : ExprTree) (name : PathTree) → Leads (a.behind_type o E x name) (only k.Colons) after_relation
  unfolding same_kind
  leads_inside x name =
      leads_both (lang.optional (g.inside o E)) (λ y. lang.empty (is_in x name y)) (only k.Colons) after_relation after_relation
      (leads_maybe (g.inside o E) (only k.In) (only k.Colons) after_relation (a.starts_inside o E) refl refl)
      (λ y. leads_empty (is_in x name y) after_relation after_relation refl)

  firm_typed : (x : ExprTree) → Firm (g.type_test o E x) (r.type_test o p x)
  unfolding r.type_test r.maybe_inside same_kind
  firm_typed x =
      firm_token k.Is after_relation D (seq (path_rule D) (typed_made x) (leads_inside x) (a.alive_behind_type o E x))
      (firm_seq (path_rule D) (typed_made x) (leads_inside x) (firm_path D) (λ name. firm_giving maybe_inside_rule after_relation refl (is_in x name) (firm_maybe firm_inside fresh_inside)))

  fresh_has : (x : ExprTree) → Fresh (only k.Has) (r.has o p x)
  fresh_has x = fresh_opening (rules.has_rule o o E E p p D i x) (opening_one k.Has _ (λ _. go primaries.alive_key (λ name. alive_empty (tree.Has x name))))

  fresh_like : (x : ExprTree) → Fresh (only k.Like) (r.like o p x)
  fresh_like x = fresh_opening (rules.like_rule o o E E p p D i x) (opening_one k.Like _ (λ _. go (begin_of patterns k.Text refl) (λ text. alive_empty (tree.Like x text))))

  fresh_typed : (x : ExprTree) → Fresh (only k.Is) (r.type_test o p x)
  fresh_typed x = fresh_opening (rules.typed_rule o o E E p p D i x) (opening_one k.Is _ (λ _. go alive_path (a.alive_behind_type o E x)))

  firm_tested : (x : ExprTree) → Firm (a.test_tail o E x) (r.test_tail o p x)
  unfolding r.test_tail same_kind
  firm_tested x =
      firm_or (only k.Has) after_relation (starts_one k.Has _) (rules.leads_like o o E E p p D i x (only k.Has) refl refl refl) (firm_has x)
      (firm_or (only k.Like) after_relation (starts_one k.Like _) (rules.leads_typed o o E E p p D i x (only k.Like) refl refl) (firm_like x)
      (firm_or (only k.Is) after_relation (starts_one k.Is _) (leads_empty x (only k.Is) after_relation refl) (firm_typed x) (firm_nothing x) (inl (fresh_typed x)))
      (inl (fresh_like x)))
      (inl (fresh_has x))

  firm_related : (x : ExprTree) → Firm (a.related o E x) (r.related o p x)
  unfolding r.related same_kind
  firm_related x =
      firm_or comparisons after_relation (a.starts_compared o E x) (rules.leads_tested o o E E p p D i x comparisons refl refl refl refl) (firm_compared x) (firm_tested x)
      (inl (fresh_opening (rules.compared_rule o o E E p p D i x) (opening_then (g.symbol comparison_of) (a.behind_comparison o E x) comparisons (opening_symbol comparison_of) (a.alive_behind_comparison o E x))))

  firm_relation : Firm (g.relation o E) (r.relation o p)
  unfolding r.relation same_kind
  firm_relation =
      firm_seq (rules.sum_rule o o E E p p D i) (rules.related_rule o o E E p p D i)
      (λ x. leads_or (g.compared o E x) (a.test_tail o E x) after_sum after_relation
      (leads_starts (g.compared o E x) comparisons after_sum after_relation (a.starts_compared o E x) refl) (rules.leads_tested o o E E p p D i x after_sum refl refl refl refl))
      firm_sum firm_related

  firm_next_and : Firm (a.next_and o E) (r.next_and o p)
  unfolding r.next_and
  firm_next_and = firm_token k.And after_relation D (rules.relation_rule o o E E p p D i) firm_relation

  firm_conjunction : Firm (g.conjunction o E) (r.conjunction o p)
  unfolding r.conjunction r.ands same_kind
  firm_conjunction =
      firm_chain (g.relation o E) _ (a.next_and o E) _ tree.And (only k.And) after_relation after_relation after_conjunction D refl refl refl refl refl refl
      (starts_one k.And (λ _. g.relation o E)) (rules.relation_rule o o E E p p D i) (rules.next_and_rule o o E E p p D i) firm_relation firm_next_and
      (fresh_opening (rules.next_and_rule o o E E p p D i) (opening_one k.And (λ _. g.relation o E) (λ _. a.alive_relation o E)))

  firm_next_or : Firm (a.next_or o E) (r.next_or o p)
  unfolding r.next_or
  firm_next_or = firm_token k.Or after_conjunction D (rules.conjunction_rule o o E E p p D i) firm_conjunction

  firm_disjunction : Firm (g.disjunction o E) (r.disjunction o p)
  unfolding r.disjunction r.ors same_kind
  firm_disjunction =
      firm_chain (g.conjunction o E) _ (a.next_or o E) _ tree.Or (only k.Or) after_conjunction after_conjunction after_expr D refl refl refl refl refl refl
      (starts_one k.Or (λ _. g.conjunction o E)) (rules.conjunction_rule o o E E p p D i) (rules.next_or_rule o o E E p p D i) firm_conjunction firm_next_or
      (fresh_opening (rules.next_or_rule o o E E p p D i) (opening_one k.Or (λ _. g.conjunction o E) (λ _. a.alive_conjunction o E)))

  -- ---- a level

  firm_consequent : o ≡ true → Firm (a.then_expr o E) (r.consequent o p)
  firm_consequent h = firm_token k.Then after_expr D (i.rule h) (inner h)

  firm_alternative : o ≡ true → Firm (a.else_expr o E) (r.alternative o p)
  firm_alternative h = firm_token k.Else after_expr D (i.rule h) (inner h)

  firm_decided : o ≡ true → (test consequent : ExprTree) → Firm (a.decided o E test consequent) (r.decided o p test consequent)
  unfolding r.decided
  firm_decided h test consequent = firm_giving (rules.alternative_rule o o E E p p D i h) after_expr refl (tree.If test consequent) (firm_alternative h)

  firm_tried : o ≡ true → (test : ExprTree) → Firm (a.conditional_tail o E test) (r.conditional_tail o p test)
  unfolding r.conditional_tail same_kind
  firm_tried h test =
      firm_seq (rules.consequent_rule o o E E p p D i h) (rules.decided_rule o o E E p p D i h test) (λ consequent. leads_first (only k.Else) after_expr after_expr (starts_one k.Else (λ _. E)) refl)
      (firm_consequent h) (firm_decided h test)

  leads_then : (test : ExprTree) → Leads (a.conditional_tail o E test) after_expr after_expr
  unfolding same_kind
  leads_then test = leads_first (only k.Then) after_expr after_expr (starts_one k.Then (λ _. E)) refl

  firm_conditional : o ≡ true → Firm (g.conditional o E) (r.conditional o p)
  unfolding r.conditional same_kind
  firm_conditional h =
      firm_token k.If after_expr D (seq (i.rule h) (rules.tried_rule o o E E p p D i h) leads_then (a.alive_tried o E (i.alive h)))
      (firm_seq (i.rule h) (rules.tried_rule o o E E p p D i h) leads_then (inner h) (firm_tried h))

  pub firm_level : Firm (g.level o E) (r.level o p)
  unfolding r.level same_kind
  firm_level =
      firm_gated o (only k.If) after_expr (a.starts_conditional o E) (leads_starts (g.disjunction o E) unary_firsts (only k.If) after_expr (a.starts_disjunction o E) refl)
      firm_conditional firm_disjunction (λ h. inr (solid_starts unary_firsts (a.starts_disjunction o E)))

-- with n levels of nesting
pub firm_expr : (n : ℕ) → is_positive n ≡ true → Firm (g.expr n) (r.expr n)
unfolding g.expr r.expr
firm_expr zero h = absurd (cc)
firm_expr (suc n) h =
    firm_level (is_positive n) (g.expr n) (r.expr n) (levels (suc n) (suc n))
    (record {
      rule = λ e. one_deeper n n (expr_rule n n (omega arith) e);
      starts = starts_expr n;
      alive = alive_expr n;
      wide = λ e. e;
      alike = λ e. refl;
      deeper = λ d. absurd (omega (arith, d));
      wide_alive = alive_expr n;
    })
    (firm_expr n)
