-- Expressions are read exactly, at each depth of nesting: operators, relations and levels.
use Rattle.std.proofs.Common.{◌≡◌, inl, inr, ℕ, zero, suc, ◌≤◌, ◌<◌, Bool, true, List, [], refl, ap, arith}
use Rattle.grammar_syntax.specs.declared.token.Token.{Token}
use Rattle.grammar_syntax.specs.declared.token.TokenKind.{TokenKind}
use Rattle.grammar_syntax.specs.declared.token.TokenKind.TheVariants as k
use Rattle.grammar_syntax.specs.declared.tree.ExprTree.{ExprTree}
use Rattle.grammar_syntax.specs.declared.tree.ExprTree.TheVariants as tree
use Rattle.grammar_syntax.specs.Kinds.{Kinds, only, same_kind}
use Rattle.grammar_syntax.specs.Lang.{Lang}
use Rattle.grammar_syntax.specs.Lang as lang
use Rattle.grammar_parsing.specs.Expressions as g
use Rattle.grammar_parsing.specs.Expressions.{sign_of, comparison_of, patterns, signs, comparisons, is_in}
use Rattle.grammar_parsing.specs.Expressions.{is_positive}
use Rattle.grammar_syntax.specs.ParserCombinators.{Parser, StopReason, Unexpected, TooDeep, ◌>>◌}
use Rattle.grammar_parsing.specs.inner.Reading as r
use Rattle.grammar_parsing.specs.inner.Reading.{firsts}
use Rattle.grammar_syntax.specs.ParseResults.{Begins}
use Rattle.grammar_syntax.proofs.Sets.{apart, within}
use Rattle.grammar_syntax.proofs.Rules.{Rule, Levels, Keeps}
use Rattle.grammar_syntax.proofs.Forms.{Starts, Leads, of, nothing, or, leads_starts, leads_empty}
use Rattle.grammar_syntax.proofs.Forms.{leads_or, leads_both, leads_maybe, alive_empty, begin_of}
use Rattle.grammar_syntax.proofs.More.{same, Same, maybe, gated}
use Rattle.grammar_syntax.proofs.Steps.{none, seq, free, behind, go, leads_first, leads_one}
use Rattle.grammar_syntax.proofs.Steps.{starts_one}
use Rattle.grammar_syntax.proofs.NameRules.{path_rule, alive_path}
use Rattle.grammar_syntax.proofs.Depths.{levels}
use Rattle.grammar_syntax.proofs.Openings.{giving, opening_gate}
use Rattle.grammar_parsing.proofs.Follows.{after_member, after_product, after_sum, after_relation, after_conjunction}
use Rattle.grammar_parsing.proofs.Follows.{after_expr}
use Rattle.grammar_parsing.proofs.SymbolRules.{symbol_rule}
use Rattle.grammar_parsing.proofs.AlivePrimaries.{primary_firsts, minus_firsts, unary_firsts, term_of}
use Rattle.grammar_parsing.proofs.PrimaryRules.{Inner, chain, key_rule, member_rule}
use Rattle.grammar_parsing.proofs.AlivePrimaries as primaries
use Rattle.grammar_parsing.proofs.Alive as a

module _ (o o' : Bool) (E F : Lang ExprTree) (p q : Parser ExprTree) (D : Levels) (i : Inner o o' E F p q D) where
  -- ---- operators

  pub signed_rule : (sign : TokenKind) (make : ExprTree → ExprTree) → apart primary_firsts (only sign) ≡ true → (n : ℕ) → Rule (g.signed o E sign make n) (g.signed o' F sign make n) (r.signed o p sign make n) (r.signed o' q sign make n) after_member D
  unfolding r.signed
  signed_rule sign make apart zero = member_rule o o' E F p q D i
  signed_rule sign make apart (suc n) =
      or (lang.◌>>◌ (lang.one sign) (a.behind_sign o E sign make n)) (lang.◌>>◌ (lang.one sign) (a.behind_sign o' F sign make n)) (g.member o E) (g.member o' F) _ _ _ _ (only sign) after_member D
      (behind sign after_member D
      (seq (signed_rule sign make apart n) (λ x. nothing (make x) after_member D) (λ x. leads_empty (make x) after_member after_member refl) (λ x. alive_empty (make x)))
      (a.alive_behind_sign o E sign make n))
      (member_rule o o' E F p q D i)
      (starts_one sign (λ _. a.behind_sign o E sign make n))
      (leads_starts (g.member o E) primary_firsts (only sign) after_member (primaries.starts_member o E) apart)

-- the first sign tells the one production from the other
abbrev nots : Bool → Lang ExprTree → Lang ExprTree
nots o E = lang.◌>>◌ (lang.one k.Not) (a.behind_sign o E k.Not tree.Not 3)

abbrev pub not_or_minuses : Bool → Lang ExprTree → Lang ExprTree
not_or_minuses o E = lang.◌or◌ (nots o E) (a.minuses o E)

to_unary : (o : Bool) (E : Lang ExprTree) (ts : List Token) (x : ExprTree) → not_or_minuses o E ts x → g.unary o E ts x
to_unary o E ts x (inl d) = inl (inl d)
to_unary o E ts x (inr d) = inr d

from_unary : (o : Bool) (E : Lang ExprTree) (ts : List Token) (x : ExprTree) → g.unary o E ts x → not_or_minuses o E ts x
from_unary o E ts x (inl (inl d)) = inl d
from_unary o E ts x (inl (inr d)) = inr (inr d)
from_unary o E ts x (inr d) = inr d

pub same_unary : (o : Bool) (E : Lang ExprTree) → Same (not_or_minuses o E) (g.unary o E)
same_unary o E = record { to = to_unary o E; from = from_unary o E }

module _ (o o' : Bool) (E F : Lang ExprTree) (p q : Parser ExprTree) (D : Levels) (i : Inner o o' E F p q D) where
  not_or_minuses_rule : Rule (not_or_minuses o E) (not_or_minuses o' F) (r.unary o p) (r.unary o' q) after_member D
  unfolding r.unary same_kind
  not_or_minuses_rule =
      or (nots o E) (nots o' F) (a.minuses o E) (a.minuses o' F) _ _ _ _ (only k.Not) after_member D
      (behind k.Not after_member D
      (seq (signed_rule o o' E F p q D i k.Not tree.Not refl 3) (λ x. nothing (tree.Not x) after_member D) (λ x. leads_empty (tree.Not x) after_member after_member refl) (λ x. alive_empty (tree.Not x)))
      (a.alive_behind_sign o E k.Not tree.Not 3))
      (signed_rule o o' E F p q D i k.Minus tree.Minus refl 4)
      (starts_one k.Not (λ _. a.behind_sign o E k.Not tree.Not 3))
      (leads_starts (a.minuses o E) minus_firsts (only k.Not) after_member (a.starts_minuses o E) refl)

  pub unary_rule : Rule (g.unary o E) (g.unary o' F) (r.unary o p) (r.unary o' q) after_member D
  unary_rule = same (not_or_minuses o E) (g.unary o E) (not_or_minuses o' F) (g.unary o' F) (r.unary o p) (r.unary o' q) after_member D (same_unary o E) (same_unary o' F) not_or_minuses_rule

  pub factor_rule : Rule (a.factor o E) (a.factor o' F) (r.factor o p) (r.factor o' q) after_member D
  unfolding r.factor
  factor_rule = behind k.Star after_member D unary_rule (a.alive_unary o E)

  pub product_rule : Rule (g.product o E) (g.product o' F) (r.product o p) (r.product o' q) after_product D
  unfolding r.product r.factors same_kind
  product_rule =
      chain (g.unary o E) (g.unary o' F) _ _ (a.factor o E) (a.factor o' F) _ _ tree.Product (only k.Star) after_member after_member after_product D refl refl refl refl refl refl
      (starts_one k.Star (λ _. g.unary o E)) unary_rule factor_rule

  pub term_rule : Rule (g.term o E) (g.term o' F) (r.term o p) (r.term o' q) after_product D
  unfolding r.term
  term_rule =
      seq (symbol_rule sign_of none D)
      (λ sign. seq product_rule (λ x. nothing (term_of sign x) after_product D) (λ x. leads_empty (term_of sign x) after_product after_product refl) (λ x. alive_empty (term_of sign x)))
      (λ sign. free _ after_product)
      (a.alive_behind_term o E)

  pub sum_rule : Rule (g.sum o E) (g.sum o' F) (r.sum o p) (r.sum o' q) after_sum D
  unfolding r.sum r.terms
  sum_rule =
      chain (g.product o E) (g.product o' F) _ _ (g.term o E) (g.term o' F) _ _ tree.Sum signs after_product after_product after_sum D refl refl refl refl refl refl
      (a.starts_term o E) product_rule term_rule

  -- ---- relations

  pub compared_rule : (x : ExprTree) → Rule (g.compared o E x) (g.compared o' F x) (r.compared o p x) (r.compared o' q x) after_relation D
  unfolding r.compared
  compared_rule x =
      seq (symbol_rule comparison_of none D)
      (λ operator. seq sum_rule (λ y. nothing (tree.Compare x operator y) after_relation D) (λ y. leads_empty (tree.Compare x operator y) after_sum after_relation refl) (λ y. alive_empty (tree.Compare x operator y)))
      (λ operator. free _ after_relation)
      (a.alive_behind_comparison o E x)

  pub has_rule : (x : ExprTree) → Rule (g.has o E x) (g.has o' F x) (r.has o p x) (r.has o' q x) after_relation D
  unfolding r.has
  has_rule x = behind k.Has after_relation D (giving (λ name. tree.Has x name) after_relation D (key_rule D)) (go primaries.alive_key (λ name. alive_empty (tree.Has x name)))

  pub like_rule : (x : ExprTree) → Rule (g.like o E x) (g.like o' F x) (r.like o p x) (r.like o' q x) after_relation D
  unfolding r.like
  like_rule x = behind k.Like after_relation D (giving (λ text. tree.Like x text) after_relation D (of patterns none D)) (go (begin_of patterns k.Text refl) (λ text. alive_empty (tree.Like x text)))

  pub inside_rule : Rule (g.inside o E) (g.inside o' F) (r.inside o p) (r.inside o' q) after_sum D
  unfolding r.inside
  inside_rule = behind k.In after_sum D sum_rule (a.alive_sum o E)

  pub typed_rule : (x : ExprTree) → Rule (g.type_test o E x) (g.type_test o' F x) (r.type_test o p x) (r.type_test o' q x) after_relation D
  unfolding r.type_test r.maybe_inside same_kind
  typed_rule x =
      behind k.Is after_relation D
      (seq (path_rule D)
      (λ name. seq (maybe (g.inside o E) (g.inside o' F) _ _ (only k.In) after_sum after_relation D inside_rule (a.starts_inside o E) refl refl)
      (λ y. nothing (is_in x name y) after_relation D) (λ y. leads_empty (is_in x name y) after_relation after_relation refl) (λ y. alive_empty (is_in x name y)))
      (λ name. leads_both (lang.optional (g.inside o E)) (λ y. lang.empty (is_in x name y)) (only k.Colons) after_relation after_relation
      (leads_maybe (g.inside o E) (only k.In) (only k.Colons) after_relation (a.starts_inside o E) refl refl)
      (λ y. leads_empty (is_in x name y) after_relation after_relation refl))
      (a.alive_behind_type o E x))
      (go alive_path (a.alive_behind_type o E x))

  pub leads_typed : (x : ExprTree) (ks : Kinds) → apart (only k.Is) ks ≡ true → within ks after_relation ≡ true → Leads (a.typed_or_alone o E x) ks after_relation
  leads_typed x ks is w = leads_or (g.type_test o E x) (lang.empty x) ks after_relation (leads_one k.Is ks after_relation is) (leads_empty x ks after_relation w)

  pub leads_like : (x : ExprTree) (ks : Kinds) → apart (only k.Like) ks ≡ true → apart (only k.Is) ks ≡ true → within ks after_relation ≡ true → Leads (a.like_or o E x) ks after_relation
  leads_like x ks like is w = leads_or (g.like o E x) (a.typed_or_alone o E x) ks after_relation (leads_one k.Like ks after_relation like) (leads_typed x ks is w)

  pub leads_tested : (x : ExprTree) (ks : Kinds) → apart (only k.Has) ks ≡ true → apart (only k.Like) ks ≡ true → apart (only k.Is) ks ≡ true → within ks after_relation ≡ true → Leads (a.test_tail o E x) ks after_relation
  leads_tested x ks has like is w = leads_or (g.has o E x) (a.like_or o E x) ks after_relation (leads_one k.Has ks after_relation has) (leads_like x ks like is w)

  tested_rule : (x : ExprTree) → Rule (a.test_tail o E x) (a.test_tail o' F x) (r.test_tail o p x) (r.test_tail o' q x) after_relation D
  unfolding r.test_tail same_kind
  tested_rule x =
      or (g.has o E x) (g.has o' F x) (a.like_or o E x) (a.like_or o' F x) _ _ _ _ (only k.Has) after_relation D (has_rule x)
      (or (g.like o E x) (g.like o' F x) (a.typed_or_alone o E x) (a.typed_or_alone o' F x) _ _ _ _ (only k.Like) after_relation D (like_rule x)
      (or (g.type_test o E x) (g.type_test o' F x) (lang.empty x) (lang.empty x) _ _ _ _ (only k.Is) after_relation D (typed_rule x) (nothing x after_relation D)
      (starts_one k.Is _) (leads_empty x (only k.Is) after_relation refl))
      (starts_one k.Like _) (leads_typed x (only k.Like) refl refl))
      (starts_one k.Has _) (leads_like x (only k.Has) refl refl refl)

  pub related_rule : (x : ExprTree) → Rule (a.related o E x) (a.related o' F x) (r.related o p x) (r.related o' q x) after_relation D
  unfolding r.related same_kind
  related_rule x =
      or (g.compared o E x) (g.compared o' F x) (a.test_tail o E x) (a.test_tail o' F x) _ _ _ _ comparisons after_relation D (compared_rule x) (tested_rule x)
      (a.starts_compared o E x) (leads_tested x comparisons refl refl refl refl)

  pub relation_rule : Rule (g.relation o E) (g.relation o' F) (r.relation o p) (r.relation o' q) after_relation D
  unfolding r.relation same_kind
  relation_rule =
      seq sum_rule related_rule
      (λ x. leads_or (g.compared o E x) (a.test_tail o E x) after_sum after_relation
      (leads_starts (g.compared o E x) comparisons after_sum after_relation (a.starts_compared o E x) refl) (leads_tested x after_sum refl refl refl refl))
      (a.alive_related o E)

  pub next_and_rule : Rule (a.next_and o E) (a.next_and o' F) (r.next_and o p) (r.next_and o' q) after_relation D
  unfolding r.next_and
  next_and_rule = behind k.And after_relation D relation_rule (a.alive_relation o E)

  pub conjunction_rule : Rule (g.conjunction o E) (g.conjunction o' F) (r.conjunction o p) (r.conjunction o' q) after_conjunction D
  unfolding r.conjunction r.ands same_kind
  conjunction_rule =
      chain (g.relation o E) (g.relation o' F) _ _ (a.next_and o E) (a.next_and o' F) _ _ tree.And (only k.And) after_relation after_relation after_conjunction D refl refl refl refl refl refl
      (starts_one k.And (λ _. g.relation o E)) relation_rule next_and_rule

  pub next_or_rule : Rule (a.next_or o E) (a.next_or o' F) (r.next_or o p) (r.next_or o' q) after_conjunction D
  unfolding r.next_or
  next_or_rule = behind k.Or after_conjunction D conjunction_rule (a.alive_conjunction o E)

  disjunction_rule : Rule (g.disjunction o E) (g.disjunction o' F) (r.disjunction o p) (r.disjunction o' q) after_expr D
  unfolding r.disjunction r.ors same_kind
  disjunction_rule =
      chain (g.conjunction o E) (g.conjunction o' F) _ _ (a.next_or o E) (a.next_or o' F) _ _ tree.Or (only k.Or) after_conjunction after_conjunction after_expr D refl refl refl refl refl refl
      (starts_one k.Or (λ _. g.conjunction o E)) conjunction_rule next_or_rule

  -- ---- a level

  pub consequent_rule : o ≡ true → Rule (a.then_expr o E) (a.then_expr o' F) (r.consequent o p) (r.consequent o' q) after_expr D
  consequent_rule h = behind k.Then after_expr D (i.rule h) (i.alive h)

  pub alternative_rule : o ≡ true → Rule (a.else_expr o E) (a.else_expr o' F) (r.alternative o p) (r.alternative o' q) after_expr D
  alternative_rule h = behind k.Else after_expr D (i.rule h) (i.alive h)

  pub decided_rule : o ≡ true → (test consequent : ExprTree) → Rule (a.decided o E test consequent) (a.decided o' F test consequent) (r.decided o p test consequent) (r.decided o' q test consequent) after_expr D
  unfolding r.decided
  decided_rule h test consequent =
      seq (alternative_rule h) (λ alternative. nothing (tree.If test consequent alternative) after_expr D) (λ alternative. leads_empty (tree.If test consequent alternative) after_expr after_expr refl)
      (λ alternative. alive_empty (tree.If test consequent alternative))

  pub tried_rule : o ≡ true → (test : ExprTree) → Rule (a.conditional_tail o E test) (a.conditional_tail o' F test) (r.conditional_tail o p test) (r.conditional_tail o' q test) after_expr D
  unfolding r.conditional_tail same_kind
  tried_rule h test =
      seq (consequent_rule h) (decided_rule h test) (λ consequent. leads_first (only k.Else) after_expr after_expr (starts_one k.Else (λ _. E)) refl) (a.alive_decided o E (i.alive h) test)

  conditional_rule : o ≡ true → Rule (g.conditional o E) (g.conditional o' F) (r.conditional o p) (r.conditional o' q) after_expr D
  unfolding r.conditional same_kind
  conditional_rule h =
      behind k.If after_expr D
      (seq (i.rule h) (tried_rule h) (λ test. leads_first (only k.Then) after_expr after_expr (starts_one k.Then (λ _. E)) refl) (a.alive_tried o E (i.alive h)))
      (a.alive_behind_if o E (i.alive h))

  level_rule : Rule (g.level o E) (g.level o' F) (r.level o p) (r.level o' q) after_expr D
  unfolding r.level same_kind
  level_rule =
      gated o o' (g.conditional o E) (g.conditional o' F) (g.disjunction o E) (g.disjunction o' F) _ _ _ _ (only k.If) after_expr D i.wide conditional_rule disjunction_rule
      (a.starts_conditional o E)
      (leads_starts (g.disjunction o E) unary_firsts (only k.If) after_expr (a.starts_disjunction o E) refl)
      (λ d. opening_gate o' (g.conditional o' F) (only k.If) (i.deeper d) (a.opening_conditional o' F (i.wide_alive (i.deeper d))))
      i.alike

-- ---- expressions

pub starts_expr : (n : ℕ) → is_positive n ≡ true → Starts (g.expr n) firsts
unfolding g.expr
starts_expr zero h = absurd (cc)
starts_expr (suc n) h = a.starts_level (is_positive n) (g.expr n)

pub alive_expr : (n : ℕ) → is_positive n ≡ true → Begins (g.expr n) []
unfolding g.expr
alive_expr zero h = absurd (cc)
alive_expr (suc n) h = a.alive_level (is_positive n) (g.expr n)

grows : (n m : ℕ) → n ≤ m → is_positive n ≡ true → is_positive m ≡ true
grows zero m le h = absurd (cc)
grows (suc n) zero le h = absurd (omega (arith, le))
grows (suc n) (suc m) le h = refl

positive : (n m : ℕ) → n < m → is_positive m ≡ true
positive n zero h = absurd (omega (arith, h))
positive n (suc m) h = refl

keeps_deeper : (n m : ℕ) (w : StopReason) → Keeps (suc n ≡ suc m) w → Keeps (n ≡ m) w
keeps_deeper n m Unexpected h = tt
keeps_deeper n m TooDeep h = omega (arith, h)

positive_same : (n m : ℕ) → n ≡ m → is_positive n ≡ is_positive m
positive_same n m h = ap is_positive h

pub one_deeper : (n m : ℕ) → Rule (g.expr n) (g.expr m) (r.expr n) (r.expr m) after_expr (levels n m) → Rule (g.expr n) (g.expr m) (r.expr n) (r.expr m) after_expr (levels (suc n) (suc m))
one_deeper n m rule = record {
  sound = rule.sound;
  complete = rule.complete;
  viable = rule.viable;
  wider = rule.wider;
  local = record { read = rule.local.read; stop = λ w keeps. rule.local.stop w (keeps_deeper n m w keeps) };
  deep = λ d. rule.deep (omega (arith, d));
}

-- with n levels of nesting, and with m
pub expr_rule : (n m : ℕ) → n ≤ m → is_positive n ≡ true → Rule (g.expr n) (g.expr m) (r.expr n) (r.expr m) after_expr (levels n m)
unfolding g.expr r.expr
expr_rule zero m le h = absurd (cc)
expr_rule (suc n) zero le h = absurd (omega (arith, le))
expr_rule (suc n) (suc m) le h =
    level_rule (is_positive n) (is_positive m) (g.expr n) (g.expr m) (r.expr n) (r.expr m) (levels (suc n) (suc m))
    (record {
      rule = λ e. one_deeper n m (expr_rule n m (omega (arith, le)) e);
      starts = starts_expr n;
      alive = alive_expr n;
      wide = grows n m (omega (arith, le));
      alike = λ e. positive_same n m (omega (arith, e));
      deeper = λ d. positive n m (omega (arith, d));
      wide_alive = alive_expr m;
    })
