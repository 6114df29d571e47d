-- The rules of annotations, of conditions and of policies, over those of a scope.
use Rattle.std.proofs.Common.{◌≡◌, ℕ, suc, ◌≤◌, true, false, List, [], ◌∷◌, ◌++◌, Option, None, refl, ap, ◌∙◌}
use Rattle.std.proofs.Common.{append_assoc, arith}
use Rattle.grammar_syntax.specs.declared.token.Token.{Token}
use Rattle.grammar_syntax.specs.declared.token.TokenKind.TheVariants as k
use Rattle.grammar_parsing.specs.declared.tree.Annotation.{Annotation}
use Rattle.grammar_parsing.specs.declared.tree.ScopeTree.{ScopeTree}
use Rattle.grammar_syntax.specs.declared.tree.ExprTree.{ExprTree}
use Rattle.grammar_parsing.specs.declared.tree.Condition.{Condition}
use Rattle.grammar_parsing.specs.declared.tree.ConditionWord.{ConditionWord}
use Rattle.grammar_parsing.specs.declared.tree.PolicyTree.{PolicyTree}
use Rattle.grammar_syntax.specs.Kinds.{Kinds, only, same_kind}
use Rattle.grammar_syntax.specs.Lang.{Lang}
use Rattle.grammar_syntax.specs.Lang as lang
use Rattle.grammar_parsing.specs.Grammar as g
use Rattle.grammar_parsing.specs.Grammar.{words, effects, condition_word_of, condition_words}
use Rattle.grammar_parsing.specs.Expressions.{expr, symbol}
use Rattle.grammar_parsing.specs.inner.Reading as expressions
use Rattle.grammar_parsing.proofs.Published.{after_expr, expr_rule, alive_expr, starts_symbol, symbol_rule}
use Rattle.grammar_syntax.proofs.Depths.{levels}
use Rattle.grammar_syntax.specs.ParseResults.{Begins, sees}
use Rattle.grammar_syntax.specs.ParserCombinators.{pure, ◌>>=◌}
use Rattle.grammar_parsing.specs.inner.Parsing as r
use Rattle.grammar_parsing.specs.inner.Parsing.{policy_firsts}
use Rattle.grammar_syntax.proofs.Sets.{wide_sees, sees-append}
use Rattle.grammar_syntax.proofs.Rules.{Rule, Levels}
use Rattle.grammar_syntax.proofs.Forms.{Starts, of, one, nothing, or, starts_of, starts_both}
use Rattle.grammar_syntax.proofs.Forms.{leads_empty, alive_empty, alive_right, begin_of}
use Rattle.grammar_syntax.proofs.More.{maybe}
use Rattle.grammar_syntax.proofs.Many.{each, alive_many}
use Rattle.grammar_syntax.proofs.Steps.{none, seq, free, behind, go, go_one, alive_maybe}
use Rattle.grammar_syntax.proofs.Steps.{leads_first, leads_one, starts_one}
use Rattle.grammar_parsing.proofs.ScopeRules.{after_part, alive_scope, scope_rule}

-- ---- annotations

abbrev after_annotation : Kinds
after_annotation = only k.LParen

abbrev value_or_none : Lang (Option Token)
value_or_none = lang.◌or◌ g.annotation_value (lang.empty None)

alive_behind_text : (text : Option Token) → Begins (lang.◌>>◌ (lang.one k.RParen) (lang.empty text)) []
alive_behind_text text = go_one k.RParen (λ _. alive_empty text)

alive_value : Begins value_or_none []
alive_value = alive_right g.annotation_value (lang.empty None) [] (alive_empty None)

pub alive_annotation : Begins g.annotation []
alive_annotation = go_one k.At (λ at. go (begin_of words k.Ident refl) (λ key. go alive_value (λ value. alive_empty (record { at = at; key = key; value = value }))))

abbrev after_text : Kinds
after_text = only k.Text

module _ (D : Levels) where
  value_rule : Rule g.annotation_value g.annotation_value r.annotation_value r.annotation_value after_annotation D
  unfolding r.annotation_value r.maybe_text same_kind
  value_rule =
      behind k.LParen after_annotation D
      (seq (maybe (lang.one k.Text) (lang.one k.Text) _ _ (only k.Text) none after_text D (one k.Text none D) (starts_of (only k.Text)) refl refl)
      (λ text. behind k.RParen after_annotation D (nothing text after_annotation D) (alive_empty text))
      (λ text. leads_one k.RParen after_text after_annotation refl)
      alive_behind_text)
      (go (alive_maybe (lang.one k.Text)) alive_behind_text)

  annotation_rule : Rule g.annotation g.annotation r.annotation r.annotation after_annotation D
  unfolding r.annotation r.maybe_value same_kind
  annotation_rule =
      seq (one k.At none D)
      (λ at. seq (of words none D)
      (λ key. seq (or g.annotation_value g.annotation_value (lang.empty None) (lang.empty None) r.annotation_value r.annotation_value (pure None) (pure None) (only k.LParen) after_annotation D
      value_rule (nothing None after_annotation D) (starts_one k.LParen _) (leads_empty None (only k.LParen) after_annotation refl))
      (λ value. nothing (record { at = at; key = key; value = value }) after_annotation D)
      (λ value. leads_empty (record { at = at; key = key; value = value }) after_annotation after_annotation refl)
      (λ value. alive_empty (record { at = at; key = key; value = value })))
      (λ key. free _ after_annotation)
      (λ key. go alive_value (λ value. alive_empty (record { at = at; key = key; value = value }))))
      (λ at. free _ after_annotation)
      (λ at. go (begin_of words k.Ident refl) (λ key. go alive_value (λ value. alive_empty (record { at = at; key = key; value = value }))))

-- ---- policies

starts_annotation : Starts g.annotation (only k.At)
starts_annotation = starts_one k.At _

abbrev after_annotations : Kinds
after_annotations k.At = true
after_annotations k.LParen = true
after_annotations _ = false

abbrev condition_made : ConditionWord → ExprTree → Condition
condition_made word x = record { word = word; expression = x }

abbrev policy_made : List Annotation → Token → ScopeTree → List Condition → PolicyTree
policy_made notes effect s cs = record { annotations = notes; effect = effect; principal = s.principal; action = s.action; resource = s.resource; conditions = cs }

-- with n levels of nesting
module _ (n : ℕ) where
  abbrev braced : ConditionWord → Lang Condition
  braced word = lang.◌>>◌ (lang.one k.LBrace) (lang.◌>>=◌ (expr n) (λ x. lang.◌>>◌ (lang.one k.RBrace) (lang.empty (condition_made word x))))

  starts_condition : Starts (g.condition n) condition_words
  starts_condition = starts_both (symbol condition_word_of) braced condition_words (starts_symbol condition_word_of)

  abbrev policy_end : List Annotation → Token → ScopeTree → Lang PolicyTree
  policy_end notes effect s = lang.◌>>◌ (lang.one k.RParen) (lang.◌>>=◌ (lang.many (g.condition n)) (λ cs. lang.◌>>◌ (lang.one k.Semicolon) (lang.empty (policy_made notes effect s cs))))

  abbrev policy_head : List Annotation → Token → Lang PolicyTree
  policy_head notes effect = lang.◌>>◌ (lang.one k.LParen) (lang.◌>>=◌ g.scope (policy_end notes effect))

  abbrev policy_tail : List Annotation → Lang PolicyTree
  policy_tail notes = lang.◌>>=◌ (lang.of effects) (policy_head notes)

  alive_conditions : (notes : List Annotation) (effect : Token) (s : ScopeTree) → Begins (lang.◌>>=◌ (lang.many (g.condition n)) (λ cs. lang.◌>>◌ (lang.one k.Semicolon) (lang.empty (policy_made notes effect s cs)))) []
  alive_conditions notes effect s = go (alive_many (g.condition n)) (λ cs. go_one k.Semicolon (λ _. alive_empty (policy_made notes effect s cs)))

  alive_end : (notes : List Annotation) (effect : Token) (s : ScopeTree) → Begins (policy_end notes effect s) []
  alive_end notes effect s = go_one k.RParen (λ _. alive_conditions notes effect s)

  alive_head : (notes : List Annotation) (effect : Token) → Begins (policy_head notes effect) []
  alive_head notes effect = go_one k.LParen (λ _. go alive_scope (alive_end notes effect))

  alive_effect : (notes : List Annotation) → Begins (policy_tail notes) []
  alive_effect notes = go (begin_of effects k.Permit refl) (alive_head notes)

  pub alive_policy : Begins (g.policy n) []
  alive_policy = go (alive_many g.annotation) alive_effect

  pub alive_policies : Begins (g.policies n) []
  alive_policies = alive_many (g.policy n)

  starts_policy : Starts (g.policy n) policy_firsts
  unfolding same_kind
  starts_policy ts p j = ap (sees policy_firsts) j.whole ∙ starts_behind j.front j.back j.value j.first (starts_both (lang.of effects) (policy_head j.value) effects (starts_of effects) j.back p j.second)
    where
      starts_behind : (front back : List Token) (notes : List Annotation) → lang.many g.annotation front notes → sees effects back ≡ true → sees policy_firsts (front ++ back) ≡ true
      starts_behind front back [] d h = ap (λ z. sees policy_firsts (z ++ back)) d ∙ wide_sees effects policy_firsts back refl h
      starts_behind front back (x ∷ xs) d h =
          ap (λ z. sees policy_firsts (z ++ back)) d.2 ∙ ap (sees policy_firsts) (append_assoc d.0 d.1 back)
          ∙ sees-append policy_firsts d.0 (d.1 ++ back) (wide_sees (only k.At) policy_firsts d.0 refl (starts_annotation d.0 x d.3))

annotations_rule : (D : Levels) → Rule (lang.many g.annotation) (lang.many g.annotation) r.annotations r.annotations after_annotations D
unfolding r.annotations same_kind
annotations_rule D = each g.annotation g.annotation _ _ (only k.At) after_annotation after_annotations D (annotation_rule D) starts_annotation refl refl refl

-- with n + 1 levels of nesting, and with m + 1
module _ (n m : ℕ) (le : n ≤ m) where
  abbrev here : Levels
  here = levels (suc n) (suc m)

  inner : Rule (expr (suc n)) (expr (suc m)) (expressions.expr (suc n)) (expressions.expr (suc m)) after_expr here
  inner = expr_rule (suc n) (suc m) (omega (arith, le)) refl

  alive_behind_brace : (word : ConditionWord) → Begins (lang.◌>>=◌ (expr (suc n)) (λ x. lang.◌>>◌ (lang.one k.RBrace) (lang.empty (condition_made word x)))) []
  alive_behind_brace word = go (alive_expr (suc n) refl) (λ x. go_one k.RBrace (λ _. alive_empty (condition_made word x)))

  condition_rule : Rule (g.condition (suc n)) (g.condition (suc m)) (r.condition (suc n)) (r.condition (suc m)) none here
  unfolding r.condition same_kind
  condition_rule =
      seq (symbol_rule condition_word_of none here)
      (λ word. behind k.LBrace none here
      (seq inner (λ x. behind k.RBrace none here (nothing (condition_made word x) none here) (alive_empty (condition_made word x)))
      (λ x. leads_one k.RBrace after_expr none refl) (λ x. go_one k.RBrace (λ _. alive_empty (condition_made word x))))
      (alive_behind_brace word))
      (λ word. free _ none)
      (λ word. go_one k.LBrace (λ _. alive_behind_brace word))

  conditions_rule : Rule (lang.many (g.condition (suc n))) (lang.many (g.condition (suc m))) (r.conditions (suc n)) (r.conditions (suc m)) condition_words here
  unfolding r.conditions same_kind
  conditions_rule = each (g.condition (suc n)) (g.condition (suc m)) _ _ condition_words none condition_words here condition_rule (starts_condition (suc n)) refl refl refl

  end_rule : (notes : List Annotation) (effect : Token) (s : ScopeTree) → Rule (policy_end (suc n) notes effect s) (policy_end (suc m) notes effect s) (r.policy_of (suc n) notes effect s) (r.policy_of (suc m) notes effect s) none here
  unfolding r.policy_of same_kind
  end_rule notes effect s =
      behind k.RParen none here
      (seq conditions_rule (λ cs. behind k.Semicolon none here (nothing (policy_made notes effect s cs) none here) (alive_empty (policy_made notes effect s cs)))
      (λ cs. leads_one k.Semicolon condition_words none refl) (λ cs. go_one k.Semicolon (λ _. alive_empty (policy_made notes effect s cs))))
      (alive_conditions (suc n) notes effect s)

  pub policy_rule : Rule (g.policy (suc n)) (g.policy (suc m)) (r.policy (suc n)) (r.policy (suc m)) none here
  unfolding r.policy same_kind
  policy_rule =
      seq (annotations_rule here)
      (λ notes. seq (of effects none here)
      (λ effect. behind k.LParen none here
      (seq (scope_rule here) (end_rule notes effect) (λ s. leads_one k.RParen after_part none refl) (alive_end (suc n) notes effect))
      (go alive_scope (alive_end (suc n) notes effect)))
      (λ effect. free (policy_head (suc n) notes effect) none)
      (alive_head (suc n) notes))
      (λ notes. leads_first effects after_annotations none (starts_of effects) refl)
      (alive_effect (suc n))

  pub policies_rule : Rule (g.policies (suc n)) (g.policies (suc m)) (r.policies (suc n)) (r.policies (suc m)) policy_firsts here
  unfolding r.policies same_kind
  policies_rule = each (g.policy (suc n)) (g.policy (suc m)) _ _ policy_firsts none policy_firsts here policy_rule (starts_policy (suc n)) refl refl refl
