-- The own name of a core node in an expression stands in its form's tokens.
use Rattle.std.proofs.Common.{◌≡◌, ℕ, ◌++◌, List, [], ◌∷◌, map, Option, Some, None, refl, sym, ap, ◌∙◌, subst, inl, inr}
use Rattle.std.specs.List.{fold}
use Rattle.std.proofs.lemmas.List.{append-nil}
use Rattle.std.proofs.lemmas.List.Folds.{fold-map}
use Rattle.std.proofs.lemmas.List.Sums.{fold-append}
use Rattle.grammar_syntax.specs.declared.token.Token.{Token}
use Rattle.grammar_syntax.specs.declared.token.TokenKind.TheVariants as k
use Rattle.grammar_syntax.specs.declared.name_trees.PathTree.{PathTree}
use Rattle.grammar_syntax.specs.declared.name_trees.UidTree.{UidTree}
use Rattle.grammar_syntax.specs.Kinds.{only}
use Rattle.grammar_syntax.specs.Lang.{Lang, many}
use Rattle.grammar_syntax.specs.Lang as lang
use Rattle.grammar_syntax.specs.Lexing.{spelling_of}
use Rattle.grammar_syntax.specs.Grammar as names
use Rattle.grammar_syntax.specs.declared.tree.Access.{Access}
use Rattle.grammar_syntax.specs.declared.tree.Access.TheVariants as access
use Rattle.grammar_syntax.specs.declared.tree.Comparison.{Comparison}
use Rattle.grammar_syntax.specs.declared.tree.Comparison.TheVariants as compare
use Rattle.grammar_syntax.specs.declared.tree.ExprTree.{ExprTree}
use Rattle.grammar_syntax.specs.declared.tree.ExprTree.TheVariants as t
use Rattle.grammar_core.specs.declared.expr.Expr.{Expr}
use Rattle.grammar_core.specs.declared.expr.Expr.TheViews.{out-Expr}
use Rattle.grammar_core.specs.declared.expr.Expr.TheVariants as core
use Rattle.grammar_core.specs.declared.operator.UnaryCall.{UnaryCall}
use Rattle.grammar_parsing.specs.Expressions as g
use Rattle.grammar_parsing.specs.Expressions.{expr, any_expr, is_positive, joined, is_in}
use Rattle.grammar_core.specs.Operators.{method_of}
use Rattle.policy_grammar.specs.grammar_desugaring.Core.{core_of, negated, called, method_called, function, compared}
use Rattle.policy_grammar.specs.grammar_desugaring.Meaning.{path_name, uid_of}
use Rattle.policy_grammar.proofs.of_grammar_desugaring.Cores as cores
use Rattle.fault_places.specs.NameWritten.{OwnName, entity, tested_type, name_of}
use Rattle.fault_places.proofs.Languages.{Shows, both_shows, past_shows, end_shows, nothing_shows, or_shows, gate_shows}
use Rattle.fault_places.proofs.Lifting.{sum_up}
use Rattle.fault_places.proofs.Methods.{method_shows}
use Rattle.fault_places.proofs.Lists.{none_some, some_same, snoc}
use Rattle.fault_places.proofs.Standing.{access_step, factor_step, term_step, and_step, or_step}
use Rattle.fault_places.proofs.FormSteps.{is_number}

-- What an expression with a name is: a Uid, a test of a type, or one of these in parentheses.
pub data IsNamed (text : List ℕ) (ts : List Token) (x : ExprTree) : OwnName → Type 0 where
  uid_named : (uid : UidTree) → x ≡ t.Uid uid → names.uid ts uid → IsNamed text ts x (entity (uid_of text uid))
  type_named : (a : ExprTree) (name : PathTree) (us : List Token) (word : Token) (ps : List Token) → x ≡ t.Is a name
      → ts ≡ us ++ word ∷ ps → any_expr us a → names.path ps name → IsNamed text ts x (tested_type (path_name text name))
  inside_named : {n : OwnName} (a : ExprTree) → x ≡ t.Parentheses a → IsNamed text ts x n

abbrev pub Named : List ℕ → List Token → ExprTree → Type 0
Named text ts x = (n : OwnName) → name_of (out-Expr (core_of text x)) ≡ Some n → IsNamed text ts x n

-- a core expression without a name
unnamed : (text : List ℕ) (ts : List Token) (x : ExprTree) (e : Expr) → core_of text x ≡ e → name_of (out-Expr e) ≡ None
    → Named text ts x
unnamed text ts x e is none n h = absurd (none_some (sym none ∙ ap (λ y. name_of (out-Expr y)) (sym is) ∙ h))

-- ## Core expressions without a name

no_method : (e : Expr) (w : List ℕ) (ys : List Expr) → name_of (out-Expr (method_called (method_of w) e ys)) ≡ None
no_method e =
    method_shows e (λ ys x. name_of (out-Expr x) ≡ None) (λ ys. ap name_of (core.outs-Literal _))
    (λ ys call. ap name_of (core.outs-UnaryCall call e)) (λ a more op. ap name_of (core.outs-Binary op e a))
    (λ a more call. ap name_of (core.outs-BinaryCall call e a))

pub no_access : (text : List ℕ) (e : Expr) (x : Access (List ExprTree)) → name_of (out-Expr (access_step text e x)) ≡ None
no_access text e (access.Field key) = ap name_of (core.outs-Field e _)
no_access text e (access.Method name arguments) = no_method e (spelling_of text name) (map (core_of text) arguments)

no_call_name : (fn : Option UnaryCall) (ys : List Expr) → name_of (out-Expr (called fn ys)) ≡ None
no_call_name None ys = ap name_of (core.outs-Literal _)
no_call_name (Some fn) [] = ap name_of (core.outs-Literal _)
no_call_name (Some fn) (a ∷ []) = ap name_of (core.outs-UnaryCall fn a)
no_call_name (Some fn) (a ∷ (b ∷ more)) = ap name_of (core.outs-Literal _)

no_compared : (operator : Comparison) (x y : Expr) → name_of (out-Expr (compared operator x y)) ≡ None
no_compared compare.Less x y = ap name_of (core.outs-Binary _ x y)
no_compared compare.LessOrEqual x y = ap name_of (core.outs-Binary _ x y)
no_compared compare.Greater x y = ap name_of (core.outs-Unary _ _)
no_compared compare.GreaterOrEqual x y = ap name_of (core.outs-Unary _ _)
no_compared compare.Equal x y = ap name_of (core.outs-Binary _ x y)
no_compared compare.NotEqual x y = ap name_of (core.outs-Unary _ _)
no_compared compare.In x y = ap name_of (core.outs-Binary _ x y)

minus_named : (text : List ℕ) (ts : List Token) (a : ExprTree) → Named text ts (t.Minus a)
minus_named text ts a =
    elim (is_number a) [
      | inl s ↦ unnamed text ts (t.Minus a) _
          (cores.core-Minus text a ∙ ap (negated text) s.1 ∙ cores.negated-Number text s.0) (ap name_of (core.outs-Literal _))
      | inr n ↦ unnamed text ts (t.Minus a) _ (cores.core-Minus text a ∙ cores.negated-other text a n)
          (ap name_of (core.outs-Unary _ _))
    ]

-- ## Chains: no node of further pieces has a name

module _ {A : Type 0} (L : Lang ExprTree) (M : Lang A) (make : ExprTree → List A → ExprTree) (join : Expr → A → Expr)
    (text : List ℕ)
    (core : (a : ExprTree) (more : List A) → core_of text (make a more) ≡ fold join (core_of text a) more)
    (none : (e : Expr) (x : A) → name_of (out-Expr (join e x)) ≡ None)
    (first : Shows L (Named text)) where
  folded : (a : ExprTree) (x : A) (xs : List A) → name_of (out-Expr (fold join (core_of text a) (x ∷ xs))) ≡ None
  folded a x xs =
      elim (snoc (x ∷ xs)) [
        | inl e ↦ absurd cc
        | inr s ↦ ap (λ ys. name_of (out-Expr (fold join (core_of text a) ys))) s.2
            ∙ ap (λ e. name_of (out-Expr e)) (fold-append join (core_of text a) s.0 (s.1 ∷ []))
            ∙ none (fold join (core_of text a) s.0) s.1
      ]

  joined_named : (us vs : List Token) (a : ExprTree) (more : List A) → L us a → many M vs more
      → Named text (us ++ vs) (joined make a more)
  joined_named us vs a [] l m =
      subst (λ ts. Named text ts a) (sym (ap (λ ws. us ++ ws) m ∙ append-nil us)) (first us a l)
  joined_named us vs a (x ∷ xs) l m =
      unnamed text (us ++ vs) (make a (x ∷ xs)) (fold join (core_of text a) (x ∷ xs)) (core a (x ∷ xs)) (folded a x xs)

  chain_named : Shows (g.chain L M make) (Named text)
  chain_named =
      both_shows (Named text)
      (λ us a l. end_shows (joined make a) (λ vs x. Named text (us ++ vs) x)
      (λ vs more m. joined_named us vs a more l m))

-- ## Productions

module _ (text : List ℕ) (levels : ℕ) where
  literal_named : Shows g.literal (Named text)
  literal_named =
      or_shows (Named text)
      (end_shows t.Boolean (Named text)
      (λ us a d. unnamed text us (t.Boolean a) _ (cores.core-Boolean text a) (ap name_of (core.outs-Literal _))))
      (or_shows (Named text)
      (end_shows t.Number (Named text)
      (λ us a d. unnamed text us (t.Number a) _ (cores.core-Number text a) (ap name_of (core.outs-Literal _))))
      (end_shows t.Text (Named text)
      (λ us a d. unnamed text us (t.Text a) _ (cores.core-Text text a) (ap name_of (core.outs-Literal _)))))

  uid_has : (us : List Token) (uid : UidTree) → names.uid us uid → Named text us (t.Uid uid)
  uid_has us uid d n h =
      subst (IsNamed text us (t.Uid uid))
      (some_same
      (sym (ap name_of (core.outs-Literal _)) ∙ ap (λ y. name_of (out-Expr y)) (sym (cores.core-Uid text uid)) ∙ h))
      (uid_named uid refl d)

  named_named : Shows (g.named (is_positive levels) (expr levels)) (Named text)
  named_named =
      or_shows (Named text)
      (end_shows t.Variable (Named text)
      (λ us a d. unnamed text us (t.Variable a) _ (cores.core-Variable text a) (ap name_of (core.outs-Variable _))))
      (or_shows (Named text) (end_shows t.Uid (Named text) uid_has)
      (gate_shows (Named text) (is_positive levels) (g.call (is_positive levels) (expr levels))
      (both_shows (Named text)
      (λ ps path p. end_shows (t.Call path) (λ vs x. Named text (ps ++ vs) x)
      (λ vs found d. unnamed text (ps ++ vs) (t.Call path found) _ (cores.core-Call text path found)
      (no_call_name (function text path) (map (core_of text) found)))))))

  nested_named : Shows (g.nested (is_positive levels) (expr levels)) (Named text)
  nested_named =
      or_shows (Named text)
      (past_shows (only k.LParen) (Named text)
      (λ opening. both_shows (λ vs x. Named text (opening ∷ vs) x)
      (λ us a d. past_shows (only k.RParen) (λ vs x. Named text (opening ∷ (us ++ vs)) x)
      (λ closing. nothing_shows (t.Parentheses a) (λ vs x. Named text (opening ∷ (us ++ closing ∷ vs)) x)
      (λ n h. inside_named a refl)))))
      (or_shows (Named text)
      (past_shows (only k.LBracket) (Named text)
      (λ opening. both_shows (λ vs x. Named text (opening ∷ vs) x)
      (λ us found d. past_shows (only k.RBracket) (λ vs x. Named text (opening ∷ (us ++ vs)) x)
      (λ closing. nothing_shows (t.Set found) (λ vs x. Named text (opening ∷ (us ++ closing ∷ vs)) x)
      (unnamed text _ (t.Set found) _ (cores.core-Set text found) (ap name_of (core.outs-Set _)))))))
      (past_shows (only k.LBrace) (Named text)
      (λ opening. both_shows (λ vs x. Named text (opening ∷ vs) x)
      (λ us found d. past_shows (only k.RBrace) (λ vs x. Named text (opening ∷ (us ++ vs)) x)
      (λ closing. nothing_shows (t.Record found) (λ vs x. Named text (opening ∷ (us ++ closing ∷ vs)) x)
      (unnamed text _ (t.Record found) _ (cores.core-Record text found) (ap name_of (core.outs-Record _))))))))

  primary_named : Shows (g.primary (is_positive levels) (expr levels)) (Named text)
  primary_named =
      or_shows (Named text) named_named
      (or_shows (Named text) (gate_shows (Named text) (is_positive levels) (g.nested (is_positive levels) (expr levels)) nested_named) literal_named)

  member_named : Shows (g.member (is_positive levels) (expr levels)) (Named text)
  member_named =
      chain_named (g.primary (is_positive levels) (expr levels))
      (lang.◌or◌ (g.dotted (is_positive levels) (expr levels)) g.indexed) t.Member (access_step text) text
      (λ a more. cores.core-Member text a more ∙ fold-map _ _ (core_of text a) more) (no_access text) primary_named

  unary_named : Shows (g.unary (is_positive levels) (expr levels)) (Named text)
  unary_named =
      or_shows (Named text)
      (or_shows (Named text)
      (past_shows (only k.Not) (Named text)
      (λ sign. end_shows t.Not (λ vs x. Named text (sign ∷ vs) x)
      (λ us a d. unnamed text (sign ∷ us) (t.Not a) _ (cores.core-Not text a) (ap name_of (core.outs-Unary _ _)))))
      member_named)
      (or_shows (Named text)
      (past_shows (only k.Minus) (Named text)
      (λ sign. end_shows t.Minus (λ vs x. Named text (sign ∷ vs) x) (λ us a d. minus_named text (sign ∷ us) a)))
      member_named)

  product_named : Shows (g.product (is_positive levels) (expr levels)) (Named text)
  product_named =
      chain_named (g.unary (is_positive levels) (expr levels))
      (lang.◌>>◌ (lang.one k.Star) (g.unary (is_positive levels) (expr levels))) t.Product (factor_step text) text
      (λ a more. cores.core-Product text a more ∙ fold-map _ _ (core_of text a) more)
      (λ e x. ap name_of (core.outs-Binary _ e (core_of text x))) unary_named

  sum_named : Shows (g.sum (is_positive levels) (expr levels)) (Named text)
  sum_named =
      chain_named (g.product (is_positive levels) (expr levels)) (g.term (is_positive levels) (expr levels)) t.Sum
      (term_step text) text (λ a more. cores.core-Sum text a more ∙ fold-map _ _ (core_of text a) more)
      (λ e x. ap name_of (core.outs-Binary _ e (core_of text x.operand))) product_named

  -- `is T`, alone or with `in b`
  tested_named : (us ps : List Token) (word : Token) (a : ExprTree) (path : PathTree)
      → g.sum (is_positive levels) (expr levels) us a → names.path ps path → (vs : List Token) (o : Option ExprTree)
      → lang.optional (g.inside (is_positive levels) (expr levels)) vs o
      → Named text (us ++ word ∷ (ps ++ vs)) (is_in a path o)
  tested_named us ps word a path l p vs None d n h =
      subst (IsNamed text (us ++ word ∷ (ps ++ vs)) (t.Is a path))
      (some_same
      (sym (ap name_of (core.outs-Unary _ _)) ∙ ap (λ y. name_of (out-Expr y)) (sym (cores.core-Is text a path)) ∙ h))
      (type_named a path us word ps refl (ap (λ ws. us ++ word ∷ ws) (ap (λ ws. ps ++ ws) d ∙ append-nil ps))
      (sum_up levels us a l) p)
  tested_named us ps word a path l p vs (Some b) d n h =
      unnamed text _ (t.IsIn a path b) _ (cores.core-IsIn text a path b) (ap name_of (core.outs-And _ _)) n h

  relation_named : Shows (g.relation (is_positive levels) (expr levels)) (Named text)
  relation_named =
      both_shows (Named text)
      (λ us a l. or_shows (λ vs x. Named text (us ++ vs) x)
      (both_shows (λ vs x. Named text (us ++ vs) x)
      (λ os operator o. end_shows (t.Compare a operator) (λ vs x. Named text (us ++ (os ++ vs)) x)
      (λ vs b r. unnamed text _ (t.Compare a operator b) _ (cores.core-Compare text a operator b) (no_compared operator _ _))))
      (or_shows (λ vs x. Named text (us ++ vs) x)
      (past_shows (only k.Has) (λ vs x. Named text (us ++ vs) x)
      (λ has. end_shows (t.Has a) (λ vs x. Named text (us ++ has ∷ vs) x)
      (λ vs key d. unnamed text _ (t.Has a key) _ (cores.core-Has text a key) (ap name_of (core.outs-Has _ _)))))
      (or_shows (λ vs x. Named text (us ++ vs) x)
      (past_shows (only k.Like) (λ vs x. Named text (us ++ vs) x)
      (λ like. end_shows (t.Like a) (λ vs x. Named text (us ++ like ∷ vs) x)
      (λ vs token d. unnamed text _ (t.Like a token) _ (cores.core-Like text a token) (ap name_of (core.outs-Unary _ _)))))
      (or_shows (λ vs x. Named text (us ++ vs) x)
      (past_shows (only k.Is) (λ vs x. Named text (us ++ vs) x)
      (λ word. both_shows (λ vs x. Named text (us ++ word ∷ vs) x)
      (λ ps path p. end_shows (is_in a path) (λ vs x. Named text (us ++ word ∷ (ps ++ vs)) x)
      (λ vs b i. tested_named us ps word a path l p vs b i))))
      (nothing_shows a (λ vs x. Named text (us ++ vs) x)
      (subst (λ ts. Named text ts a) (sym (append-nil us)) (sum_named us a l)))))))

  conjunction_named : Shows (g.conjunction (is_positive levels) (expr levels)) (Named text)
  conjunction_named =
      chain_named (g.relation (is_positive levels) (expr levels))
      (lang.◌>>◌ (lang.one k.And) (g.relation (is_positive levels) (expr levels))) t.And (and_step text) text
      (λ a more. cores.core-And text a more ∙ fold-map _ _ (core_of text a) more)
      (λ e x. ap name_of (core.outs-And e (core_of text x))) relation_named

  disjunction_named : Shows (g.disjunction (is_positive levels) (expr levels)) (Named text)
  disjunction_named =
      chain_named (g.conjunction (is_positive levels) (expr levels))
      (lang.◌>>◌ (lang.one k.Or) (g.conjunction (is_positive levels) (expr levels))) t.Or (or_step text) text
      (λ a more. cores.core-Or text a more ∙ fold-map _ _ (core_of text a) more)
      (λ e x. ap name_of (core.outs-Or e (core_of text x))) conjunction_named

  level_named : Shows (g.level (is_positive levels) (expr levels)) (Named text)
  level_named =
      or_shows (Named text)
      (gate_shows (Named text) (is_positive levels) (g.conditional (is_positive levels) (expr levels))
      (past_shows (only k.If) (Named text)
      (λ word. both_shows (λ vs x. Named text (word ∷ vs) x)
      (λ us a da. both_shows (λ vs x. Named text (word ∷ (us ++ vs)) x)
      (λ us' b db. end_shows (t.If a b) (λ vs x. Named text (word ∷ (us ++ (us' ++ vs))) x)
      (λ vs c dc. unnamed text _ (t.If a b c) _ (cores.core-If text a b c) (ap name_of (core.outs-If _ _ _))))))))
      disjunction_named

pub any_named : (text : List ℕ) → Shows any_expr (Named text)
unfolding expr
any_named text ts x d = level_named text d.0 ts x d.1
