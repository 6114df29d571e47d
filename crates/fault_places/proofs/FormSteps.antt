-- The operands of each form that is no chain, in its tokens.
use Rattle.std.proofs.Common.{◌≡◌, ℕ, ◌⊎◌, ◌++◌, List, [], ◌∷◌, drop, true, false, Bool, Some, refl, sym, ap, ◌∙◌, inl, inr, append_assoc}
use Rattle.std.specs.List.{slice_get}
use Rattle.grammar_syntax.specs.declared.token.Token.{Token}
use Rattle.grammar_syntax.specs.declared.token.TokenKind.TheVariants as k
use Rattle.grammar_syntax.specs.declared.name_trees.PathTree.{PathTree}
use Rattle.grammar_syntax.specs.declared.name_trees.UidTree.{UidTree}
use Rattle.grammar_syntax.specs.Lang as lang
use Rattle.grammar_syntax.specs.Grammar as names
use Rattle.grammar_syntax.specs.declared.tree.Comparison.{Comparison}
use Rattle.grammar_syntax.specs.declared.tree.Comparison.TheVariants as is
use Rattle.grammar_syntax.specs.declared.tree.KeyTree.{KeyTree}
use Rattle.grammar_syntax.specs.declared.tree.RequestKeyword.{RequestKeyword}
use Rattle.grammar_syntax.specs.declared.tree.ExprTree.{ExprTree, out-ExprTree, roll-ExprTree, roll-out-ExprTree}
use Rattle.grammar_syntax.specs.declared.tree.ExprTree.TheVariants as t
use Rattle.grammar_syntax.specs.declared.tree.ExprTree.TheOpen.{ExprTree-F as tree}
use Rattle.grammar_core.specs.declared.expr.Expr.{Expr}
use Rattle.grammar_core.specs.declared.expr.Expr.TheVariants as core
use Rattle.grammar_core.specs.declared.operator.Unary.TheVariants.{Not, Is}
use Rattle.grammar_core.specs.declared.operator.Binary.TheVariants.{In}
use Rattle.grammar_parsing.specs.Expressions as g
use Rattle.grammar_parsing.specs.Expressions.{expr, any_expr, is_positive}
use Rattle.fault_places.specs.TokenCounts.{tree_count, path_count}
use Rattle.typing.specs.Places.{operands_of, operands_in}
use Rattle.policy_grammar.specs.grammar_desugaring.Core.{core_of, negated, compared}
use Rattle.policy_grammar.specs.grammar_desugaring.Meaning.{path_name}
use Rattle.policy_grammar.proofs.of_grammar_desugaring.Cores as cores
use Rattle.fault_places.specs.inner.Nodes.{Node}
use Rattle.fault_places.specs.inner.Nodes as part
use Rattle.fault_places.specs.Forms.{Form, whole, part_of, operand, operand_step, is_negated, is_outer, both, compared_at, in_test_at}
use Rattle.fault_places.proofs.LanguageCounts.{path_fits}
use Rattle.fault_places.proofs.Opening.{minus_operand-other}
use Rattle.fault_places.proofs.Lifting.{sum_up}
use Rattle.fault_places.proofs.Lists.{Ends, ends_here, ends_later, past, in_one, in_two, in_three}
use Rattle.fault_places.proofs.Chains.{any_count}
use Rattle.fault_places.proofs.Standing.{test_stands, inner_stands, negated_stands, Next, Tested, Compared, inner_of}
use Rattle.fault_places.proofs.Deriving.{Follows, Shown, shown, by_core, by_none, next, found_in}

-- is a tree a number?
number_or_not : (y : tree ExprTree) → ((token : Token) × (y ≡ tree.Number token)) ⊎ ((token : Token) → y ≡ tree.Number token → ⊥)
number_or_not (tree.Number token) = inl (token, refl)
number_or_not y = inr (λ token h. cc)

pub is_number : (x : ExprTree) → ((token : Token) × (x ≡ t.Number token)) ⊎ ((token : Token) → x ≡ t.Number token → ⊥)
is_number x =
    elim (number_or_not (out-ExprTree x)) [
      | inl s ↦ inl (s.0, sym (roll-out-ExprTree x) ∙ ap roll-ExprTree s.1 ∙ t.rolls-Number s.0)
      | inr n ↦ inr (λ token h. n token (ap out-ExprTree h ∙ t.outs-Number token))
    ]

-- operands of comparisons
direct_operands : (operator : Comparison) (x y : Expr) → is_negated operator ≡ false
    → operands_of (compared operator x y) ≡ x ∷ y ∷ []
direct_operands is.Less x y e = ap operands_in (core.outs-Binary _ x y)
direct_operands is.LessOrEqual x y e = ap operands_in (core.outs-Binary _ x y)
direct_operands is.Greater x y e = absurd cc
direct_operands is.GreaterOrEqual x y e = absurd cc
direct_operands is.Equal x y e = ap operands_in (core.outs-Binary _ x y)
direct_operands is.NotEqual x y e = absurd cc
direct_operands is.In x y e = ap operands_in (core.outs-Binary _ x y)

pub inner_is : (operator : Comparison) (x y : Expr) → is_negated operator ≡ true
    → compared operator x y ≡ core.Unary Not (inner_of operator x y)
inner_is is.Less x y e = absurd cc
inner_is is.LessOrEqual x y e = absurd cc
inner_is is.Greater x y e = refl
inner_is is.GreaterOrEqual x y e = refl
inner_is is.Equal x y e = absurd cc
inner_is is.NotEqual x y e = refl
inner_is is.In x y e = absurd cc

inner_operands : (operator : Comparison) (x y : Expr) → operands_of (inner_of operator x y) ≡ x ∷ y ∷ []
inner_operands is.Less x y = ap operands_in (core.outs-Binary _ x y)
inner_operands is.LessOrEqual x y = ap operands_in (core.outs-Binary _ x y)
inner_operands is.Greater x y = ap operands_in (core.outs-Binary _ x y)
inner_operands is.GreaterOrEqual x y = ap operands_in (core.outs-Binary _ x y)
inner_operands is.Equal x y = ap operands_in (core.outs-Binary _ x y)
inner_operands is.NotEqual x y = ap operands_in (core.outs-Binary _ x y)
inner_operands is.In x y = ap operands_in (core.outs-Binary _ x y)

-- the operand behind an operand and an operator
pub behind_ends : (ts : List Token) (n : ℕ) → Ends (drop 1 (drop n ts)) ts
behind_ends ts n = ends_later 1 _ _ ts refl (ends_later n _ _ ts refl (ends_here ts ts refl))

pub behind_is : (ts us vs : List Token) (token : Token) (a : ExprTree) → ts ≡ us ++ token ∷ vs → any_expr us a
    → drop 1 (drop (tree_count a) ts) ≡ vs
behind_is ts us vs token a e d = ap (drop 1) (past ts us (token ∷ vs) (tree_count a) e (any_count us a d))

module _ (text : List ℕ) where
  -- ## No operand

  pub boolean_shown : (ts : List Token) (value : Bool) → Shown text ts (t.Boolean value)
  boolean_shown ts value =
      shown text ts (t.Boolean value) _ (t.outs-Boolean value)
      (by_none text ts (t.Boolean value) _ (cores.core-Boolean text value) (ap operands_in (core.outs-Literal _)))

  pub number_shown : (ts : List Token) (token : Token) → Shown text ts (t.Number token)
  number_shown ts token =
      shown text ts (t.Number token) _ (t.outs-Number token)
      (by_none text ts (t.Number token) _ (cores.core-Number text token) (ap operands_in (core.outs-Literal _)))

  pub text_shown : (ts : List Token) (token : Token) → Shown text ts (t.Text token)
  text_shown ts token =
      shown text ts (t.Text token) _ (t.outs-Text token)
      (by_none text ts (t.Text token) _ (cores.core-Text text token) (ap operands_in (core.outs-Literal _)))

  pub variable_shown : (ts : List Token) (word : RequestKeyword) → Shown text ts (t.Variable word)
  variable_shown ts word =
      shown text ts (t.Variable word) _ (t.outs-Variable word)
      (by_none text ts (t.Variable word) _ (cores.core-Variable text word) (ap operands_in (core.outs-Variable _)))

  pub uid_shown : (ts : List Token) (uid : UidTree) → Shown text ts (t.Uid uid)
  uid_shown ts uid =
      shown text ts (t.Uid uid) _ (t.outs-Uid uid)
      (by_none text ts (t.Uid uid) _ (cores.core-Uid text uid) (ap operands_in (core.outs-Literal _)))

  -- ## One operand

  pub not_shown : (sign : Token) (us : List Token) (a : ExprTree) → any_expr us a → Shown text (sign ∷ us) (t.Not a)
  not_shown sign us a d =
      shown text (sign ∷ us) (t.Not a) _ (t.outs-Not a)
      (by_core text (sign ∷ us) (t.Not a) _ _ (cores.core-Not text a) (ap operands_in (core.outs-Unary _ _))
      (λ behind. let f = whole (t.Not a) (sign ∷ (us ++ behind)) in
      in_one (Next text f) _
      (next text f 0 a (us ++ behind) us behind (found_in f _ 0 _ (t.outs-Not a) refl) refl d (1, refl))))

  minus_follows : (sign : Token) (us : List Token) (a : ExprTree) → any_expr us a
      → Follows text (sign ∷ us) (t.Minus a)
  minus_follows sign us a d =
      elim (is_number a) [
        | inl s ↦ by_none text (sign ∷ us) (t.Minus a) _
            (cores.core-Minus text a ∙ ap (negated text) s.1 ∙ cores.negated-Number text s.0)
            (ap operands_in (core.outs-Literal _))
        | inr n ↦ by_core text (sign ∷ us) (t.Minus a) _ _ (cores.core-Minus text a ∙ cores.negated-other text a n)
            (ap operands_in (core.outs-Unary _ _))
            (λ behind. let f = whole (t.Minus a) (sign ∷ (us ++ behind)) in
            in_one (Next text f) _
            (next text f 0 a (us ++ behind) us behind
            (found_in f _ 0 _ (t.outs-Minus a) (sym (minus_operand-other a (us ++ behind) 0 n))) refl d (1, refl)))
      ]

  pub minus_shown : (sign : Token) (us : List Token) (a : ExprTree) → any_expr us a
      → Shown text (sign ∷ us) (t.Minus a)
  minus_shown sign us a d = shown text (sign ∷ us) (t.Minus a) _ (t.outs-Minus a) (minus_follows sign us a d)

  pub has_shown : (us rest : List Token) (a : ExprTree) (key : KeyTree) → any_expr us a
      → Shown text (us ++ rest) (t.Has a key)
  has_shown us rest a key d =
      shown text (us ++ rest) (t.Has a key) _ (t.outs-Has a key)
      (by_core text (us ++ rest) (t.Has a key) _ _ (cores.core-Has text a key) (ap operands_in (core.outs-Has _ _))
      (λ behind. let f = whole (t.Has a key) ((us ++ rest) ++ behind) in
      in_one (Next text f) _
      (next text f 0 a f.tokens us (rest ++ behind) (found_in f _ 0 _ (t.outs-Has a key) refl)
      (append_assoc us rest behind) d (0, refl))))

  pub like_shown : (us rest : List Token) (a : ExprTree) (token : Token) → any_expr us a
      → Shown text (us ++ rest) (t.Like a token)
  like_shown us rest a token d =
      shown text (us ++ rest) (t.Like a token) _ (t.outs-Like a token)
      (by_core text (us ++ rest) (t.Like a token) _ _ (cores.core-Like text a token)
      (ap operands_in (core.outs-Unary _ _))
      (λ behind. let f = whole (t.Like a token) ((us ++ rest) ++ behind) in
      in_one (Next text f) _
      (next text f 0 a f.tokens us (rest ++ behind) (found_in f _ 0 _ (t.outs-Like a token) refl)
      (append_assoc us rest behind) d (0, refl))))

  pub is_shown : (us rest : List Token) (a : ExprTree) (path : PathTree) → any_expr us a
      → Shown text (us ++ rest) (t.Is a path)
  is_shown us rest a path d =
      shown text (us ++ rest) (t.Is a path) _ (t.outs-Is a path)
      (by_core text (us ++ rest) (t.Is a path) _ _ (cores.core-Is text a path) (ap operands_in (core.outs-Unary _ _))
      (λ behind. let f = whole (t.Is a path) ((us ++ rest) ++ behind) in
      in_one (Next text f) _
      (next text f 0 a f.tokens us (rest ++ behind) (found_in f _ 0 _ (t.outs-Is a path) refl)
      (append_assoc us rest behind) d (0, refl))))

  -- ## Comparisons

  module _ (levels : ℕ) where
    -- the operands of a comparison, where they are found as two
    two_compared : (f : Form) (us vs behind : List Token) (token : Token) (a b : ExprTree)
        → f.tokens ≡ us ++ token ∷ (vs ++ behind)
        → g.sum (is_positive levels) (expr levels) us a → g.sum (is_positive levels) (expr levels) vs b
        → operand f 0 ≡ Some (whole a f.tokens)
        → operand f 1 ≡ Some (whole b (drop 1 (drop (tree_count a) f.tokens)))
        → (i : ℕ) (y : Expr) → slice_get (core_of text a ∷ core_of text b ∷ []) i ≡ Some y → Next text f i y
    two_compared f us vs behind token a b written l r first second =
        in_two (Next text f) (core_of text a) (core_of text b)
        (next text f 0 a f.tokens us (token ∷ (vs ++ behind)) first written (sum_up levels us a l) (0, refl))
        (next text f 1 b (drop 1 (drop (tree_count a) f.tokens)) vs behind second
        (behind_is f.tokens us (vs ++ behind) token a written (sum_up levels us a l)) (sum_up levels vs b r)
        (behind_ends f.tokens (tree_count a)))

    compare_follows : (us vs : List Token) (token : Token) (a b : ExprTree) (operator : Comparison) (negates : Bool)
        → is_negated operator ≡ negates → g.symbol g.comparison_of (token ∷ []) operator
        → g.sum (is_positive levels) (expr levels) us a → g.sum (is_positive levels) (expr levels) vs b
        → Follows text (us ++ token ∷ vs) (t.Compare a operator b)
    compare_follows us vs token a b operator false e is l r =
        by_core text (us ++ token ∷ vs) (t.Compare a operator b) _ _ (cores.core-Compare text a operator b)
        (direct_operands operator _ _ e)
        (λ behind. let f = whole (t.Compare a operator b) ((us ++ token ∷ vs) ++ behind) in
        two_compared f us vs behind token a b (append_assoc us (token ∷ vs) behind) l r
        (found_in f _ 0 _ (t.outs-Compare a operator b) (ap (λ n. compared_at n f a b 0) e))
        (found_in f _ 1 _ (t.outs-Compare a operator b) (ap (λ n. compared_at n f a b 1) e)))
    compare_follows us vs token a b operator true e is l r =
        by_core text (us ++ token ∷ vs) (t.Compare a operator b) _ _
        (cores.core-Compare text a operator b ∙ inner_is operator _ _ e) (ap operands_in (core.outs-Unary _ _))
        (λ behind. let f = whole (t.Compare a operator b) ((us ++ token ∷ vs) ++ behind) in
        in_one (Next text f) _
        (record {
          below = part_of f part.Inner;
          found = found_in f _ 0 _ (t.outs-Compare a operator b) (ap (λ n. compared_at n f a b 0) e);
          stands = negated_stands levels (record {
            left = a;
            operator = operator;
            right = b;
            token = token;
            of_left = us;
            of_right = vs;
            behind = behind;
            form = refl;
            negates = e;
            written = append_assoc us (token ∷ vs) behind;
            token_is = is;
            left_derives = l;
            right_derives = r;
          }) refl refl;
          within = (0, refl);
        }))

    pub compare_shown : (us vs : List Token) (token : Token) (a b : ExprTree) (operator : Comparison)
        → g.symbol g.comparison_of (token ∷ []) operator
        → g.sum (is_positive levels) (expr levels) us a → g.sum (is_positive levels) (expr levels) vs b
        → Shown text (us ++ token ∷ vs) (t.Compare a operator b)
    compare_shown us vs token a b operator is l r =
        shown text (us ++ token ∷ vs) (t.Compare a operator b) _ (t.outs-Compare a operator b)
        (compare_follows us vs token a b operator (is_negated operator) refl is l r)

    -- what a comparison negates
    pub negated_next : (f : Form) (e : Expr) (w : Compared levels f) → f.part ≡ part.Inner
        → e ≡ inner_of w.operator (core_of text w.left) (core_of text w.right)
        → (i : ℕ) (y : Expr) → slice_get (operands_of e) i ≡ Some y → Next text f i y
    negated_next f e w inner meant i y found =
        let seen : (j : ℕ) → operand f j ≡ compared_at false f w.left w.right j = λ j.
        ap (λ x. operand_step (out-ExprTree x) f j) w.form
        ∙ ap (λ z. operand_step z f j) (t.outs-Compare w.left w.operator w.right)
        ∙ ap (λ p. compared_at (both (is_outer p) (is_negated w.operator)) f w.left w.right j) inner in
        two_compared f w.of_left w.of_right w.behind w.token w.left w.right w.written w.left_derives w.right_derives
        (seen 0) (seen 1) i y
        (ap (λ xs. slice_get xs i) (sym (ap operands_of meant ∙ inner_operands w.operator _ _)) ∙ found)

    -- ## Tests of a type

    test_written : (us ps vs behind : List Token) (is_token in_token : Token)
        → (us ++ is_token ∷ (ps ++ in_token ∷ vs)) ++ behind ≡ us ++ (is_token ∷ (ps ++ (in_token ∷ (vs ++ behind))))
    test_written us ps vs behind is_token in_token =
        append_assoc us (is_token ∷ (ps ++ in_token ∷ vs)) behind
        ∙ ap (λ ts. us ++ is_token ∷ ts) (append_assoc ps (in_token ∷ vs) behind)

    pub is_in_shown : (us ps vs : List Token) (is_token in_token : Token) (a : ExprTree) (path : PathTree) (b : ExprTree)
        → lang.one k.Is (is_token ∷ []) is_token → lang.one k.In (in_token ∷ []) in_token
        → g.sum (is_positive levels) (expr levels) us a → names.path ps path
        → g.sum (is_positive levels) (expr levels) vs b
        → Shown text (us ++ is_token ∷ (ps ++ in_token ∷ vs)) (t.IsIn a path b)
    is_in_shown us ps vs is_token in_token a path b is inn l p r =
        shown text (us ++ is_token ∷ (ps ++ in_token ∷ vs)) (t.IsIn a path b) _ (t.outs-IsIn a path b)
        (by_core text (us ++ is_token ∷ (ps ++ in_token ∷ vs)) (t.IsIn a path b) _ _ (cores.core-IsIn text a path b)
        (ap operands_in (core.outs-And _ _))
        (λ behind. let f = whole (t.IsIn a path b) ((us ++ is_token ∷ (ps ++ in_token ∷ vs)) ++ behind) in
        let w : (q : Node) → Tested levels (part_of f q) = λ q. record {
          head = a;
          name = path;
          tail = b;
          is_token = is_token;
          in_token = in_token;
          of_head = us;
          of_name = ps;
          of_tail = vs;
          behind = behind;
          form = refl;
          written = test_written us ps vs behind is_token in_token;
          is_is = is;
          in_is = inn;
          head_derives = l;
          name_derives = p;
          tail_derives = r;
        } in
        in_two (Next text f) _ _
        (record {
          below = part_of f part.Test;
          found = found_in f _ 0 _ (t.outs-IsIn a path b) refl;
          stands = test_stands levels (w part.Test) refl refl;
          within = (0, refl);
        })
        (record {
          below = part_of f part.Inner;
          found = found_in f _ 1 _ (t.outs-IsIn a path b) refl;
          stands = inner_stands levels (w part.Inner) refl refl;
          within = (0, refl);
        })))

    -- a node of a test, by its part
    test_seen : (f : Form) (w : Tested levels f) (p : Node) → f.part ≡ p → (j : ℕ)
        → operand f j ≡ in_test_at p f w.head w.name w.tail j
    test_seen f w p is j =
        ap (λ x. operand_step (out-ExprTree x) f j) w.form
        ∙ ap (λ z. operand_step z f j) (t.outs-IsIn w.head w.name w.tail)
        ∙ ap (λ q. in_test_at q f w.head w.name w.tail j) is

    head_next : (f : Form) (w : Tested levels f) → operand f 0 ≡ Some (whole w.head f.tokens)
        → Next text f 0 (core_of text w.head)
    head_next f w found =
        next text f 0 w.head f.tokens w.of_head _ found w.written (sum_up levels w.of_head w.head w.head_derives) (0, refl)

    pub test_next : (f : Form) (e : Expr) (w : Tested levels f) → f.part ≡ part.Test
        → e ≡ core.Unary (Is (path_name text w.name)) (core_of text w.head)
        → (i : ℕ) (y : Expr) → slice_get (operands_of e) i ≡ Some y → Next text f i y
    test_next f e w is meant i y found =
        in_one (Next text f) _ (head_next f w (test_seen f w part.Test is 0)) i y
        (ap (λ xs. slice_get xs i) (sym (ap operands_of meant ∙ ap operands_in (core.outs-Unary _ _))) ∙ found)

    tail_is : (f : Form) (w : Tested levels f)
        → drop 1 (drop (path_count w.name) (drop 1 (drop (tree_count w.head) f.tokens))) ≡ w.of_tail ++ w.behind
    tail_is f w =
        ap (λ ts. drop 1 (drop (path_count w.name) ts))
        (behind_is f.tokens w.of_head (w.of_name ++ (w.in_token ∷ (w.of_tail ++ w.behind))) w.is_token w.head w.written
        (sum_up levels w.of_head w.head w.head_derives))
        ∙ ap (drop 1)
        (past _ w.of_name (w.in_token ∷ (w.of_tail ++ w.behind)) (path_count w.name) refl
        (path_fits w.of_name w.name w.name_derives))

    pub inner_next : (f : Form) (e : Expr) (w : Tested levels f) → f.part ≡ part.Inner
        → e ≡ core.Binary In (core_of text w.head) (core_of text w.tail)
        → (i : ℕ) (y : Expr) → slice_get (operands_of e) i ≡ Some y → Next text f i y
    inner_next f e w is meant i y found =
        in_two (Next text f) _ _ (head_next f w (test_seen f w part.Inner is 0))
        (next text f 1 w.tail _ w.of_tail w.behind (test_seen f w part.Inner is 1) (tail_is f w)
        (sum_up levels w.of_tail w.tail w.tail_derives)
        (ends_later 1 _ _ f.tokens refl (ends_later (path_count w.name) _ _ f.tokens refl (behind_ends f.tokens (tree_count w.head)))))
        i y
        (ap (λ xs. slice_get xs i) (sym (ap operands_of meant ∙ ap operands_in (core.outs-Binary _ _ _))) ∙ found)

  -- ## If

  pub if_shown : (us vs ws : List Token) (if_token then_token else_token : Token) (a b c : ExprTree) → any_expr us a
      → any_expr vs b → any_expr ws c
      → Shown text (if_token ∷ (us ++ then_token ∷ (vs ++ else_token ∷ ws))) (t.If a b c)
  if_shown us vs ws if_token then_token else_token a b c da db dc =
      let ts = if_token ∷ (us ++ then_token ∷ (vs ++ else_token ∷ ws)) in
      shown text ts (t.If a b c) _ (t.outs-If a b c)
      (by_core text ts (t.If a b c) _ _ (cores.core-If text a b c) (ap operands_in (core.outs-If _ _ _))
      (λ behind. let f = whole (t.If a b c) (if_token ∷ ((us ++ then_token ∷ (vs ++ else_token ∷ ws)) ++ behind)) in
      let first = drop 1 f.tokens in
      let second = drop 1 (drop (tree_count a) first) in
      let third = drop 1 (drop (tree_count b) second) in
      let one : first ≡ us ++ then_token ∷ (vs ++ else_token ∷ (ws ++ behind))
      = append_assoc us (then_token ∷ (vs ++ else_token ∷ ws)) behind
      ∙ ap (λ rs. us ++ then_token ∷ rs) (append_assoc vs (else_token ∷ ws) behind) in
      let two : second ≡ vs ++ else_token ∷ (ws ++ behind)
      = behind_is first us (vs ++ else_token ∷ (ws ++ behind)) then_token a one da in
      let three : third ≡ ws ++ behind = behind_is second vs (ws ++ behind) else_token b two db in
      let in_first : Ends first f.tokens = (1, refl) in
      let in_second : Ends second f.tokens
      = ends_later 1 _ _ f.tokens refl (ends_later (tree_count a) _ _ f.tokens refl in_first) in
      let in_third : Ends third f.tokens
      = ends_later 1 _ _ f.tokens refl (ends_later (tree_count b) _ _ f.tokens refl in_second) in
      in_three (Next text f) _ _ _
      (next text f 0 a first us _ (found_in f _ 0 _ (t.outs-If a b c) refl) one da in_first)
      (next text f 1 b second vs _ (found_in f _ 1 _ (t.outs-If a b c) refl) two db in_second)
      (next text f 2 c third ws behind (found_in f _ 2 _ (t.outs-If a b c) refl) three dc in_third)))
