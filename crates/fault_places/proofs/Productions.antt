-- Each production of expressions is shown: the operands of its trees stand in its tokens.
use Rattle.std.proofs.Common.{◌≡◌, ℕ, ◌++◌, List, [], ◌∷◌, Option, Some, None, refl, sym, ap, ◌∙◌, subst, inl, inr, append_assoc, length-append}
use Rattle.std.specs.List.{slice_get, fold}
use Rattle.std.proofs.lemmas.List.{append-nil}
use Rattle.std.proofs.lemmas.List.Folds.{fold-map}
use Rattle.std.proofs.lemmas.List.Sums.{fold-append}
use Rattle.grammar_syntax.specs.declared.token.Token.{Token}
use Rattle.grammar_syntax.specs.declared.token.TokenKind.{TokenKind}
use Rattle.grammar_syntax.specs.declared.token.TokenKind.TheVariants as k
use Rattle.grammar_syntax.specs.declared.name_trees.PathTree.{PathTree}
use Rattle.grammar_syntax.specs.Kinds.{only}
use Rattle.grammar_syntax.specs.Lang.{Lang, many}
use Rattle.grammar_syntax.specs.Lang as lang
use Rattle.grammar_syntax.specs.Grammar as names
use Rattle.grammar_syntax.specs.declared.tree.ExprTree.{ExprTree}
use Rattle.grammar_syntax.specs.declared.tree.ExprTree.TheVariants as t
use Rattle.grammar_core.specs.declared.expr.Expr.{Expr}
use Rattle.grammar_core.specs.declared.expr.Expr.TheVariants as core
use Rattle.grammar_core.specs.declared.operator.Binary.TheVariants.{Multiply}
use Rattle.grammar_parsing.specs.Expressions as g
use Rattle.grammar_parsing.specs.Expressions.{expr, any_expr, is_positive, joined, is_in}
use Rattle.typing.specs.Places.{operands_of, operands_in}
use Rattle.policy_grammar.specs.grammar_desugaring.Core.{core_of, accessed, added, in_access, in_term}
use Rattle.policy_grammar.proofs.of_grammar_desugaring.Cores as cores
use Rattle.fault_places.specs.Forms.{Form, whole, operand_step}
use Rattle.fault_places.proofs.Languages.{Shows, both_shows, past_shows, end_shows, nothing_shows, or_shows, gate_shows}
use Rattle.fault_places.proofs.Lifting.{any_inner, and_up, relation_up, sum_up, product_up, unary_up, not_up, minus_up}
use Rattle.fault_places.proofs.Lists.{snoc, Cut, many_snoc}
use Rattle.fault_places.proofs.Chains.{IsChain, Signed, chain_next}
use Rattle.fault_places.proofs.Members.{member_next}
use Rattle.fault_places.proofs.Standing.{Chained, Next, product_stands, sum_stands, and_stands, or_stands, access_step, factor_step, term_step, and_step, or_step}
use Rattle.fault_places.proofs.Deriving.{Follows, Shown, shown}
use Rattle.fault_places.proofs.FormSteps as step
use Rattle.fault_places.proofs.Rows as row

-- a chain with further pieces, as a whole form
module _ {A : Type 0} (L : Lang ExprTree) (M : Lang A) (make : ExprTree → List A → ExprTree) (join : Expr → A → Expr)
    (text : List ℕ)
    (core : (a : ExprTree) (more : List A) → core_of text (make a more) ≡ fold join (core_of text a) more) where
  cut_chained : (a : ExprTree) (more : List A) (us vs behind : List Token) → L us a → (init : List A) (last : A)
      → more ≡ init ++ last ∷ [] → Cut M vs init last
      → Chained L M make join text (whole (make a more) ((us ++ vs) ++ behind)) (core_of text (make a more))
  cut_chained a more us vs behind l init last is cut = record {
    head = a;
    init = init;
    last = last;
    later = [];
    of_head = us;
    of_init = cut.front;
    of_last = cut.back;
    behind = behind;
    form = ap (make a) is;
    pieces = length-append init (last ∷ []);
    written = append_assoc us vs behind
        ∙ ap (λ ws. us ++ ws) (ap (λ ws. ws ++ behind) cut.whole ∙ append_assoc cut.front cut.back behind);
    head_derives = l;
    init_derives = cut.before;
    last_derives = cut.here;
    meant = core a more ∙ ap (fold join (core_of text a)) is ∙ fold-append join (core_of text a) init (last ∷ []);
  }

  pub whole_chained : (a : ExprTree) (x : A) (xs : List A) (us vs behind : List Token) → L us a → many M vs (x ∷ xs)
      → Chained L M make join text (whole (make a (x ∷ xs)) ((us ++ vs) ++ behind)) (core_of text (make a (x ∷ xs)))
  whole_chained a x xs us vs behind l m =
      elim (snoc (x ∷ xs)) [
        | inl none ↦ absurd cc
        | inr s ↦ cut_chained a (x ∷ xs) us vs behind l s.0 s.1 s.2
            (many_snoc M vs s.0 s.1 (subst (many M vs) s.2 m))
      ]

  -- a chain is shown, where its head is, and the operands of its nodes stand
  module _ (first : Shows L (Shown text))
      (next : (f : Form) (e : Expr) → Chained L M make join text f e → (i : ℕ) (y : Expr)
      → slice_get (operands_of e) i ≡ Some y → Next text f i y)
      (seen : (ts : List Token) (a : ExprTree) (more : List A) → Follows text ts (make a more)
      → Shown text ts (make a more)) where
    joined_shown : (us vs : List Token) (a : ExprTree) (more : List A) → L us a → many M vs more
        → Shown text (us ++ vs) (joined make a more)
    joined_shown us vs a [] l m =
        subst (λ ts. Shown text ts a) (sym (ap (λ ws. us ++ ws) m ∙ append-nil us)) (first us a l)
    joined_shown us vs a (x ∷ xs) l m =
        seen (us ++ vs) a (x ∷ xs)
        (λ behind i y found. next (whole (make a (x ∷ xs)) ((us ++ vs) ++ behind)) (core_of text (make a (x ∷ xs)))
        (whole_chained a x xs us vs behind l m) i y found)

    pub chain_shows : Shows (g.chain L M make) (Shown text)
    chain_shows =
        both_shows (Shown text)
        (λ us a l. end_shows (joined make a) (λ vs x. Shown text (us ++ vs) x)
        (λ vs more m. joined_shown us vs a more l m))

module _ (text : List ℕ) (levels : ℕ) where
  -- ## Chains of operands

  signed_of : (kind : TokenKind) (L : Lang ExprTree) → ((ts : List Token) (x : ExprTree) → L ts x → any_expr ts x)
      → (ts : List Token) (x : ExprTree) → lang.◌>>◌ (lang.one kind) L ts x → Signed ts x
  signed_of kind L up ts x d = record {
    sign = d.value;
    rest = d.back;
    whole = d.whole ∙ ap (λ us. us ++ d.back) d.first.0;
    derives = up d.back x d.second;
  }

  pub is_product : IsChain (g.unary (is_positive levels) (expr levels))
      (lang.◌>>◌ (lang.one k.Star) (g.unary (is_positive levels) (expr levels))) t.Product (factor_step text) text
      (λ x. x)
  is_product = record {
    head_up = unary_up levels;
    piece_up = signed_of k.Star _ (unary_up levels);
    operands = λ e x. ap operands_in (core.outs-Binary Multiply e (core_of text x));
    goes = λ a more f i. ap (λ y. operand_step y f i) (t.outs-Product a more);
    stands = λ f e c. product_stands levels c;
  }

  pub is_and : IsChain (g.relation (is_positive levels) (expr levels))
      (lang.◌>>◌ (lang.one k.And) (g.relation (is_positive levels) (expr levels))) t.And (and_step text) text (λ x. x)
  is_and = record {
    head_up = relation_up levels;
    piece_up = signed_of k.And _ (relation_up levels);
    operands = λ e x. ap operands_in (core.outs-And e (core_of text x));
    goes = λ a more f i. ap (λ y. operand_step y f i) (t.outs-And a more);
    stands = λ f e c. and_stands levels c;
  }

  pub is_or : IsChain (g.conjunction (is_positive levels) (expr levels))
      (lang.◌>>◌ (lang.one k.Or) (g.conjunction (is_positive levels) (expr levels))) t.Or (or_step text) text (λ x. x)
  is_or = record {
    head_up = and_up levels;
    piece_up = signed_of k.Or _ (and_up levels);
    operands = λ e x. ap operands_in (core.outs-Or e (core_of text x));
    goes = λ a more f i. ap (λ y. operand_step y f i) (t.outs-Or a more);
    stands = λ f e c. or_stands levels c;
  }

  term_signed : Shows (g.term (is_positive levels) (expr levels)) (λ ts x. Signed ts x.operand)
  term_signed =
      both_shows (λ ts x. Signed ts x.operand)
      (λ us sign d. end_shows (λ x. record { sign = sign; operand = x }) (λ vs x. Signed (us ++ vs) x.operand)
      (λ vs x m. record {
        sign = d.0;
        rest = vs;
        whole = ap (λ ws. ws ++ vs) d.1;
        derives = product_up levels vs x m;
      }))

  pub is_sum : IsChain (g.product (is_positive levels) (expr levels)) (g.term (is_positive levels) (expr levels)) t.Sum
      (term_step text) text (λ x. x.operand)
  is_sum = record {
    head_up = product_up levels;
    piece_up = term_signed;
    operands = λ e x. ap operands_in (core.outs-Binary _ e (core_of text x.operand));
    goes = λ a more f i. ap (λ y. operand_step y f i) (t.outs-Sum a more);
    stands = λ f e c. sum_stands levels c;
  }

  -- ## Productions

  literal_shows : Shows g.literal (Shown text)
  literal_shows =
      or_shows (Shown text) (end_shows t.Boolean (Shown text) (λ us a d. step.boolean_shown text us a))
      (or_shows (Shown text) (end_shows t.Number (Shown text) (λ us a d. step.number_shown text us a))
      (end_shows t.Text (Shown text) (λ us a d. step.text_shown text us a)))

  -- arguments in parentheses
  call_shows : Shows (g.call (is_positive levels) (expr levels)) (Shown text)
  call_shows =
      both_shows (Shown text)
      (λ ps path p. end_shows (t.Call path) (λ vs x. Shown text (ps ++ vs) x)
      (past_shows (only k.LParen) (λ vs found. Shown text (ps ++ vs) (t.Call path found))
      (λ opening. both_shows (λ vs found. Shown text (ps ++ opening ∷ vs) (t.Call path found))
      (λ us found d. past_shows (only k.RParen) (λ vs xs. Shown text (ps ++ opening ∷ (us ++ vs)) (t.Call path xs))
      (λ closing. nothing_shows found (λ vs xs. Shown text (ps ++ opening ∷ (us ++ closing ∷ vs)) (t.Call path xs))
      (row.call_shown text levels ps us opening closing path found p d))))))

  named_shows : Shows (g.named (is_positive levels) (expr levels)) (Shown text)
  named_shows =
      or_shows (Shown text) (end_shows t.Variable (Shown text) (λ us a d. step.variable_shown text us a))
      (or_shows (Shown text) (end_shows t.Uid (Shown text) (λ us a d. step.uid_shown text us a))
      (gate_shows (Shown text) (is_positive levels) (g.call (is_positive levels) (expr levels)) call_shows))

  parenthesized_shows : Shows (g.parenthesized (is_positive levels) (expr levels)) (Shown text)
  parenthesized_shows =
      past_shows (only k.LParen) (Shown text)
      (λ opening. both_shows (λ vs x. Shown text (opening ∷ vs) x)
      (λ us a d. past_shows (only k.RParen) (λ vs x. Shown text (opening ∷ (us ++ vs)) x)
      (λ closing. nothing_shows (t.Parentheses a) (λ vs x. Shown text (opening ∷ (us ++ closing ∷ vs)) x)
      (shown text (opening ∷ (us ++ closing ∷ [])) (t.Parentheses a) _ (t.outs-Parentheses a)
      (record { opening = opening; inside = us; closing = closing; written = refl; derives = any_inner levels us a d })))))

  set_shows : Shows (g.set (is_positive levels) (expr levels)) (Shown text)
  set_shows =
      past_shows (only k.LBracket) (Shown text)
      (λ opening. both_shows (λ vs x. Shown text (opening ∷ vs) x)
      (λ us found d. past_shows (only k.RBracket) (λ vs x. Shown text (opening ∷ (us ++ vs)) x)
      (λ closing. nothing_shows (t.Set found) (λ vs x. Shown text (opening ∷ (us ++ closing ∷ vs)) x)
      (row.set_shown text levels opening closing us found d))))

  braced_shows : Shows (g.braced (is_positive levels) (expr levels)) (Shown text)
  braced_shows =
      past_shows (only k.LBrace) (Shown text)
      (λ opening. both_shows (λ vs x. Shown text (opening ∷ vs) x)
      (λ us found d. past_shows (only k.RBrace) (λ vs x. Shown text (opening ∷ (us ++ vs)) x)
      (λ closing. nothing_shows (t.Record found) (λ vs x. Shown text (opening ∷ (us ++ closing ∷ vs)) x)
      (row.record_shown text levels opening closing us found d))))

  primary_shows : Shows (g.primary (is_positive levels) (expr levels)) (Shown text)
  primary_shows =
      or_shows (Shown text) named_shows
      (or_shows (Shown text)
      (gate_shows (Shown text) (is_positive levels) (g.nested (is_positive levels) (expr levels))
      (or_shows (Shown text) parenthesized_shows (or_shows (Shown text) set_shows braced_shows)))
      literal_shows)

  member_shows : Shows (g.member (is_positive levels) (expr levels)) (Shown text)
  member_shows =
      chain_shows (g.primary (is_positive levels) (expr levels))
      (lang.◌or◌ (g.dotted (is_positive levels) (expr levels)) g.indexed) t.Member (access_step text) text
      (λ a more. cores.core-Member text a more ∙ fold-map (accessed text) (in_access (core_of text)) (core_of text a) more)
      primary_shows (λ f e c i y h. member_next levels text f e c i y h)
      (λ ts a more d. shown text ts (t.Member a more) _ (t.outs-Member a more) d)

  signed_shows : Shows (g.unary (is_positive levels) (expr levels)) (Shown text)
  signed_shows =
      or_shows (Shown text)
      (or_shows (Shown text)
      (past_shows (only k.Not) (Shown text)
      (λ sign. end_shows t.Not (λ vs x. Shown text (sign ∷ vs) x)
      (λ us a d. step.not_shown text sign us a (not_up levels us a d))))
      member_shows)
      (or_shows (Shown text)
      (past_shows (only k.Minus) (Shown text)
      (λ sign. end_shows t.Minus (λ vs x. Shown text (sign ∷ vs) x)
      (λ us a d. step.minus_shown text sign us a (minus_up levels us a d))))
      member_shows)

  product_shows : Shows (g.product (is_positive levels) (expr levels)) (Shown text)
  product_shows =
      chain_shows (g.unary (is_positive levels) (expr levels))
      (lang.◌>>◌ (lang.one k.Star) (g.unary (is_positive levels) (expr levels))) t.Product (factor_step text) text
      (λ a more. cores.core-Product text a more ∙ fold-map (core.Binary Multiply) (core_of text) (core_of text a) more)
      signed_shows (chain_next _ _ t.Product (factor_step text) text (λ x. x) is_product)
      (λ ts a more d. shown text ts (t.Product a more) _ (t.outs-Product a more) d)

  sum_shows : Shows (g.sum (is_positive levels) (expr levels)) (Shown text)
  sum_shows =
      chain_shows (g.product (is_positive levels) (expr levels)) (g.term (is_positive levels) (expr levels)) t.Sum
      (term_step text) text
      (λ a more. cores.core-Sum text a more ∙ fold-map added (in_term (core_of text)) (core_of text a) more)
      product_shows (chain_next _ _ t.Sum (term_step text) text (λ x. x.operand) is_sum)
      (λ ts a more d. shown text ts (t.Sum a more) _ (t.outs-Sum a more) d)

  -- what stands behind a sum
  compared_shows : (us : List Token) (a : ExprTree) → g.sum (is_positive levels) (expr levels) us a
      → Shows (g.compared (is_positive levels) (expr levels) a) (λ vs x. Shown text (us ++ vs) x)
  compared_shows us a l =
      both_shows (λ vs x. Shown text (us ++ vs) x)
      (λ os operator o. end_shows (t.Compare a operator) (λ vs x. Shown text (us ++ (os ++ vs)) x)
      (λ vs b r. subst (λ ws. Shown text (us ++ (ws ++ vs)) (t.Compare a operator b)) (sym o.1)
      (step.compare_shown text levels us vs o.0 a b operator (o.0, refl, o.2) l r)))

  has_shows : (us : List Token) (a : ExprTree) → g.sum (is_positive levels) (expr levels) us a
      → Shows (g.has (is_positive levels) (expr levels) a) (λ vs x. Shown text (us ++ vs) x)
  has_shows us a l =
      past_shows (only k.Has) (λ vs x. Shown text (us ++ vs) x)
      (λ has. end_shows (t.Has a) (λ vs x. Shown text (us ++ has ∷ vs) x)
      (λ vs key d. step.has_shown text us (has ∷ vs) a key (sum_up levels us a l)))

  like_shows : (us : List Token) (a : ExprTree) → g.sum (is_positive levels) (expr levels) us a
      → Shows (g.like (is_positive levels) (expr levels) a) (λ vs x. Shown text (us ++ vs) x)
  like_shows us a l =
      past_shows (only k.Like) (λ vs x. Shown text (us ++ vs) x)
      (λ like. end_shows (t.Like a) (λ vs x. Shown text (us ++ like ∷ vs) x)
      (λ vs token d. step.like_shown text us (like ∷ vs) a token (sum_up levels us a l)))

  -- `is T`, with or without `in b`
  tested_shown : (us ps : List Token) (word : Token) → lang.one k.Is (word ∷ []) word → (a : ExprTree) (path : PathTree)
      → g.sum (is_positive levels) (expr levels) us a → names.path ps path
      → (vs : List Token) (o : Option ExprTree)
      → lang.optional (g.inside (is_positive levels) (expr levels)) vs o
      → Shown text (us ++ word ∷ (ps ++ vs)) (is_in a path o)
  tested_shown us ps word is a path l p vs None d =
      step.is_shown text us (word ∷ (ps ++ vs)) a path (sum_up levels us a l)
  tested_shown us ps word is a path l p vs (Some b) d =
      subst (λ ws. Shown text (us ++ word ∷ (ps ++ ws)) (t.IsIn a path b))
      (sym (d.whole ∙ ap (λ ws. ws ++ d.back) d.first.0))
      (step.is_in_shown text levels us ps d.back word d.value a path b is (refl, d.first.1) l p d.second)

  type_shows : (us : List Token) (a : ExprTree) → g.sum (is_positive levels) (expr levels) us a
      → Shows (g.type_test (is_positive levels) (expr levels) a) (λ vs x. Shown text (us ++ vs) x)
  type_shows us a l ts x d =
      both_shows (λ vs x. Shown text (us ++ vs) x)
      (λ ws word o. both_shows (λ vs x. Shown text (us ++ (ws ++ vs)) x)
      (λ ps path p. end_shows (is_in a path) (λ vs x. Shown text (us ++ (ws ++ (ps ++ vs))) x)
      (λ vs b i. subst (λ rs. Shown text (us ++ (rs ++ (ps ++ vs))) (is_in a path b)) (sym o.0)
      (tested_shown us ps word (refl, o.1) a path l p vs b i)))) ts x d

  relation_shows : Shows (g.relation (is_positive levels) (expr levels)) (Shown text)
  relation_shows =
      both_shows (Shown text)
      (λ us a l. or_shows (λ vs x. Shown text (us ++ vs) x) (compared_shows us a l)
      (or_shows (λ vs x. Shown text (us ++ vs) x) (has_shows us a l)
      (or_shows (λ vs x. Shown text (us ++ vs) x) (like_shows us a l)
      (or_shows (λ vs x. Shown text (us ++ vs) x) (type_shows us a l)
      (nothing_shows a (λ vs x. Shown text (us ++ vs) x)
      (subst (λ ts. Shown text ts a) (sym (append-nil us)) (sum_shows us a l)))))))

  conjunction_shows : Shows (g.conjunction (is_positive levels) (expr levels)) (Shown text)
  conjunction_shows =
      chain_shows (g.relation (is_positive levels) (expr levels))
      (lang.◌>>◌ (lang.one k.And) (g.relation (is_positive levels) (expr levels))) t.And (and_step text) text
      (λ a more. cores.core-And text a more ∙ fold-map core.And (core_of text) (core_of text a) more)
      relation_shows (chain_next _ _ t.And (and_step text) text (λ x. x) is_and)
      (λ ts a more d. shown text ts (t.And a more) _ (t.outs-And a more) d)

  disjunction_shows : Shows (g.disjunction (is_positive levels) (expr levels)) (Shown text)
  disjunction_shows =
      chain_shows (g.conjunction (is_positive levels) (expr levels))
      (lang.◌>>◌ (lang.one k.Or) (g.conjunction (is_positive levels) (expr levels))) t.Or (or_step text) text
      (λ a more. cores.core-Or text a more ∙ fold-map core.Or (core_of text) (core_of text a) more)
      conjunction_shows (chain_next _ _ t.Or (or_step text) text (λ x. x) is_or)
      (λ ts a more d. shown text ts (t.Or a more) _ (t.outs-Or a more) d)

  conditional_shows : Shows (g.conditional (is_positive levels) (expr levels)) (Shown text)
  conditional_shows =
      past_shows (only k.If) (Shown text)
      (λ if_token. both_shows (λ vs x. Shown text (if_token ∷ vs) x)
      (λ us a da. both_shows (λ vs x. Shown text (if_token ∷ (us ++ vs)) x)
      (λ us' b db. end_shows (t.If a b) (λ vs x. Shown text (if_token ∷ (us ++ (us' ++ vs))) x)
      (λ vs' c dc.
      let first : us' ≡ db.value ∷ db.back = db.whole ∙ ap (λ ws. ws ++ db.back) db.first.0 in
      let second : vs' ≡ dc.value ∷ dc.back = dc.whole ∙ ap (λ ws. ws ++ dc.back) dc.first.0 in
      subst (λ ws. Shown text (if_token ∷ (us ++ (ws ++ vs'))) (t.If a b c)) (sym first)
      (subst (λ ws. Shown text (if_token ∷ (us ++ (db.value ∷ (db.back ++ ws)))) (t.If a b c)) (sym second)
      (step.if_shown text us db.back dc.back if_token db.value dc.value a b c (any_inner levels us a da)
      (any_inner levels db.back b db.second) (any_inner levels dc.back c dc.second)))))))

  pub level_shows : Shows (g.level (is_positive levels) (expr levels)) (Shown text)
  level_shows =
      or_shows (Shown text) (gate_shows (Shown text) (is_positive levels) (g.conditional (is_positive levels) (expr levels)) conditional_shows) disjunction_shows

pub any_shows : (text : List ℕ) → Shows any_expr (Shown text)
unfolding expr
any_shows text ts x d = level_shows text d.0 ts x d.1
