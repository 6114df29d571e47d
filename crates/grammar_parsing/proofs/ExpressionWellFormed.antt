-- An expression's tree is made of the tokens that derive it: one rule a production.
use Rattle.std.proofs.Common.{ℕ, zero, suc, Bool, List, [], ◌∷◌, Option, Some, None}
use Rattle.std.specs.List.{AllByRecursion}
use Rattle.grammar_syntax.specs.declared.token.TokenKind.{TokenKind}
use Rattle.grammar_syntax.specs.declared.token.TokenKind.TheVariants as k
use Rattle.grammar_syntax.specs.declared.token.Token.{Token}
use Rattle.grammar_syntax.specs.declared.name_trees.PathTree.{PathTree}
use Rattle.grammar_syntax.specs.declared.tree.Access.TheVariants as access
use Rattle.grammar_syntax.specs.declared.tree.ExprTree.{ExprTree}
use Rattle.grammar_syntax.specs.declared.tree.KeyTree.TheVariants.{Word, Quoted}
use Rattle.grammar_syntax.specs.declared.tree.ExprTree.TheVariants as tree
use Rattle.grammar_syntax.specs.Kinds.{only}
use Rattle.grammar_syntax.specs.Lang.{Lang}
use Rattle.grammar_syntax.specs.Lang as lang
use Rattle.grammar_syntax.specs.Grammar.{identifiers}
use Rattle.grammar_parsing.specs.Expressions as g
use Rattle.grammar_parsing.specs.Expressions.{boolean_of, variable_of, sign_of, comparison_of, patterns, joined}
use Rattle.grammar_parsing.specs.Expressions.{accessed, is_in, is_positive, expr}
use Rattle.grammar_syntax.specs.WellFormed.{WellFormedToken, WellFormedPath, WellFormedExpr}
use Rattle.grammar_syntax.proofs.WellFormedLemmas.{Makes, token_in, nothing_in, both_in, past_in}
use Rattle.grammar_syntax.proofs.WellFormedLemmas.{giving_in, or_in, maybe_in, many_in, gate_in}
use Rattle.grammar_syntax.proofs.WellFormedLemmas.{path_in, uid_in}
use Rattle.grammar_parsing.proofs.SymbolRules.{symbol_in}
use Rattle.grammar_parsing.proofs.TreeWellFormed as form
use Rattle.grammar_parsing.proofs.TreeWellFormed.{Tree, Trees, WellFormedKey, WellFormedAccess, WellFormedEntry}
use Rattle.grammar_parsing.proofs.TreeWellFormed.{WellFormedTerm}

module _ (all : List Token) where
  joined_stands : {A : Type 0} (make : ExprTree → List A → ExprTree) (P : A → Type 0) → ((x : ExprTree) (more : List A) → Tree all x → AllByRecursion P more → Tree all (make x more))
      → (x : ExprTree) (more : List A) → Tree all x → AllByRecursion P more → Tree all (joined make x more)
  joined_stands make P each x [] h m = h
  joined_stands make P each x (next ∷ more) h m = each x (next ∷ more) h m

  chain_in : {A : Type 0} (first : Lang ExprTree) (piece : Lang A) (make : ExprTree → List A → ExprTree) (P : A → Type 0) → Makes all first (Tree all) → Makes all piece P
      → ((x : ExprTree) (more : List A) → Tree all x → AllByRecursion P more → Tree all (make x more)) → Makes all (g.chain first piece make) (Tree all)
  chain_in first piece make P f p each =
      both_in all f (λ x h. both_in all (many_in all piece P p) (λ more m. nothing_in all _ (joined make x more) (joined_stands make P each x more h m)))

  literal_in : Makes all g.literal (Tree all)
  literal_in =
      or_in all (giving_in all _ tree.Boolean (symbol_in all boolean_of) (λ value _. form.of-Boolean all value))
      (or_in all (giving_in all _ tree.Number (token_in all (only k.Number)) (form.of-Number all)) (giving_in all _ tree.Text (token_in all (only k.Text)) (form.of-Text all)))

  key_in : Makes all g.key (WellFormedKey all)
  key_in =
      or_in all (giving_in all (WellFormedKey all) Word (token_in all identifiers) (λ t h. h)) (giving_in all (WellFormedKey all) Quoted (token_in all (only k.Text)) (λ t h. h))

  indexed_in : Makes all g.indexed (WellFormedAccess all)
  indexed_in =
      past_in all (both_in all (token_in all (only k.Text)) (λ name t. past_in all (nothing_in all _ (access.Field (Quoted name)) (t, tt))))

  -- a method's arguments, or none for a field
  abbrev MaybeTrees : Option (List ExprTree) → Type 0
  MaybeTrees None = Unit {0}
  MaybeTrees (Some xs) = Trees all xs

  accessed_stands : (name : Token) (found : Option (List ExprTree)) → WellFormedToken identifiers all name → MaybeTrees found → WellFormedAccess all (accessed name found)
  accessed_stands name None t s = (t, tt)
  accessed_stands name (Some xs) t s = (t, form.of_trees all xs s)

  is_in_stands : (x : ExprTree) (path : PathTree) → Tree all x → WellFormedPath all path → (y : ExprTree) → Tree all y → Tree all (is_in x path (Some y))
  is_in_stands x path h p y s = form.of-IsIn all x path y h p s

  -- over the expressions of one level less
  module _ (may : Bool) (inner : Lang ExprTree) (each : Makes all inner (Tree all)) where
    next_in : (kind : TokenKind) → Makes all (lang.◌>>◌ (lang.one kind) inner) (Tree all)
    next_in kind = past_in all each

    arguments_in : Makes all (g.arguments may inner) (Trees all)
    arguments_in =
        or_in all
        (both_in all each (λ first f. both_in all (many_in all (lang.◌>>◌ (lang.one k.Comma) inner) (Tree all) (next_in k.Comma)) (λ more m. nothing_in all _ (first ∷ more) (f, m))))
        (nothing_in all _ [] tt)

    called_in : Makes all (g.called may inner) (Trees all)
    called_in = past_in all (both_in all arguments_in (λ found f. past_in all (nothing_in all _ found f)))

    call_in : Makes all (g.call may inner) (Tree all)
    call_in = both_in all (path_in all) (λ name n. both_in all called_in (λ found f. nothing_in all _ (tree.Call name found) (form.of-Call all name found n f)))

    named_in : Makes all (g.named may inner) (Tree all)
    named_in =
        or_in all (giving_in all _ tree.Variable (symbol_in all variable_of) (λ variable _. form.of-Variable all variable))
        (or_in all (giving_in all _ tree.Uid (uid_in all) (form.of-Uid all)) (gate_in all may (g.call may inner) call_in))

    parenthesized_in : Makes all (g.parenthesized may inner) (Tree all)
    parenthesized_in = past_in all (both_in all each (λ x h. past_in all (nothing_in all _ (tree.Parentheses x) (form.of-Parentheses all x h))))

    set_in : Makes all (g.set may inner) (Tree all)
    set_in = past_in all (both_in all arguments_in (λ found f. past_in all (nothing_in all _ (tree.Set found) (form.of-Set all found f))))

    entry_in : Makes all (g.entry may inner) (WellFormedEntry all)
    entry_in =
        both_in all key_in (λ key t. past_in all (both_in all each (λ x h. nothing_in all _ (record { key = key; value = x }) (t, h.parts))))

    entries_in : Makes all (g.entries may inner) (AllByRecursion (WellFormedEntry all))
    entries_in =
        or_in all
        (both_in all entry_in (λ first f. both_in all (many_in all (lang.◌>>◌ (lang.one k.Comma) (g.entry may inner)) (WellFormedEntry all) (past_in all entry_in)) (λ more m. nothing_in all _ (first ∷ more) (f, m))))
        (nothing_in all _ [] tt)

    braced_in : Makes all (g.braced may inner) (Tree all)
    braced_in = past_in all (both_in all entries_in (λ found f. past_in all (nothing_in all _ (tree.Record found) (form.of-Record all found f))))

    nested_in : Makes all (g.nested may inner) (Tree all)
    nested_in = or_in all parenthesized_in (or_in all set_in braced_in)

    primary_in : Makes all (g.primary may inner) (Tree all)
    primary_in = or_in all named_in (or_in all (gate_in all may (g.nested may inner) nested_in) literal_in)

    given_in : Makes all (lang.◌giving◌ (g.called may inner) Some) MaybeTrees
    given_in = giving_in all _ Some called_in (λ xs s. s)

    maybe_called_in : Makes all (g.maybe_called may inner) MaybeTrees
    maybe_called_in = or_in all (gate_in all may (lang.◌giving◌ (g.called may inner) Some) given_in) (nothing_in all _ None tt)

    dotted_in : Makes all (g.dotted may inner) (WellFormedAccess all)
    dotted_in =
        past_in all
        (both_in all (token_in all identifiers)
        (λ name t. both_in all maybe_called_in (λ found s. nothing_in all _ (accessed name found) (accessed_stands name found t s))))

    member_in : Makes all (g.member may inner) (Tree all)
    member_in =
        chain_in (g.primary may inner) (lang.◌or◌ (g.dotted may inner) g.indexed) tree.Member (WellFormedAccess all) primary_in (or_in all dotted_in indexed_in) (form.of-Member all)

    signed_in : (sign : TokenKind) (make : ExprTree → ExprTree) (n : ℕ) → ((x : ExprTree) → Tree all x → Tree all (make x)) → Makes all (g.signed may inner sign make n) (Tree all)
    signed_in sign make zero h ts x d i = member_in ts x d i
    signed_in sign make (suc n) h ts x d i =
        or_in all (past_in all (both_in all (signed_in sign make n h) (λ x s. nothing_in all _ (make x) (h x s)))) member_in ts x d i

    unary_in : Makes all (g.unary may inner) (Tree all)
    unary_in = or_in all (signed_in k.Not tree.Not 4 (form.of-Not all)) (signed_in k.Minus tree.Minus 4 (form.of-Minus all))

    product_in : Makes all (g.product may inner) (Tree all)
    product_in =
        chain_in (g.unary may inner) (lang.◌>>◌ (lang.one k.Star) (g.unary may inner)) tree.Product (Tree all) unary_in (past_in all unary_in) (form.of-Product all)

    term_in : Makes all (g.term may inner) (WellFormedTerm all)
    term_in = both_in all (symbol_in all sign_of) (λ sign _. both_in all product_in (λ x h. nothing_in all _ (record { sign = sign; operand = x }) h.parts))

    sum_in : Makes all (g.sum may inner) (Tree all)
    sum_in = chain_in (g.product may inner) (g.term may inner) tree.Sum (WellFormedTerm all) product_in term_in (form.of-Sum all)

    compared_in : (x : ExprTree) → Tree all x → Makes all (g.compared may inner x) (Tree all)
    compared_in x h = both_in all (symbol_in all comparison_of) (λ operator _. both_in all sum_in (λ y s. nothing_in all _ (tree.Compare x operator y) (form.of-Compare all x operator y h s)))

    has_in : (x : ExprTree) → Tree all x → Makes all (g.has may inner x) (Tree all)
    has_in x h = past_in all (both_in all key_in (λ name t. nothing_in all _ (tree.Has x name) (form.of-Has all x name h t)))

    like_in : (x : ExprTree) → Tree all x → Makes all (g.like may inner x) (Tree all)
    like_in x h = past_in all (both_in all (token_in all patterns) (λ text t. nothing_in all _ (tree.Like x text) (form.of-Like all x text h t)))

    typed_in : (x : ExprTree) → Tree all x → Makes all (g.type_test may inner x) (Tree all)
    typed_in x h =
        past_in all
        (both_in all (path_in all)
        (λ path p. both_in all (maybe_in all (g.inside may inner) (λ y. Tree all (is_in x path y)) (past_in all sum_in) (form.of-Is all x path h p) (is_in_stands x path h p))
        (λ y s. nothing_in all _ (is_in x path y) s)))

    relation_in : Makes all (g.relation may inner) (Tree all)
    relation_in =
        both_in all sum_in (λ x h. or_in all (compared_in x h) (or_in all (has_in x h) (or_in all (like_in x h) (or_in all (typed_in x h) (nothing_in all _ x h)))))

    conjunction_in : Makes all (g.conjunction may inner) (Tree all)
    conjunction_in =
        chain_in (g.relation may inner) (lang.◌>>◌ (lang.one k.And) (g.relation may inner)) tree.And (Tree all) relation_in (past_in all relation_in) (form.of-And all)

    disjunction_in : Makes all (g.disjunction may inner) (Tree all)
    disjunction_in =
        chain_in (g.conjunction may inner) (lang.◌>>◌ (lang.one k.Or) (g.conjunction may inner)) tree.Or (Tree all) conjunction_in (past_in all conjunction_in) (form.of-Or all)

    conditional_in : Makes all (g.conditional may inner) (Tree all)
    conditional_in =
        past_in all
        (both_in all each
        (λ test a. both_in all (next_in k.Then)
        (λ consequent b. both_in all (next_in k.Else)
        (λ alternative c. nothing_in all _ (tree.If test consequent alternative) (form.of-If all test consequent alternative a b c)))))

    level_in : Makes all (g.level may inner) (Tree all)
    level_in = or_in all (gate_in all may (g.conditional may inner) conditional_in) disjunction_in

  pub expr_in : (levels : ℕ) → Makes all (expr levels) (WellFormedExpr all)
  unfolding expr
  expr_in zero ts x d i = absurd d
  expr_in (suc levels) ts x d i = level_in (is_positive levels) (expr levels) (expr_in levels) ts x d i
