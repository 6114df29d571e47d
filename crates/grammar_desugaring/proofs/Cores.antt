-- What each form of tree stands for: the equations of `core_of`.
use Rattle.std.proofs.Common.{◌≡◌, ℕ, Bool, refl, ap, ◌∙◌, sym, List, map}
use Rattle.std.specs.List.{fold}
use Rattle.grammar_syntax.specs.declared.token.Token.{Token}
use Rattle.grammar_syntax.specs.Lexing.{spelling_of}
use Rattle.grammar_syntax.specs.declared.name_trees.PathTree.{PathTree}
use Rattle.grammar_syntax.specs.declared.name_trees.UidTree.{UidTree}
use Rattle.grammar_syntax.specs.declared.tree.Access.{Access}
use Rattle.grammar_syntax.specs.declared.tree.Access.TheVariants as access
use Rattle.grammar_syntax.specs.declared.tree.Comparison.{Comparison}
use Rattle.grammar_syntax.specs.declared.tree.RecordEntry.{RecordEntry}
use Rattle.grammar_syntax.specs.declared.tree.KeyTree.{KeyTree}
use Rattle.grammar_syntax.specs.declared.tree.RequestKeyword.{RequestKeyword}
use Rattle.grammar_syntax.specs.declared.tree.Term.{Term}
use Rattle.grammar_syntax.specs.declared.tree.ExprTree.{ExprTree, out-ExprTree, roll-ExprTree, map-ExprTree}
use Rattle.grammar_syntax.specs.declared.tree.ExprTree.{fold_out-ExprTree, roll-out-ExprTree}
use Rattle.grammar_syntax.specs.declared.tree.ExprTree.TheVariants as t
use Rattle.grammar_syntax.specs.declared.tree.ExprTree.TheOpen.{ExprTree-F as tree}
use Rattle.grammar_syntax.specs.declared.tree.ExprTree.TheFolds.{fold-roll-ExprTree}
use Rattle.grammar_core.specs.declared.leaf.Literal.TheVariants as literal
use Rattle.grammar_core.specs.declared.operator.Unary.TheVariants.{Not, Negate, Like, Is}
use Rattle.grammar_core.specs.declared.operator.Binary.TheVariants.{In, Multiply}
use Rattle.grammar_core.specs.declared.expr.Expr.TheVariants as core
use Rattle.grammar_desugaring.specs.Numbers.{positive, negative}
use Rattle.grammar_desugaring.specs.Strings.{value_of, pattern_of}
use Rattle.grammar_desugaring.specs.Meaning.{variable_of, path_name, uid_of, name_of}
use Rattle.grammar_desugaring.specs.Core.{Meaning, core_step, meaning, core_of, negated, long, compared, accessed, added, field}
use Rattle.grammar_desugaring.specs.Core.{in_term, in_entry, in_access, called, function}
use Rattle.grammar_desugaring.proofs.Lists.{map_map, map_accesses}

module _ (text : List ℕ) where
  pub core-Boolean : (value : Bool) → core_of text (t.Boolean value) ≡ core.Literal (literal.Boolean value)
  core-Boolean value =
      ap (core_of text) (sym (t.rolls-Boolean value)) ∙ ap (λ m. m.alone) (fold-roll-ExprTree Meaning (core_step text) (tree.Boolean value))

  pub core-Number : (token : Token) → core_of text (t.Number token) ≡ long (positive (spelling_of text token))
  core-Number token =
      ap (core_of text) (sym (t.rolls-Number token)) ∙ ap (λ m. m.alone) (fold-roll-ExprTree Meaning (core_step text) (tree.Number token))

  pub core-Text : (token : Token) → core_of text (t.Text token) ≡ core.Literal (literal.Text (value_of (spelling_of text token)))
  core-Text token =
      ap (core_of text) (sym (t.rolls-Text token)) ∙ ap (λ m. m.alone) (fold-roll-ExprTree Meaning (core_step text) (tree.Text token))

  pub core-Variable : (word : RequestKeyword) → core_of text (t.Variable word) ≡ core.Variable (variable_of word)
  core-Variable word =
      ap (core_of text) (sym (t.rolls-Variable word)) ∙ ap (λ m. m.alone) (fold-roll-ExprTree Meaning (core_step text) (tree.Variable word))

  pub core-Uid : (uid : UidTree) → core_of text (t.Uid uid) ≡ core.Literal (literal.Entity (uid_of text uid))
  core-Uid uid =
      ap (core_of text) (sym (t.rolls-Uid uid)) ∙ ap (λ m. m.alone) (fold-roll-ExprTree Meaning (core_step text) (tree.Uid uid))

  pub core-Call : (path : PathTree) (arguments : List ExprTree) → core_of text (t.Call path arguments) ≡ called (function text path) (map (core_of text) arguments)
  core-Call path arguments =
      ap (core_of text) (sym (t.rolls-Call path arguments)) ∙ ap (λ m. m.alone) (fold-roll-ExprTree Meaning (core_step text) (tree.Call path arguments)) ∙ ap (called (function text path)) (map_map (λ m. m.alone) (meaning text) arguments)

  pub core-Parentheses : (a : ExprTree) → core_of text (t.Parentheses a) ≡ core_of text a
  core-Parentheses a =
      ap (core_of text) (sym (t.rolls-Parentheses a)) ∙ ap (λ m. m.alone) (fold-roll-ExprTree Meaning (core_step text) (tree.Parentheses a))

  pub core-Set : (members : List ExprTree) → core_of text (t.Set members) ≡ core.Set (map (core_of text) members)
  core-Set members =
      ap (core_of text) (sym (t.rolls-Set members)) ∙ ap (λ m. m.alone) (fold-roll-ExprTree Meaning (core_step text) (tree.Set members)) ∙ ap core.Set (map_map (λ m. m.alone) (meaning text) members)

  pub core-Record : (entries : List (RecordEntry ExprTree)) → core_of text (t.Record entries) ≡ core.Record (map (field text) (map (in_entry (core_of text)) entries))
  core-Record entries =
      ap (core_of text) (sym (t.rolls-Record entries)) ∙ ap (λ m. m.alone) (fold-roll-ExprTree Meaning (core_step text) (tree.Record entries)) ∙ ap (λ es. core.Record (map (field text) es)) (map_map (in_entry (λ m. m.alone)) _ entries)

  pub core-Member : (a : ExprTree) (accesses : List (Access (List ExprTree))) → core_of text (t.Member a accesses) ≡ fold (accessed text) (core_of text a) (map (in_access (core_of text)) accesses)
  core-Member a accesses =
      ap (core_of text) (sym (t.rolls-Member a accesses)) ∙ ap (λ m. m.alone) (fold-roll-ExprTree Meaning (core_step text) (tree.Member a accesses)) ∙ ap (fold (accessed text) (core_of text a))
      (map_accesses (in_access (λ m. m.alone)) (in_access (core_of text)) _ (λ name. refl)
      (λ name arguments. ap (access.Method name) (map_map (λ m. m.alone) (meaning text) arguments)) accesses)

  pub core-Not : (a : ExprTree) → core_of text (t.Not a) ≡ core.Unary Not (core_of text a)
  core-Not a =
      ap (core_of text) (sym (t.rolls-Not a)) ∙ ap (λ m. m.alone) (fold-roll-ExprTree Meaning (core_step text) (tree.Not a))

  pub core-Minus : (a : ExprTree) → core_of text (t.Minus a) ≡ negated text a
  core-Minus a =
      ap (core_of text) (sym (t.rolls-Minus a)) ∙ ap (λ m. m.alone) (fold-roll-ExprTree Meaning (core_step text) (tree.Minus a))

  pub core-Product : (a : ExprTree) (more : List ExprTree) → core_of text (t.Product a more) ≡ fold (core.Binary Multiply) (core_of text a) (map (core_of text) more)
  core-Product a more =
      ap (core_of text) (sym (t.rolls-Product a more)) ∙ ap (λ m. m.alone) (fold-roll-ExprTree Meaning (core_step text) (tree.Product a more)) ∙ ap (fold (core.Binary Multiply) (core_of text a)) (map_map (λ m. m.alone) (meaning text) more)

  pub core-Sum : (a : ExprTree) (terms : List (Term ExprTree)) → core_of text (t.Sum a terms) ≡ fold added (core_of text a) (map (in_term (core_of text)) terms)
  core-Sum a terms =
      ap (core_of text) (sym (t.rolls-Sum a terms)) ∙ ap (λ m. m.alone) (fold-roll-ExprTree Meaning (core_step text) (tree.Sum a terms)) ∙ ap (fold added (core_of text a)) (map_map (in_term (λ m. m.alone)) _ terms)

  pub core-Compare : (a : ExprTree) (operator : Comparison) (b : ExprTree) → core_of text (t.Compare a operator b) ≡ compared operator (core_of text a) (core_of text b)
  core-Compare a operator b =
      ap (core_of text) (sym (t.rolls-Compare a operator b)) ∙ ap (λ m. m.alone) (fold-roll-ExprTree Meaning (core_step text) (tree.Compare a operator b))

  pub core-Has : (a : ExprTree) (key : KeyTree) → core_of text (t.Has a key) ≡ core.Has (core_of text a) (name_of text key)
  core-Has a key =
      ap (core_of text) (sym (t.rolls-Has a key)) ∙ ap (λ m. m.alone) (fold-roll-ExprTree Meaning (core_step text) (tree.Has a key))

  pub core-Like : (a : ExprTree) (token : Token) → core_of text (t.Like a token) ≡ core.Unary (Like (pattern_of (spelling_of text token))) (core_of text a)
  core-Like a token =
      ap (core_of text) (sym (t.rolls-Like a token)) ∙ ap (λ m. m.alone) (fold-roll-ExprTree Meaning (core_step text) (tree.Like a token))

  pub core-Is : (a : ExprTree) (path : PathTree) → core_of text (t.Is a path) ≡ core.Unary (Is (path_name text path)) (core_of text a)
  core-Is a path =
      ap (core_of text) (sym (t.rolls-Is a path)) ∙ ap (λ m. m.alone) (fold-roll-ExprTree Meaning (core_step text) (tree.Is a path))

  pub core-IsIn : (a : ExprTree) (path : PathTree) (b : ExprTree) → core_of text (t.IsIn a path b) ≡ core.And (core.Unary (Is (path_name text path)) (core_of text a)) (core.Binary In (core_of text a) (core_of text b))
  core-IsIn a path b =
      ap (core_of text) (sym (t.rolls-IsIn a path b)) ∙ ap (λ m. m.alone) (fold-roll-ExprTree Meaning (core_step text) (tree.IsIn a path b))

  pub core-And : (a : ExprTree) (more : List ExprTree) → core_of text (t.And a more) ≡ fold core.And (core_of text a) (map (core_of text) more)
  core-And a more =
      ap (core_of text) (sym (t.rolls-And a more)) ∙ ap (λ m. m.alone) (fold-roll-ExprTree Meaning (core_step text) (tree.And a more)) ∙ ap (fold core.And (core_of text a)) (map_map (λ m. m.alone) (meaning text) more)

  pub core-Or : (a : ExprTree) (more : List ExprTree) → core_of text (t.Or a more) ≡ fold core.Or (core_of text a) (map (core_of text) more)
  core-Or a more =
      ap (core_of text) (sym (t.rolls-Or a more)) ∙ ap (λ m. m.alone) (fold-roll-ExprTree Meaning (core_step text) (tree.Or a more)) ∙ ap (fold core.Or (core_of text a)) (map_map (λ m. m.alone) (meaning text) more)

  pub core-If : (a b c : ExprTree) → core_of text (t.If a b c) ≡ core.If (core_of text a) (core_of text b) (core_of text c)
  core-If a b c =
      ap (core_of text) (sym (t.rolls-If a b c)) ∙ ap (λ m. m.alone) (fold-roll-ExprTree Meaning (core_step text) (tree.If a b c))

  pub negated-Number : (token : Token) → negated text (t.Number token) ≡ long (negative (spelling_of text token))
  negated-Number token =
      ap (negated text) (sym (t.rolls-Number token)) ∙ ap (λ m. m.negated) (fold-roll-ExprTree Meaning (core_step text) (tree.Number token))

  -- behind a minus, a tree that is no number
  layer : (one : tree ExprTree) → ((token : Token) → one ≡ tree.Number token → ⊥) →
      (core_step text (map-ExprTree ExprTree Meaning (meaning text) one)).negated ≡ core.Unary Negate (core_step text (map-ExprTree ExprTree Meaning (meaning text) one)).alone
  layer (tree.Number token) other = absurd (other token refl)
  layer one other = refl

  pub negated-other : (a : ExprTree) → ((token : Token) → a ≡ t.Number token → ⊥) → negated text a ≡ core.Unary Negate (core_of text a)
  negated-other a other =
      let e = fold_out-ExprTree Meaning (core_step text) a in
      ap (λ m. m.negated) e
      ∙ layer (out-ExprTree a) (λ token h. other token (sym (roll-out-ExprTree a) ∙ ap roll-ExprTree h ∙ t.rolls-Number token))
      ∙ sym (ap (λ m. core.Unary Negate m.alone) e)
