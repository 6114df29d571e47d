-- The faults of each form of tree: the equations of `faults_of`.
use Rattle.std.proofs.Common.{◌≡◌, ℕ, Bool, refl, ap, ◌∙◌, sym, List, [], ◌++◌, map, length}
use Rattle.std.specs.List.{flat_map}
use Rattle.grammar_syntax.specs.declared.token.Token.{Token}
use Rattle.grammar_syntax.specs.Lexing.{spelling_of}
use Rattle.grammar_syntax.specs.declared.name_trees.PathTree.{PathTree}
use Rattle.grammar_syntax.specs.declared.name_trees.UidTree.{UidTree}
use Rattle.grammar_syntax.specs.declared.tree.Access.{Access}
use Rattle.grammar_syntax.specs.declared.tree.Access.TheVariants as access
use Rattle.grammar_syntax.specs.declared.tree.Comparison.{Comparison}
use Rattle.grammar_syntax.specs.declared.tree.RecordEntry.{RecordEntry}
use Rattle.grammar_syntax.specs.declared.tree.KeyTree.{KeyTree}
use Rattle.grammar_syntax.specs.declared.tree.RequestKeyword.{RequestKeyword}
use Rattle.grammar_syntax.specs.declared.tree.Term.{Term}
use Rattle.grammar_syntax.specs.declared.tree.ExprTree.{ExprTree, out-ExprTree, roll-ExprTree, map-ExprTree}
use Rattle.grammar_syntax.specs.declared.tree.ExprTree.{fold_out-ExprTree, roll-out-ExprTree}
use Rattle.grammar_syntax.specs.declared.tree.ExprTree.TheVariants as t
use Rattle.grammar_syntax.specs.declared.tree.ExprTree.TheOpen.{ExprTree-F as tree}
use Rattle.grammar_syntax.specs.declared.tree.ExprTree.TheFolds.{fold-roll-ExprTree}
use Rattle.grammar_desugaring.specs.Numbers.{fits, fits_negated}
use Rattle.grammar_desugaring.specs.Core.{in_access}
use Rattle.grammar_desugaring.specs.Repeats.{repeat_faults}
use Rattle.grammar_desugaring.specs.Faults.{Faulty, fault_step, fault_meaning, faults_of, negated_faults, range}
use Rattle.grammar_desugaring.specs.Faults.{function_faults, access_faults, key_of}
use Rattle.grammar_syntax.proofs.Flat.{joined, flat_map_map, flat_map_each}
use Rattle.grammar_desugaring.proofs.Lists.{map_map, map_accesses, length-mapped}

module _ (text : List ℕ) where
  pub faults-Boolean : (value : Bool) → faults_of text (t.Boolean value) ≡ []
  faults-Boolean value =
      ap (faults_of text) (sym (t.rolls-Boolean value)) ∙ ap (λ f. f.alone) (fold-roll-ExprTree Faulty (fault_step text) (tree.Boolean value))

  pub faults-Number : (token : Token) → faults_of text (t.Number token) ≡ range (fits (spelling_of text token)) token
  faults-Number token =
      ap (faults_of text) (sym (t.rolls-Number token)) ∙ ap (λ f. f.alone) (fold-roll-ExprTree Faulty (fault_step text) (tree.Number token))

  pub faults-Text : (token : Token) → faults_of text (t.Text token) ≡ []
  faults-Text token =
      ap (faults_of text) (sym (t.rolls-Text token)) ∙ ap (λ f. f.alone) (fold-roll-ExprTree Faulty (fault_step text) (tree.Text token))

  pub faults-Variable : (word : RequestKeyword) → faults_of text (t.Variable word) ≡ []
  faults-Variable word =
      ap (faults_of text) (sym (t.rolls-Variable word)) ∙ ap (λ f. f.alone) (fold-roll-ExprTree Faulty (fault_step text) (tree.Variable word))

  pub faults-Uid : (uid : UidTree) → faults_of text (t.Uid uid) ≡ []
  faults-Uid uid =
      ap (faults_of text) (sym (t.rolls-Uid uid)) ∙ ap (λ f. f.alone) (fold-roll-ExprTree Faulty (fault_step text) (tree.Uid uid))

  pub faults-Call : (path : PathTree) (arguments : List ExprTree) → faults_of text (t.Call path arguments) ≡ function_faults text path (length arguments) ++ flat_map (faults_of text) arguments
  faults-Call path arguments =
      ap (faults_of text) (sym (t.rolls-Call path arguments)) ∙ ap (λ f. f.alone) (fold-roll-ExprTree Faulty (fault_step text) (tree.Call path arguments)) ∙ ap (λ n. function_faults text path n ++ flat_map (λ f. f.alone) (map (fault_meaning text) arguments)) (length-mapped (fault_meaning text) arguments)
      ∙ ap (λ fs. function_faults text path (length arguments) ++ fs) (flat_map_map (λ f. f.alone) (fault_meaning text) arguments)

  pub faults-Parentheses : (a : ExprTree) → faults_of text (t.Parentheses a) ≡ faults_of text a
  faults-Parentheses a =
      ap (faults_of text) (sym (t.rolls-Parentheses a)) ∙ ap (λ f. f.alone) (fold-roll-ExprTree Faulty (fault_step text) (tree.Parentheses a))

  pub faults-Set : (members : List ExprTree) → faults_of text (t.Set members) ≡ flat_map (faults_of text) members
  faults-Set members =
      ap (faults_of text) (sym (t.rolls-Set members)) ∙ ap (λ f. f.alone) (fold-roll-ExprTree Faulty (fault_step text) (tree.Set members)) ∙ flat_map_map (λ f. f.alone) (fault_meaning text) members

  pub faults-Record : (entries : List (RecordEntry ExprTree)) → faults_of text (t.Record entries) ≡ repeat_faults (map (key_of text) entries) ++ flat_map (λ entry. faults_of text entry.value) entries
  faults-Record entries =
      ap (faults_of text) (sym (t.rolls-Record entries)) ∙ ap (λ f. f.alone) (fold-roll-ExprTree Faulty (fault_step text) (tree.Record entries)) ∙ joined (ap repeat_faults (map_map (key_of text) _ entries)) (flat_map_each (λ entry. entry.value.alone) (λ entry. faults_of text entry.value) _ (λ entry. refl) entries)

  pub faults-Member : (a : ExprTree) (accesses : List (Access (List ExprTree))) → faults_of text (t.Member a accesses) ≡ faults_of text a ++ flat_map (λ x. access_faults text (in_access (faults_of text) x)) accesses
  faults-Member a accesses =
      ap (faults_of text) (sym (t.rolls-Member a accesses)) ∙ ap (λ f. f.alone) (fold-roll-ExprTree Faulty (fault_step text) (tree.Member a accesses)) ∙ ap (λ xs. faults_of text a ++ flat_map (access_faults text) xs)
      (map_accesses (in_access (λ f. f.alone)) (in_access (faults_of text)) _ (λ name. refl)
      (λ name arguments. ap (access.Method name) (map_map (λ f. f.alone) (fault_meaning text) arguments)) accesses)
      ∙ ap (λ fs. faults_of text a ++ fs) (flat_map_map (access_faults text) (in_access (faults_of text)) accesses)

  pub faults-Not : (a : ExprTree) → faults_of text (t.Not a) ≡ faults_of text a
  faults-Not a =
      ap (faults_of text) (sym (t.rolls-Not a)) ∙ ap (λ f. f.alone) (fold-roll-ExprTree Faulty (fault_step text) (tree.Not a))

  pub faults-Minus : (a : ExprTree) → faults_of text (t.Minus a) ≡ negated_faults text a
  faults-Minus a =
      ap (faults_of text) (sym (t.rolls-Minus a)) ∙ ap (λ f. f.alone) (fold-roll-ExprTree Faulty (fault_step text) (tree.Minus a))

  pub faults-Product : (a : ExprTree) (more : List ExprTree) → faults_of text (t.Product a more) ≡ faults_of text a ++ flat_map (faults_of text) more
  faults-Product a more =
      ap (faults_of text) (sym (t.rolls-Product a more)) ∙ ap (λ f. f.alone) (fold-roll-ExprTree Faulty (fault_step text) (tree.Product a more)) ∙ ap (λ fs. faults_of text a ++ fs) (flat_map_map (λ f. f.alone) (fault_meaning text) more)

  pub faults-Sum : (a : ExprTree) (terms : List (Term ExprTree)) → faults_of text (t.Sum a terms) ≡ faults_of text a ++ flat_map (λ term. faults_of text term.operand) terms
  faults-Sum a terms =
      ap (faults_of text) (sym (t.rolls-Sum a terms)) ∙ ap (λ f. f.alone) (fold-roll-ExprTree Faulty (fault_step text) (tree.Sum a terms)) ∙ ap (λ fs. faults_of text a ++ fs) (flat_map_map (λ term. term.operand.alone) _ terms)

  pub faults-Compare : (a : ExprTree) (operator : Comparison) (b : ExprTree) → faults_of text (t.Compare a operator b) ≡ faults_of text a ++ faults_of text b
  faults-Compare a operator b =
      ap (faults_of text) (sym (t.rolls-Compare a operator b)) ∙ ap (λ f. f.alone) (fold-roll-ExprTree Faulty (fault_step text) (tree.Compare a operator b))

  pub faults-Has : (a : ExprTree) (key : KeyTree) → faults_of text (t.Has a key) ≡ faults_of text a
  faults-Has a key =
      ap (faults_of text) (sym (t.rolls-Has a key)) ∙ ap (λ f. f.alone) (fold-roll-ExprTree Faulty (fault_step text) (tree.Has a key))

  pub faults-Like : (a : ExprTree) (token : Token) → faults_of text (t.Like a token) ≡ faults_of text a
  faults-Like a token =
      ap (faults_of text) (sym (t.rolls-Like a token)) ∙ ap (λ f. f.alone) (fold-roll-ExprTree Faulty (fault_step text) (tree.Like a token))

  pub faults-Is : (a : ExprTree) (path : PathTree) → faults_of text (t.Is a path) ≡ faults_of text a
  faults-Is a path =
      ap (faults_of text) (sym (t.rolls-Is a path)) ∙ ap (λ f. f.alone) (fold-roll-ExprTree Faulty (fault_step text) (tree.Is a path))

  pub faults-IsIn : (a : ExprTree) (path : PathTree) (b : ExprTree) → faults_of text (t.IsIn a path b) ≡ faults_of text a ++ faults_of text b
  faults-IsIn a path b =
      ap (faults_of text) (sym (t.rolls-IsIn a path b)) ∙ ap (λ f. f.alone) (fold-roll-ExprTree Faulty (fault_step text) (tree.IsIn a path b))

  pub faults-And : (a : ExprTree) (more : List ExprTree) → faults_of text (t.And a more) ≡ faults_of text a ++ flat_map (faults_of text) more
  faults-And a more =
      ap (faults_of text) (sym (t.rolls-And a more)) ∙ ap (λ f. f.alone) (fold-roll-ExprTree Faulty (fault_step text) (tree.And a more)) ∙ ap (λ fs. faults_of text a ++ fs) (flat_map_map (λ f. f.alone) (fault_meaning text) more)

  pub faults-Or : (a : ExprTree) (more : List ExprTree) → faults_of text (t.Or a more) ≡ faults_of text a ++ flat_map (faults_of text) more
  faults-Or a more =
      ap (faults_of text) (sym (t.rolls-Or a more)) ∙ ap (λ f. f.alone) (fold-roll-ExprTree Faulty (fault_step text) (tree.Or a more)) ∙ ap (λ fs. faults_of text a ++ fs) (flat_map_map (λ f. f.alone) (fault_meaning text) more)

  pub faults-If : (a b c : ExprTree) → faults_of text (t.If a b c) ≡ faults_of text a ++ (faults_of text b ++ faults_of text c)
  faults-If a b c =
      ap (faults_of text) (sym (t.rolls-If a b c)) ∙ ap (λ f. f.alone) (fold-roll-ExprTree Faulty (fault_step text) (tree.If a b c))

  pub negated_faults-Number : (token : Token) → negated_faults text (t.Number token) ≡ range (fits_negated (spelling_of text token)) token
  negated_faults-Number token =
      ap (negated_faults text) (sym (t.rolls-Number token)) ∙ ap (λ f. f.negated) (fold-roll-ExprTree Faulty (fault_step text) (tree.Number token))

  -- behind a minus, a tree that is no number
  layer : (one : tree ExprTree) → ((token : Token) → one ≡ tree.Number token → ⊥) →
      (fault_step text (map-ExprTree ExprTree Faulty (fault_meaning text) one)).negated ≡ (fault_step text (map-ExprTree ExprTree Faulty (fault_meaning text) one)).alone
  layer (tree.Number token) other = absurd (other token refl)
  layer one other = refl

  pub negated_faults-other : (a : ExprTree) → ((token : Token) → a ≡ t.Number token → ⊥) → negated_faults text a ≡ faults_of text a
  negated_faults-other a other =
      let e = fold_out-ExprTree Faulty (fault_step text) a in
      ap (λ f. f.negated) e
      ∙ layer (out-ExprTree a) (λ token h. other token (sym (roll-out-ExprTree a) ∙ ap roll-ExprTree h ∙ t.rolls-Number token))
      ∙ sym (ap (λ f. f.alone) e)
