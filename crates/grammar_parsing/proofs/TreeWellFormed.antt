-- A tree stands where what it is made of does.
use Rattle.std.proofs.Common.{◌≡◌, Bool, sym, subst, List, [], ◌∷◌, ◌++◌}
use Rattle.std.specs.List.{AllByRecursion, flat_map}
use Rattle.grammar_syntax.specs.declared.token.TokenKind.TheVariants as k
use Rattle.grammar_syntax.specs.declared.token.Token.{Token}
use Rattle.grammar_syntax.specs.declared.name_trees.PathTree.{PathTree}
use Rattle.grammar_syntax.specs.declared.name_trees.UidTree.{UidTree}
use Rattle.grammar_syntax.specs.declared.tree.Access.{Access}
use Rattle.grammar_syntax.specs.declared.tree.Comparison.{Comparison}
use Rattle.grammar_syntax.specs.declared.tree.RecordEntry.{RecordEntry}
use Rattle.grammar_syntax.specs.declared.tree.KeyTree.{KeyTree}
use Rattle.grammar_syntax.specs.declared.tree.Term.{Term}
use Rattle.grammar_syntax.specs.declared.tree.ExprTree.{ExprTree}
use Rattle.grammar_syntax.specs.declared.tree.ExprTree.TheVariants as t
use Rattle.grammar_syntax.specs.declared.tree.RequestKeyword.{RequestKeyword}
use Rattle.grammar_syntax.specs.Kinds.{Kinds, only}
use Rattle.grammar_syntax.specs.Grammar.{identifiers}
use Rattle.grammar_parsing.specs.Expressions.{patterns}
use Rattle.grammar_syntax.specs.Parts.{Part, part, key_part, path_parts, uid_parts, parts_of, parts_of_access}
use Rattle.grammar_syntax.specs.Parts.{parts_of_entry, parts_of_term}
use Rattle.grammar_syntax.specs.WellFormed.{WellFormedToken, WellFormedPath, WellFormedUid, WellFormedExpr}
use Rattle.grammar_syntax.proofs.Flat.{all_both, flat_all, mapped_all}
use Rattle.grammar_syntax.proofs.PartsOf.{parts-Boolean, parts-Number, parts-Text, parts-Variable, parts-Uid}
use Rattle.grammar_syntax.proofs.PartsOf.{parts-Call, parts-Parentheses, parts-Set, parts-Record, parts-Member}
use Rattle.grammar_syntax.proofs.PartsOf.{parts-Not, parts-Minus, parts-Product, parts-Sum, parts-Compare, parts-Has}
use Rattle.grammar_syntax.proofs.PartsOf.{parts-Like, parts-Is, parts-IsIn, parts-And, parts-Or, parts-If}

module _ (ts : List Token) where
  abbrev Is : Part → Type 0
  Is p = WellFormedToken p.kinds ts p.token

  -- these parts stand
  abbrev pub All : List Part → Type 0
  All = AllByRecursion Is

  abbrev pub Tree : ExprTree → Type 0
  Tree = WellFormedExpr ts

  abbrev pub Trees : List ExprTree → Type 0
  Trees = AllByRecursion Tree

  abbrev pub WellFormedKey : KeyTree → Type 0
  WellFormedKey key = Is (key_part key)

  abbrev pub WellFormedAccess : Access (List ExprTree) → Type 0
  WellFormedAccess x = All (parts_of_access x)

  abbrev pub WellFormedEntry : RecordEntry ExprTree → Type 0
  WellFormedEntry x = All (parts_of_entry x)

  abbrev pub WellFormedTerm : Term ExprTree → Type 0
  WellFormedTerm x = All (parts_of_term x)

  made : (x : ExprTree) (ps : List Part) → parts_of x ≡ ps → All ps → Tree x
  made x ps same all = record { parts = subst All (sym same) all }

  of_path : (path : PathTree) → WellFormedPath ts path → All (path_parts path)
  of_path path p = (p.0, mapped_all Is (WellFormedToken identifiers ts) (part identifiers) (λ token h. h) path.more p.1)

  pub of_trees : (xs : List ExprTree) → Trees xs → All (flat_map parts_of xs)
  of_trees = flat_all Is Tree parts_of (λ x s. s.parts)

  -- a tree, and parts behind it
  with_parts : (x a : ExprTree) (ps : List Part) → parts_of x ≡ parts_of a ++ ps → Tree a → All ps → Tree x
  with_parts x a ps same first behind = made x (parts_of a ++ ps) same (all_both Is (parts_of a) ps first.parts behind)

  one_token : (x : ExprTree) (ks : Kinds) (token : Token) → parts_of x ≡ part ks token ∷ [] → WellFormedToken ks ts token → Tree x
  one_token x ks token same h = made x (part ks token ∷ []) same (h, tt)

  pub of-Boolean : (value : Bool) → Tree (t.Boolean value)
  of-Boolean value = made (t.Boolean value) [] (parts-Boolean value) tt

  pub of-Number : (token : Token) → WellFormedToken (only k.Number) ts token → Tree (t.Number token)
  of-Number token h = one_token (t.Number token) (only k.Number) token (parts-Number token) h

  pub of-Text : (token : Token) → WellFormedToken (only k.Text) ts token → Tree (t.Text token)
  of-Text token h = one_token (t.Text token) (only k.Text) token (parts-Text token) h

  pub of-Variable : (variable : RequestKeyword) → Tree (t.Variable variable)
  of-Variable variable = made (t.Variable variable) [] (parts-Variable variable) tt

  pub of-Uid : (uid : UidTree) → WellFormedUid ts uid → Tree (t.Uid uid)
  of-Uid uid h = made (t.Uid uid) (uid_parts uid) (parts-Uid uid) (h.1, of_path uid.path h.0)

  pub of-Call : (path : PathTree) (arguments : List ExprTree) → WellFormedPath ts path → Trees arguments → Tree (t.Call path arguments)
  of-Call path arguments p all =
      made (t.Call path arguments) (path_parts path ++ flat_map parts_of arguments) (parts-Call path arguments)
      (all_both Is (path_parts path) (flat_map parts_of arguments) (of_path path p) (of_trees arguments all))

  pub of-Parentheses : (a : ExprTree) → Tree a → Tree (t.Parentheses a)
  of-Parentheses a h = made (t.Parentheses a) (parts_of a) (parts-Parentheses a) h.parts

  pub of-Set : (members : List ExprTree) → Trees members → Tree (t.Set members)
  of-Set members all = made (t.Set members) (flat_map parts_of members) (parts-Set members) (of_trees members all)

  pub of-Record : (entries : List (RecordEntry ExprTree)) → AllByRecursion WellFormedEntry entries → Tree (t.Record entries)
  of-Record entries all =
      made (t.Record entries) (flat_map parts_of_entry entries) (parts-Record entries) (flat_all Is WellFormedEntry parts_of_entry (λ x s. s) entries all)

  pub of-Member : (a : ExprTree) (accesses : List (Access (List ExprTree))) → Tree a → AllByRecursion WellFormedAccess accesses → Tree (t.Member a accesses)
  of-Member a accesses h all =
      with_parts (t.Member a accesses) a (flat_map parts_of_access accesses) (parts-Member a accesses) h
      (flat_all Is WellFormedAccess parts_of_access (λ x s. s) accesses all)

  pub of-Not : (a : ExprTree) → Tree a → Tree (t.Not a)
  of-Not a h = made (t.Not a) (parts_of a) (parts-Not a) h.parts

  pub of-Minus : (a : ExprTree) → Tree a → Tree (t.Minus a)
  of-Minus a h = made (t.Minus a) (parts_of a) (parts-Minus a) h.parts

  pub of-Product : (a : ExprTree) (more : List ExprTree) → Tree a → Trees more → Tree (t.Product a more)
  of-Product a more h all = with_parts (t.Product a more) a (flat_map parts_of more) (parts-Product a more) h (of_trees more all)

  pub of-Sum : (a : ExprTree) (terms : List (Term ExprTree)) → Tree a → AllByRecursion WellFormedTerm terms → Tree (t.Sum a terms)
  of-Sum a terms h all =
      with_parts (t.Sum a terms) a (flat_map parts_of_term terms) (parts-Sum a terms) h (flat_all Is WellFormedTerm parts_of_term (λ x s. s) terms all)

  pub of-Compare : (a : ExprTree) (operator : Comparison) (b : ExprTree) → Tree a → Tree b → Tree (t.Compare a operator b)
  of-Compare a operator b h s = with_parts (t.Compare a operator b) a (parts_of b) (parts-Compare a operator b) h s.parts

  pub of-Has : (a : ExprTree) (key : KeyTree) → Tree a → WellFormedKey key → Tree (t.Has a key)
  of-Has a key h k = with_parts (t.Has a key) a (key_part key ∷ []) (parts-Has a key) h (k, tt)

  pub of-Like : (a : ExprTree) (token : Token) → Tree a → WellFormedToken patterns ts token → Tree (t.Like a token)
  of-Like a token h k = with_parts (t.Like a token) a (part patterns token ∷ []) (parts-Like a token) h (k, tt)

  pub of-Is : (a : ExprTree) (path : PathTree) → Tree a → WellFormedPath ts path → Tree (t.Is a path)
  of-Is a path h p = with_parts (t.Is a path) a (path_parts path) (parts-Is a path) h (of_path path p)

  pub of-IsIn : (a : ExprTree) (path : PathTree) (b : ExprTree) → Tree a → WellFormedPath ts path → Tree b → Tree (t.IsIn a path b)
  of-IsIn a path b h p s =
      with_parts (t.IsIn a path b) a (path_parts path ++ parts_of b) (parts-IsIn a path b) h
      (all_both Is (path_parts path) (parts_of b) (of_path path p) s.parts)

  pub of-And : (a : ExprTree) (more : List ExprTree) → Tree a → Trees more → Tree (t.And a more)
  of-And a more h all = with_parts (t.And a more) a (flat_map parts_of more) (parts-And a more) h (of_trees more all)

  pub of-Or : (a : ExprTree) (more : List ExprTree) → Tree a → Trees more → Tree (t.Or a more)
  of-Or a more h all = with_parts (t.Or a more) a (flat_map parts_of more) (parts-Or a more) h (of_trees more all)

  pub of-If : (a b c : ExprTree) → Tree a → Tree b → Tree c → Tree (t.If a b c)
  of-If a b c h s r = with_parts (t.If a b c) a (parts_of b ++ parts_of c) (parts-If a b c) h (all_both Is (parts_of b) (parts_of c) s.parts r.parts)
