-- The parts of a tree that stands in a text stand there too.
use Rattle.std.proofs.Common.{◌≡◌, ℕ, ap, ◌∙◌, subst, List, [], ◌∷◌, ◌++◌}
use Rattle.std.specs.List.{AllByRecursion, flat_map}
use Rattle.grammar_syntax.specs.declared.token.TokenKind.TheVariants as k
use Rattle.grammar_syntax.specs.declared.token.Token.{Token}
use Rattle.grammar_syntax.specs.declared.name_trees.PathTree.{PathTree}
use Rattle.grammar_syntax.specs.declared.name_trees.UidTree.{UidTree}
use Rattle.grammar_syntax.specs.declared.tree.Access.{Access}
use Rattle.grammar_syntax.specs.declared.tree.Access.TheVariants as access
use Rattle.grammar_syntax.specs.declared.tree.Comparison.{Comparison}
use Rattle.grammar_syntax.specs.declared.tree.RecordEntry.{RecordEntry}
use Rattle.grammar_syntax.specs.declared.tree.KeyTree.{KeyTree}
use Rattle.grammar_syntax.specs.declared.tree.KeyTree.TheVariants.{Word, Quoted}
use Rattle.grammar_syntax.specs.declared.tree.Term.{Term}
use Rattle.grammar_syntax.specs.declared.tree.ExprTree.{ExprTree}
use Rattle.grammar_syntax.specs.declared.tree.ExprTree.TheVariants as t
use Rattle.grammar_syntax.specs.Kinds.{only}
use Rattle.grammar_syntax.specs.Grammar.{identifiers}
use Rattle.grammar_syntax.specs.Patterns.{patterns}
use Rattle.grammar_syntax.specs.Parts.{Part, part, key_part, path_parts, uid_parts, parts_of, parts_of_access}
use Rattle.grammar_syntax.specs.Parts.{parts_of_entry, parts_of_term}
use Rattle.grammar_syntax.proofs.Flat.{all_left, all_right, all_flat, all_mapped}
use Rattle.grammar_syntax.proofs.PartsOf.{parts-Number, parts-Text, parts-Uid, parts-Call, parts-Parentheses}
use Rattle.grammar_syntax.proofs.PartsOf.{parts-Set, parts-Record, parts-Member, parts-Not, parts-Minus}
use Rattle.grammar_syntax.proofs.PartsOf.{parts-Product, parts-Sum, parts-Compare, parts-Has, parts-Like, parts-Is}
use Rattle.grammar_syntax.proofs.PartsOf.{parts-IsIn, parts-And, parts-Or, parts-If}
use Rattle.grammar_desugaring.specs.inner.WellFormed.{TokenIn, WellFormed, KeyIn, PathIn, UidIn, AllWellFormed, WellFormedEntry}
use Rattle.grammar_desugaring.specs.inner.WellFormed.{WellFormedTerm, WellFormedAccess}

module _ (text : List ℕ) where
  abbrev Is : Part → Type 0
  Is p = TokenIn text p.kinds p.token

  abbrev All : List Part → Type 0
  All = AllByRecursion Is

  key_in : (key : KeyTree) → Is (key_part key) → KeyIn text key
  key_in (Word word) h = h
  key_in (Quoted quoted) h = h

  path_in : (path : PathTree) → All (path_parts path) → PathIn text path
  path_in path all = record { first = all.0; more = all_mapped Is (TokenIn text identifiers) (part identifiers) (λ token p. p) path.more all.1 }

  tree_in : (x : ExprTree) → All (parts_of x) → WellFormed text x
  tree_in x all = record { parts = all }

  all_in : (xs : List ExprTree) → All (flat_map parts_of xs) → AllWellFormed text xs
  all_in xs all = all_flat Is (WellFormed text) parts_of tree_in xs all

  access_in : (x : Access (List ExprTree)) → All (parts_of_access x) → WellFormedAccess text x
  access_in (access.Field key) all = key_in key all.0
  access_in (access.Method name arguments) all = (all.0, all_in arguments all.1)

  opened : (x : ExprTree) (ps : List Part) (y : ExprTree) → x ≡ y → parts_of y ≡ ps → WellFormed text x → All ps
  opened x ps y is same is_well_formed = subst All (ap parts_of is ∙ same) is_well_formed.parts

  pub of-Number : (x : ExprTree) (token : Token) → x ≡ t.Number token → WellFormed text x → TokenIn text (only k.Number) token
  of-Number x token is is_well_formed =
      let all = opened x (part (only k.Number) token ∷ []) (t.Number token) is (parts-Number token) is_well_formed in
      all.0

  pub of-Text : (x : ExprTree) (token : Token) → x ≡ t.Text token → WellFormed text x → TokenIn text (only k.Text) token
  of-Text x token is is_well_formed =
      let all = opened x (part (only k.Text) token ∷ []) (t.Text token) is (parts-Text token) is_well_formed in
      all.0

  pub of-Uid : (x : ExprTree) (uid : UidTree) → x ≡ t.Uid uid → WellFormed text x → UidIn text uid
  of-Uid x uid is is_well_formed =
      let all = opened x (uid_parts uid) (t.Uid uid) is (parts-Uid uid) is_well_formed in
      record { path = path_in uid.path all.1; id = all.0 }

  pub of-Call : (x : ExprTree) (path : PathTree) (arguments : List ExprTree) → x ≡ t.Call path arguments → WellFormed text x → PathIn text path × AllWellFormed text arguments
  of-Call x path arguments is is_well_formed =
      let all = opened x (path_parts path ++ flat_map parts_of arguments) (t.Call path arguments) is (parts-Call path arguments) is_well_formed in
      (path_in path (all_left Is (path_parts path) (flat_map parts_of arguments) all), all_in arguments (all_right Is (path_parts path) (flat_map parts_of arguments) all))

  pub of-Parentheses : (x : ExprTree) (a : ExprTree) → x ≡ t.Parentheses a → WellFormed text x → WellFormed text a
  of-Parentheses x a is is_well_formed =
      let all = opened x (parts_of a) (t.Parentheses a) is (parts-Parentheses a) is_well_formed in
      tree_in a all

  pub of-Set : (x : ExprTree) (members : List ExprTree) → x ≡ t.Set members → WellFormed text x → AllWellFormed text members
  of-Set x members is is_well_formed =
      let all = opened x (flat_map parts_of members) (t.Set members) is (parts-Set members) is_well_formed in
      all_in members all

  pub of-Record : (x : ExprTree) (entries : List (RecordEntry ExprTree)) → x ≡ t.Record entries → WellFormed text x → AllByRecursion (WellFormedEntry text) entries
  of-Record x entries is is_well_formed =
      let all = opened x (flat_map parts_of_entry entries) (t.Record entries) is (parts-Record entries) is_well_formed in
      all_flat Is (WellFormedEntry text) parts_of_entry (λ entry parts. record { key = key_in entry.key parts.0; value = tree_in entry.value parts.1 }) entries all

  pub of-Member : (x : ExprTree) (a : ExprTree) (accesses : List (Access (List ExprTree))) → x ≡ t.Member a accesses → WellFormed text x → WellFormed text a × AllByRecursion (WellFormedAccess text) accesses
  of-Member x a accesses is is_well_formed =
      let all = opened x (parts_of a ++ flat_map parts_of_access accesses) (t.Member a accesses) is (parts-Member a accesses) is_well_formed in
      (tree_in a (all_left Is (parts_of a) (flat_map parts_of_access accesses) all), all_flat Is (WellFormedAccess text) parts_of_access access_in accesses (all_right Is (parts_of a) (flat_map parts_of_access accesses) all))

  pub of-Not : (x : ExprTree) (a : ExprTree) → x ≡ t.Not a → WellFormed text x → WellFormed text a
  of-Not x a is is_well_formed =
      let all = opened x (parts_of a) (t.Not a) is (parts-Not a) is_well_formed in
      tree_in a all

  pub of-Minus : (x : ExprTree) (a : ExprTree) → x ≡ t.Minus a → WellFormed text x → WellFormed text a
  of-Minus x a is is_well_formed =
      let all = opened x (parts_of a) (t.Minus a) is (parts-Minus a) is_well_formed in
      tree_in a all

  pub of-Product : (x : ExprTree) (a : ExprTree) (more : List ExprTree) → x ≡ t.Product a more → WellFormed text x → WellFormed text a × AllWellFormed text more
  of-Product x a more is is_well_formed =
      let all = opened x (parts_of a ++ flat_map parts_of more) (t.Product a more) is (parts-Product a more) is_well_formed in
      (tree_in a (all_left Is (parts_of a) (flat_map parts_of more) all), all_in more (all_right Is (parts_of a) (flat_map parts_of more) all))

  pub of-Sum : (x : ExprTree) (a : ExprTree) (terms : List (Term ExprTree)) → x ≡ t.Sum a terms → WellFormed text x → WellFormed text a × AllByRecursion (WellFormedTerm text) terms
  of-Sum x a terms is is_well_formed =
      let all = opened x (parts_of a ++ flat_map parts_of_term terms) (t.Sum a terms) is (parts-Sum a terms) is_well_formed in
      (tree_in a (all_left Is (parts_of a) (flat_map parts_of_term terms) all), all_flat Is (WellFormedTerm text) parts_of_term (λ term parts. record { operand = tree_in term.operand parts }) terms (all_right Is (parts_of a) (flat_map parts_of_term terms) all))

  pub of-Compare : (x : ExprTree) (a : ExprTree) (operator : Comparison) (b : ExprTree) → x ≡ t.Compare a operator b → WellFormed text x → WellFormed text a × WellFormed text b
  of-Compare x a operator b is is_well_formed =
      let all = opened x (parts_of a ++ parts_of b) (t.Compare a operator b) is (parts-Compare a operator b) is_well_formed in
      (tree_in a (all_left Is (parts_of a) (parts_of b) all), tree_in b (all_right Is (parts_of a) (parts_of b) all))

  pub of-Has : (x : ExprTree) (a : ExprTree) (key : KeyTree) → x ≡ t.Has a key → WellFormed text x → WellFormed text a × KeyIn text key
  of-Has x a key is is_well_formed =
      let all = opened x (parts_of a ++ key_part key ∷ []) (t.Has a key) is (parts-Has a key) is_well_formed in
      (tree_in a (all_left Is (parts_of a) (key_part key ∷ []) all), key_in key (all_right Is (parts_of a) (key_part key ∷ []) all).0)

  pub of-Like : (x : ExprTree) (a : ExprTree) (token : Token) → x ≡ t.Like a token → WellFormed text x → WellFormed text a × TokenIn text patterns token
  of-Like x a token is is_well_formed =
      let all = opened x (parts_of a ++ part patterns token ∷ []) (t.Like a token) is (parts-Like a token) is_well_formed in
      (tree_in a (all_left Is (parts_of a) (part patterns token ∷ []) all), (all_right Is (parts_of a) (part patterns token ∷ []) all).0)

  pub of-Is : (x : ExprTree) (a : ExprTree) (path : PathTree) → x ≡ t.Is a path → WellFormed text x → WellFormed text a × PathIn text path
  of-Is x a path is is_well_formed =
      let all = opened x (parts_of a ++ path_parts path) (t.Is a path) is (parts-Is a path) is_well_formed in
      (tree_in a (all_left Is (parts_of a) (path_parts path) all), path_in path (all_right Is (parts_of a) (path_parts path) all))

  pub of-IsIn : (x : ExprTree) (a : ExprTree) (path : PathTree) (b : ExprTree) → x ≡ t.IsIn a path b → WellFormed text x → WellFormed text a × (PathIn text path × WellFormed text b)
  of-IsIn x a path b is is_well_formed =
      let all = opened x (parts_of a ++ (path_parts path ++ parts_of b)) (t.IsIn a path b) is (parts-IsIn a path b) is_well_formed in
      let behind = all_right Is (parts_of a) (path_parts path ++ parts_of b) all in
      (tree_in a (all_left Is (parts_of a) (path_parts path ++ parts_of b) all), (path_in path (all_left Is (path_parts path) (parts_of b) behind), tree_in b (all_right Is (path_parts path) (parts_of b) behind)))

  pub of-And : (x : ExprTree) (a : ExprTree) (more : List ExprTree) → x ≡ t.And a more → WellFormed text x → WellFormed text a × AllWellFormed text more
  of-And x a more is is_well_formed =
      let all = opened x (parts_of a ++ flat_map parts_of more) (t.And a more) is (parts-And a more) is_well_formed in
      (tree_in a (all_left Is (parts_of a) (flat_map parts_of more) all), all_in more (all_right Is (parts_of a) (flat_map parts_of more) all))

  pub of-Or : (x : ExprTree) (a : ExprTree) (more : List ExprTree) → x ≡ t.Or a more → WellFormed text x → WellFormed text a × AllWellFormed text more
  of-Or x a more is is_well_formed =
      let all = opened x (parts_of a ++ flat_map parts_of more) (t.Or a more) is (parts-Or a more) is_well_formed in
      (tree_in a (all_left Is (parts_of a) (flat_map parts_of more) all), all_in more (all_right Is (parts_of a) (flat_map parts_of more) all))

  pub of-If : (x : ExprTree) (a b c : ExprTree) → x ≡ t.If a b c → WellFormed text x → WellFormed text a × (WellFormed text b × WellFormed text c)
  of-If x a b c is is_well_formed =
      let all = opened x (parts_of a ++ (parts_of b ++ parts_of c)) (t.If a b c) is (parts-If a b c) is_well_formed in
      let behind = all_right Is (parts_of a) (parts_of b ++ parts_of c) all in
      (tree_in a (all_left Is (parts_of a) (parts_of b ++ parts_of c) all), (tree_in b (all_left Is (parts_of b) (parts_of c) behind), tree_in c (all_right Is (parts_of b) (parts_of c) behind)))
