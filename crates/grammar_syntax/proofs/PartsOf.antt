-- The parts of each form of tree: the equations of `parts_of`. Meant to be imported by the proofs of crates above.
use Rattle.std.specs.Prelude.{◌≡◌, refl, Bool, List, [], ◌∷◌, ◌++◌}
use mathlib.Core.Path.{◌∙◌, ap, sym}
use Rattle.std.specs.List.{flat_map}
use Rattle.grammar_syntax.specs.declared.token.TokenKind.TheVariants as k
use Rattle.grammar_syntax.specs.declared.token.Token.{Token}
use Rattle.grammar_syntax.specs.declared.name_trees.PathTree.{PathTree}
use Rattle.grammar_syntax.specs.declared.name_trees.UidTree.{UidTree}
use Rattle.grammar_syntax.specs.declared.tree.Access.{Access}
use Rattle.grammar_syntax.specs.declared.tree.Comparison.{Comparison}
use Rattle.grammar_syntax.specs.declared.tree.RecordEntry.{RecordEntry}
use Rattle.grammar_syntax.specs.declared.tree.KeyTree.{KeyTree}
use Rattle.grammar_syntax.specs.declared.tree.Term.{Term}
use Rattle.grammar_syntax.specs.declared.tree.ExprTree.{ExprTree}
use Rattle.grammar_syntax.specs.declared.tree.RequestKeyword.{RequestKeyword}
use Rattle.grammar_syntax.specs.declared.tree.ExprTree.TheVariants as t
use Rattle.grammar_syntax.specs.declared.tree.ExprTree.TheOpen.{ExprTree-F as tree}
use Rattle.grammar_syntax.specs.declared.tree.ExprTree.TheFolds.{fold-roll-ExprTree}
use Rattle.grammar_syntax.specs.Kinds.{only}
use Rattle.grammar_syntax.specs.Grammar.{identifiers}
use Rattle.grammar_syntax.specs.Patterns.{patterns}
use Rattle.grammar_syntax.specs.Parts.{Part, part, key_part, path_parts, uid_parts, access_parts, entry_parts}
use Rattle.grammar_syntax.specs.Parts.{term_parts}
use Rattle.grammar_syntax.specs.Parts.{parts_step, parts_of, parts_of_access, parts_of_entry, parts_of_term}
use Rattle.grammar_syntax.proofs.Flat.{flat_map_map, flat_map_each, flat_map_accesses}

pub parts-Boolean : (value : Bool) → parts_of (t.Boolean value) ≡ []
parts-Boolean value =
    ap parts_of (sym (t.rolls-Boolean value)) ∙ fold-roll-ExprTree (List Part) parts_step (tree.Boolean value)

pub parts-Variable : (variable : RequestKeyword) → parts_of (t.Variable variable) ≡ []
parts-Variable variable =
    ap parts_of (sym (t.rolls-Variable variable)) ∙ fold-roll-ExprTree (List Part) parts_step (tree.Variable variable)

pub parts-Number : (token : Token) → parts_of (t.Number token) ≡ part (only k.Number) token ∷ []
parts-Number token =
    ap parts_of (sym (t.rolls-Number token)) ∙ fold-roll-ExprTree (List Part) parts_step (tree.Number token)

pub parts-Text : (token : Token) → parts_of (t.Text token) ≡ part (only k.Text) token ∷ []
parts-Text token =
    ap parts_of (sym (t.rolls-Text token)) ∙ fold-roll-ExprTree (List Part) parts_step (tree.Text token)

pub parts-Uid : (uid : UidTree) → parts_of (t.Uid uid) ≡ uid_parts uid
parts-Uid uid =
    ap parts_of (sym (t.rolls-Uid uid)) ∙ fold-roll-ExprTree (List Part) parts_step (tree.Uid uid)

pub parts-Call : (path : PathTree) (arguments : List ExprTree) → parts_of (t.Call path arguments)
    ≡ path_parts path ++ flat_map parts_of arguments
parts-Call path arguments =
    ap parts_of (sym (t.rolls-Call path arguments))
    ∙ fold-roll-ExprTree (List Part) parts_step (tree.Call path arguments)
    ∙ ap (λ ps. path_parts path ++ ps) (flat_map_map (λ parts. parts) parts_of arguments)

pub parts-Parentheses : (a : ExprTree) → parts_of (t.Parentheses a) ≡ parts_of a
parts-Parentheses a =
    ap parts_of (sym (t.rolls-Parentheses a)) ∙ fold-roll-ExprTree (List Part) parts_step (tree.Parentheses a)

pub parts-Set : (members : List ExprTree) → parts_of (t.Set members) ≡ flat_map parts_of members
parts-Set members =
    ap parts_of (sym (t.rolls-Set members)) ∙ fold-roll-ExprTree (List Part) parts_step (tree.Set members)
    ∙ flat_map_map (λ parts. parts) parts_of members

pub parts-Record : (entries : List (RecordEntry ExprTree)) → parts_of (t.Record entries) ≡ flat_map parts_of_entry entries
parts-Record entries =
    ap parts_of (sym (t.rolls-Record entries))
    ∙ fold-roll-ExprTree (List Part) parts_step (tree.Record entries)
    ∙ flat_map_each entry_parts parts_of_entry _ (λ entry. refl) entries

pub parts-Member : (a : ExprTree) (accesses : List (Access (List ExprTree))) → parts_of (t.Member a accesses)
    ≡ parts_of a ++ flat_map parts_of_access accesses
parts-Member a accesses =
    ap parts_of (sym (t.rolls-Member a accesses))
    ∙ fold-roll-ExprTree (List Part) parts_step (tree.Member a accesses)
    ∙ ap (λ ps. parts_of a ++ ps)
    (flat_map_accesses access_parts parts_of_access _ (λ key. refl)
    (λ name arguments. ap (λ ps. part identifiers name ∷ ps) (flat_map_map (λ parts. parts) parts_of arguments))
    accesses)

pub parts-Not : (a : ExprTree) → parts_of (t.Not a) ≡ parts_of a
parts-Not a =
    ap parts_of (sym (t.rolls-Not a)) ∙ fold-roll-ExprTree (List Part) parts_step (tree.Not a)

pub parts-Minus : (a : ExprTree) → parts_of (t.Minus a) ≡ parts_of a
parts-Minus a =
    ap parts_of (sym (t.rolls-Minus a)) ∙ fold-roll-ExprTree (List Part) parts_step (tree.Minus a)

pub parts-Product : (a : ExprTree) (more : List ExprTree) → parts_of (t.Product a more)
    ≡ parts_of a ++ flat_map parts_of more
parts-Product a more =
    ap parts_of (sym (t.rolls-Product a more))
    ∙ fold-roll-ExprTree (List Part) parts_step (tree.Product a more)
    ∙ ap (λ ps. parts_of a ++ ps) (flat_map_map (λ parts. parts) parts_of more)

pub parts-Sum : (a : ExprTree) (terms : List (Term ExprTree)) → parts_of (t.Sum a terms)
    ≡ parts_of a ++ flat_map parts_of_term terms
parts-Sum a terms =
    ap parts_of (sym (t.rolls-Sum a terms)) ∙ fold-roll-ExprTree (List Part) parts_step (tree.Sum a terms)
    ∙ ap (λ ps. parts_of a ++ ps) (flat_map_each term_parts parts_of_term _ (λ term. refl) terms)

pub parts-Compare : (a : ExprTree) (operator : Comparison) (b : ExprTree) → parts_of (t.Compare a operator b)
    ≡ parts_of a ++ parts_of b
parts-Compare a operator b =
    ap parts_of (sym (t.rolls-Compare a operator b))
    ∙ fold-roll-ExprTree (List Part) parts_step (tree.Compare a operator b)

pub parts-Has : (a : ExprTree) (key : KeyTree) → parts_of (t.Has a key) ≡ parts_of a ++ key_part key ∷ []
parts-Has a key =
    ap parts_of (sym (t.rolls-Has a key)) ∙ fold-roll-ExprTree (List Part) parts_step (tree.Has a key)

pub parts-Like : (a : ExprTree) (token : Token) → parts_of (t.Like a token) ≡ parts_of a ++ part patterns token ∷ []
parts-Like a token =
    ap parts_of (sym (t.rolls-Like a token)) ∙ fold-roll-ExprTree (List Part) parts_step (tree.Like a token)

pub parts-Is : (a : ExprTree) (path : PathTree) → parts_of (t.Is a path) ≡ parts_of a ++ path_parts path
parts-Is a path =
    ap parts_of (sym (t.rolls-Is a path)) ∙ fold-roll-ExprTree (List Part) parts_step (tree.Is a path)

pub parts-IsIn : (a : ExprTree) (path : PathTree) (b : ExprTree) → parts_of (t.IsIn a path b)
    ≡ parts_of a ++ (path_parts path ++ parts_of b)
parts-IsIn a path b =
    ap parts_of (sym (t.rolls-IsIn a path b)) ∙ fold-roll-ExprTree (List Part) parts_step (tree.IsIn a path b)

pub parts-And : (a : ExprTree) (more : List ExprTree) → parts_of (t.And a more) ≡ parts_of a ++ flat_map parts_of more
parts-And a more =
    ap parts_of (sym (t.rolls-And a more)) ∙ fold-roll-ExprTree (List Part) parts_step (tree.And a more)
    ∙ ap (λ ps. parts_of a ++ ps) (flat_map_map (λ parts. parts) parts_of more)

pub parts-Or : (a : ExprTree) (more : List ExprTree) → parts_of (t.Or a more) ≡ parts_of a ++ flat_map parts_of more
parts-Or a more =
    ap parts_of (sym (t.rolls-Or a more)) ∙ fold-roll-ExprTree (List Part) parts_step (tree.Or a more)
    ∙ ap (λ ps. parts_of a ++ ps) (flat_map_map (λ parts. parts) parts_of more)

pub parts-If : (a b c : ExprTree) → parts_of (t.If a b c) ≡ parts_of a ++ (parts_of b ++ parts_of c)
parts-If a b c =
    ap parts_of (sym (t.rolls-If a b c)) ∙ fold-roll-ExprTree (List Part) parts_step (tree.If a b c)
