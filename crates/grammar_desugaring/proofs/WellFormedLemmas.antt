-- A tree that is made of tokens of the text stands in it.
use Rattle.std.proofs.Common.{ℕ, zero, suc, List, [], ◌∷◌, subst, arith}
use Rattle.std.specs.Prelude.{Contains}
use Rattle.std.specs.List.{AllByRecursion}
use Rattle.grammar_syntax.specs.declared.token.Token.{Token}
use Rattle.grammar_syntax.specs.Lexing.{IsSpelledIn}
use Rattle.grammar_syntax.specs.declared.name_trees.PathTree.{PathTree}
use Rattle.grammar_syntax.specs.declared.tree.ExprTree.{ExprTree}
use Rattle.grammar_syntax.specs.Grammar.{identifiers}
use Rattle.grammar_syntax.specs.Kinds.{Kinds}
use Rattle.grammar_syntax.specs.Parts.{Part, parts_of}
use Rattle.grammar_syntax.specs.WellFormed.{WellFormedToken, WellFormedPath, WellFormedExpr}
use Rattle.grammar_syntax.proofs.Flat.{all_as}
use Rattle.grammar_desugaring.specs.inner.WellFormed.{TokenIn, PathIn, WellFormed}

-- an item of a list of which each is so
pub item_is : {A : Type 0} (P : A → Type 0) (xs : List A) (x : A) → AllByRecursion P xs → Contains xs x → P x
item_is P [] x all (i, below, e) = absurd (omega (arith, below))
item_is P (y ∷ ys) x all (zero, below, e) = subst P e all.0
item_is P (y ∷ ys) x all (suc i, below, e) = item_is P ys x all.1 (i, omega (arith, below), e)

module _ (text : List ℕ) (ts : List Token) (spelled : AllByRecursion (IsSpelledIn text) ts) where
  pub token_in : (kinds : Kinds) (token : Token) → WellFormedToken kinds ts token → TokenIn text kinds token
  token_in kinds token h = record { spelled = item_is (IsSpelledIn text) ts token spelled h.0; kind = h.1 }

  pub path_in : (path : PathTree) → WellFormedPath ts path → PathIn text path
  path_in path h = record {
    first = token_in identifiers path.first h.0;
    more = all_as (WellFormedToken identifiers ts) (TokenIn text identifiers) (token_in identifiers) path.more h.1;
  }

  abbrev Is : Part → Type 0
  Is p = WellFormedToken p.kinds ts p.token

  abbrev In : Part → Type 0
  In p = TokenIn text p.kinds p.token

  pub tree_in : (x : ExprTree) → WellFormedExpr ts x → WellFormed text x
  tree_in x h = record { parts = all_as Is In (λ p. token_in p.kinds p.token) (parts_of x) h.parts }

pub stands_in : (text : List ℕ) (ts : List Token) (x : ExprTree) → AllByRecursion (IsSpelledIn text) ts → WellFormedExpr ts x → WellFormed text x
stands_in text ts x spelled h = tree_in text ts spelled x h
