-- Defines well-formed trees of names: their tokens are among given tokens, each of a kind that its position allows.
use Rattle.std.specs.Prelude.{◌≡◌, true, List, Contains}
use Rattle.std.specs.List.{AllByRecursion}
use Rattle.grammar_syntax.specs.declared.token.TokenKind.TheVariants as k
use Rattle.grammar_syntax.specs.declared.token.Token.{Token}
use Rattle.grammar_syntax.specs.declared.name_trees.PathTree.{PathTree}
use Rattle.grammar_syntax.specs.declared.name_trees.UidTree.{UidTree}
use Rattle.grammar_syntax.specs.Kinds.{Kinds, only}
use Rattle.grammar_syntax.specs.Grammar.{identifiers}

-- `WellFormedToken ks ts t` holds if `t` is one of the tokens `ts`, and of a kind in `ks`.
abbrev pub WellFormedToken : Kinds → List Token → Token → Type 0
WellFormedToken ks ts t = Contains ts t × (ks t.kind ≡ true)

-- `WellFormedPath ts p` holds if the words of the path `p` are identifiers among `ts`.
abbrev pub WellFormedPath : List Token → PathTree → Type 0
WellFormedPath ts p = WellFormedToken identifiers ts p.first × AllByRecursion (WellFormedToken identifiers ts) p.more

-- `WellFormedUid ts u` holds if the words of the uid `u` are identifiers among `ts`, and its id is a String among `ts`.
abbrev pub WellFormedUid : List Token → UidTree → Type 0
WellFormedUid ts u = WellFormedPath ts u.path × WellFormedToken (only k.Text) ts u.id
