-- Defines how names are parsed, from the left with one token of lookahead, by parser combinators.
use Rattle.std.specs.Prelude.{Bool, true, false, List, [], ◌∷◌}
use Rattle.grammar_syntax.specs.declared.token.TokenKind.TheVariants as k
use Rattle.grammar_syntax.specs.declared.token.Token.{Token}
use Rattle.grammar_syntax.specs.declared.name_trees.PathTree.{PathTree}
use Rattle.grammar_syntax.specs.declared.name_trees.UidTree.{UidTree}
use Rattle.grammar_syntax.specs.declared.name_trees.PathOrUid.{PathOrUid}
use Rattle.grammar_syntax.specs.declared.name_trees.PathOrUid.TheVariants as name
use Rattle.grammar_syntax.specs.Kinds.{Kinds, only, same_kind}
use Rattle.grammar_syntax.specs.ParserCombinators.{Parser, take, token, pure, refuse, ◌>>=◌, ◌>>◌, many, loop}
use Rattle.grammar_syntax.specs.Grammar.{identifiers}

-- `path_word` parses "::" and an Ident.
unfoldable pub path_word : Parser Token
path_word = token k.Colons >> take identifiers

-- `rest_of_path first` parses the rest of a Path after its first word, `first`.
unfoldable pub rest_of_path : Token → Parser PathTree
rest_of_path first = many (only k.Colons) path_word >>= (λ more. pure (record { first = first; more = more }))

-- `path` parses a Path.
unfoldable pub path : Parser PathTree
path = take identifiers >>= rest_of_path

-- `pieces` are the kinds of a piece, the token after a "::": an Ident or a String. A Path and a Uid begin alike, so a
-- Uid is parsed piece by piece, each after its "::", up to a String.
abbrev pub pieces : Kinds
pieces k.Text = true
pieces kind = identifiers kind

-- `is_text t` tests whether the token `t` is a String.
abbrev pub is_text : Token → Bool
is_text t = same_kind t.kind k.Text

-- `ended_by ended t` tests whether the piece `t` ends the name, as a String does. The state `ended` before the piece
-- does not matter.
abbrev pub ended_by : Bool → Token → Bool
ended_by ended t = is_text t

-- `goes_on ended` are the kinds of the tokens with which a name goes on: only "::", or none if `ended` is true (a
-- String has ended the name).
abbrev pub goes_on : Bool → Kinds
goes_on false = only k.Colons
goes_on true = λ kind. false

-- `piece` parses "::" and a piece.
unfoldable pub piece : Parser Token
piece = token k.Colons >> take pieces

-- `ends ended ts` tests whether the last of the pieces `ts` is a String; `ended` if `ts` is empty.
abbrev pub ends : Bool → List Token → Bool
ends ended [] = ended
ends ended (t ∷ ts) = ends (is_text t) ts

-- `beginning ts` are all but the last of `ts`.
abbrev pub beginning : List Token → List Token
beginning [] = []
beginning (t ∷ []) = []
beginning (t ∷ (u ∷ us)) = t ∷ beginning (u ∷ us)

-- `last_of t ts` is the last of `ts`, or `t` if `ts` is empty.
abbrev pub last_of : Token → List Token → Token
last_of t [] = t
last_of t (u ∷ us) = last_of u us

-- `uid_tree first ts` is the Uid of the identifier `first` and the pieces `ts` after it, the last of which is its id.
abbrev pub uid_tree : Token → List Token → UidTree
uid_tree first ts = record { path = record { first = first; more = beginning ts }; id = last_of first ts }

-- `finished ended first ts` consumes no token. Its value is `uid_tree first ts` if `ended` is true (a String has ended
-- the pieces `ts`); else it stops, since the next token cannot occur there.
abbrev pub finished : Bool → Token → List Token → Parser UidTree
finished true first ts = pure (uid_tree first ts)
finished false first ts = refuse

-- `rest_of_uid first` parses the rest of a Uid after its first word, `first`.
unfoldable pub rest_of_uid : Token → Parser UidTree
rest_of_uid first = loop ended_by goes_on (λ ended. piece) false >>= (λ ts. finished (ends false ts) first ts)

-- `uid` parses a Uid.
unfoldable pub uid : Parser UidTree
uid = take identifiers >>= rest_of_uid

-- A name is a Path or a Uid: an identifier and the pieces after it, which make a Uid if the last one is a String.
-- `path_of first more` is the Path of the words `first` and `more`.
abbrev pub path_of : Token → List Token → PathTree
path_of first more = record { first = first; more = more }

-- `name_by ended first ts` is the name of `first` and the pieces `ts`: a Uid if `ended` is true (a String has ended
-- them), else a Path.
abbrev pub name_by : Bool → Token → List Token → PathOrUid
name_by true first ts = name.Uid (uid_tree first ts)
name_by false first ts = name.Path (path_of first ts)

-- `rest_of_name first` parses the rest of a name after its first word, `first`.
unfoldable pub rest_of_name : Token → Parser PathOrUid
rest_of_name first = loop ended_by goes_on (λ ended. piece) false >>= (λ ts. pure (name_by (ends false ts) first ts))
