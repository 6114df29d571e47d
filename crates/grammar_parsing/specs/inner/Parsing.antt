-- Defines how policies are parsed, from the left with one token of lookahead. The productions are those of Grammar.
use Rattle.std.specs.Prelude.{ℕ, true, List, [], ◌∷◌, Option, None}
use Rattle.grammar_syntax.specs.declared.token.TokenKind.{TokenKind}
use Rattle.grammar_syntax.specs.declared.token.TokenKind.TheVariants as k
use Rattle.grammar_syntax.specs.declared.token.Token.{Token}
use Rattle.grammar_syntax.specs.declared.name_trees.UidTree.{UidTree}
use Rattle.grammar_parsing.specs.declared.tree.Annotation.{Annotation}
use Rattle.grammar_parsing.specs.declared.tree.PartTree.{PartTree}
use Rattle.grammar_parsing.specs.declared.tree.PartTree.TheVariants as part
use Rattle.grammar_parsing.specs.declared.tree.ActionTree.{ActionTree}
use Rattle.grammar_parsing.specs.declared.tree.ActionTree.TheVariants as action
use Rattle.grammar_parsing.specs.declared.tree.ScopeTree.{ScopeTree}
use Rattle.grammar_parsing.specs.declared.tree.Condition.{Condition}
use Rattle.grammar_parsing.specs.declared.tree.PolicyTree.{PolicyTree}
use Rattle.grammar_syntax.specs.Kinds.{Kinds, only}
use Rattle.grammar_syntax.specs.ParserCombinators.{Parser, take, token, pure, ◌>>=◌, ◌>>◌, either}
use Rattle.grammar_syntax.specs.ParserCombinators.{optional}
use Rattle.grammar_syntax.specs.ParserCombinators.{many}
pub use Rattle.grammar_syntax.specs.Parsing.{path, uid}
use Rattle.grammar_parsing.specs.inner.Reading.{expr, symbol}
use Rattle.grammar_parsing.specs.Grammar.{identifiers, words, effects, is_in, condition_word_of, condition_words}

-- ---- annotations

-- `maybe_text` parses a String if one comes next.
unfoldable pub maybe_text : Parser (Option Token)
maybe_text = optional (only k.Text) (token k.Text)

-- `annotation_value` parses "(" [ String ] ")".
unfoldable pub annotation_value : Parser (Option Token)
annotation_value = do
  token k.LParen
  text ← maybe_text
  token k.RParen
  pure text

-- `maybe_value` parses `annotation_value` if "(" comes next, and else nothing.
unfoldable pub maybe_value : Parser (Option Token)
maybe_value = either (only k.LParen) annotation_value (pure None)

-- `annotation` parses "@", a key and maybe a value.
unfoldable pub annotation : Parser Annotation
annotation = do
  at ← token k.At
  key ← take words
  value ← maybe_value
  pure (record { at = at; key = key; value = value })

-- `annotations` parses annotations as long as "@" comes next.
unfoldable pub annotations : Parser (List Annotation)
annotations = many (only k.At) annotation

-- ---- scopes

-- `equal_uid` parses "==" and a Uid.
unfoldable pub equal_uid : Parser UidTree
equal_uid = token k.Equal >> uid

-- `in_uid` parses "in" and a Uid.
unfoldable pub in_uid : Parser UidTree
in_uid = token k.In >> uid

-- `type_test` parses "is" Path [ "in" Uid ].
unfoldable pub type_test : Parser PartTree
type_test = do
  token k.Is
  type_name ← path
  entity ← optional (only k.In) in_uid
  pure (is_in type_name entity)

-- `entity_constraint` parses the constraint, which may be empty, of a principal or resource.
unfoldable pub entity_constraint : Parser PartTree
entity_constraint =
    either (only k.Equal) (equal_uid >>= (λ entity. pure (part.Equal entity)))
    (either (only k.In) (in_uid >>= (λ entity. pure (part.In entity)))
    (either (only k.Is) type_test (pure part.Any)))

-- `entity_part variable` parses a token of the kind `variable` and a constraint.
unfoldable pub entity_part : TokenKind → Parser PartTree
entity_part variable = token variable >> entity_constraint

-- `comma_uid` parses "," and a Uid.
unfoldable pub comma_uid : Parser UidTree
comma_uid = token k.Comma >> uid

-- `rest_of_uids first` parses the Uids after `first`; its value is all of them, `first` included.
unfoldable pub rest_of_uids : UidTree → Parser (List UidTree)
rest_of_uids first = many (only k.Comma) comma_uid >>= (λ more. pure (first ∷ more))

-- `uids` parses Uids with commas between them, or none.
unfoldable pub uids : Parser (List UidTree)
uids = either identifiers (uid >>= rest_of_uids) (pure [])

-- `uid_list` parses Uids in "[" and "]".
unfoldable pub uid_list : Parser ActionTree
uid_list = do
  token k.LBracket
  found ← uids
  token k.RBracket
  pure (action.InList found)

-- `list_or_uid` parses `uid_list` if "[" comes next, and else one Uid.
unfoldable pub list_or_uid : Parser ActionTree
list_or_uid = either (only k.LBracket) uid_list (uid >>= (λ entity. pure (action.In entity)))

-- `in_actions` parses "in" and `list_or_uid`.
unfoldable pub in_actions : Parser ActionTree
in_actions = token k.In >> list_or_uid

-- `action_constraint` parses the constraint, which may be empty, of an action.
unfoldable pub action_constraint : Parser ActionTree
action_constraint =
    either (only k.Equal) (equal_uid >>= (λ entity. pure (action.Equal entity)))
    (either (only k.In) in_actions (pure action.Any))

-- `action_part` parses "action" and its constraint.
unfoldable pub action_part : Parser ActionTree
action_part = token k.Action >> action_constraint

-- `scope` parses the three parts of a scope, with commas between them.
unfoldable pub scope : Parser ScopeTree
scope = do
  principal ← entity_part k.Principal
  token k.Comma
  action ← action_part
  token k.Comma
  resource ← entity_part k.Resource
  pure (record { principal = principal; action = action; resource = resource })

-- ---- policies

-- `policy_firsts` are the kinds of the first token of a policy.
abbrev pub policy_firsts : Kinds
policy_firsts k.At = true
policy_firsts kind = effects kind

-- In this module `levels` is the number of levels of nesting that an expression may have.
module _ (levels : ℕ) where
  -- `condition` parses "when" or "unless" and an expression in braces.
  unfoldable pub condition : Parser Condition
  condition = do
    word ← symbol condition_word_of
    token k.LBrace
    x ← expr levels
    token k.RBrace
    pure (record { word = word; expression = x })

  -- `conditions` parses conditions as long as one comes next.
  unfoldable pub conditions : Parser (List Condition)
  conditions = many condition_words condition

  -- `scope_tail` parses what follows the scope: ")", the conditions and ";".
  unfoldable pub scope_tail : Parser (List Condition)
  scope_tail = do
    token k.RParen
    cs ← conditions
    token k.Semicolon
    pure cs

  -- `policy_of notes effect found` parses what follows the scope, and gives the policy with the annotations `notes`,
  -- the effect `effect` and the scope `found`.
  unfoldable pub policy_of : List Annotation → Token → ScopeTree → Parser PolicyTree
  policy_of notes effect found = do
    token k.RParen
    cs ← conditions
    token k.Semicolon
    pure (record {
      annotations = notes;
      effect = effect;
      principal = found.principal;
      action = found.action;
      resource = found.resource;
      conditions = cs;
    })

  -- `policy` parses annotations, an effect, a scope and conditions.
  unfoldable pub policy : Parser PolicyTree
  policy = do
    found_annotations ← annotations
    effect ← take effects
    token k.LParen
    found ← scope
    policy_of found_annotations effect found

  -- `policies` parses policies as long as one comes next.
  unfoldable pub policies : Parser (List PolicyTree)
  policies = many policy_firsts policy
