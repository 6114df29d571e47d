-- Defines the grammar of policies: which trees of policies a list of tokens derives. The comment above a definition
-- states the production that the definition writes in the combinators of Lang.
-- Source: Cedar reference guide 4.0, "Grammar specification for Cedar policy syntax".
-- Rules of this product: `__cedar` is reserved too, and so is not an Ident; an annotation may lack its value, with or
-- without the parentheses.
use Rattle.std.specs.Prelude.{ℕ, true, false, ◌||◌, List, [], ◌∷◌, Option, Some, None}
use Rattle.grammar_syntax.specs.declared.token.TokenKind.{TokenKind}
use Rattle.grammar_syntax.specs.declared.token.TokenKind.TheVariants as k
use Rattle.grammar_syntax.specs.declared.token.Token.{Token}
use Rattle.grammar_syntax.specs.Idents.{is_reserved}
use Rattle.grammar_syntax.specs.declared.name_trees.PathTree.{PathTree}
use Rattle.grammar_syntax.specs.declared.name_trees.UidTree.{UidTree}
use Rattle.grammar_parsing.specs.declared.tree.Annotation.{Annotation}
use Rattle.grammar_parsing.specs.declared.tree.PartTree.{PartTree}
use Rattle.grammar_parsing.specs.declared.tree.PartTree.TheVariants as part
use Rattle.grammar_parsing.specs.declared.tree.ActionTree.{ActionTree}
use Rattle.grammar_parsing.specs.declared.tree.ActionTree.TheVariants as action
use Rattle.grammar_parsing.specs.declared.tree.ScopeTree.{ScopeTree}
use Rattle.grammar_parsing.specs.declared.tree.Condition.{Condition}
use Rattle.grammar_parsing.specs.declared.tree.ConditionWord.{ConditionWord}
use Rattle.grammar_parsing.specs.declared.tree.ConditionWord.TheVariants.{When, Unless}
use Rattle.grammar_parsing.specs.declared.tree.PolicyTree.{PolicyTree}
use Rattle.grammar_syntax.specs.Kinds.{Kinds}
pub use Rattle.grammar_syntax.specs.Grammar.{identifiers, path, uid}
use Rattle.grammar_parsing.specs.Expressions.{expr, symbol, known}
use Rattle.grammar_syntax.specs.Lang.{Lang, of, one, empty, ◌>>=◌, ◌>>◌, ◌giving◌, ◌or◌, optional}
use Rattle.grammar_syntax.specs.Lang.{many}

-- Ident | Reserved
abbrev pub words : Kinds
words kind = is_reserved kind || identifiers kind

-- Effect = "permit" | "forbid"
abbrev pub effects : Kinds
effects k.Permit = true
effects k.Forbid = true
effects _ = false

-- "(" [ String ] ")"
abbrev pub annotation_value : Lang (Option Token)
annotation_value = do
  one k.LParen
  text ← optional (one k.Text)
  one k.RParen
  empty text

-- Annotation = "@" (Ident | Reserved) [ "(" [ String ] ")" ]
abbrev pub annotation : Lang Annotation
annotation = do
  at ← one k.At
  key ← of words
  value ← annotation_value or empty None
  empty (record { at = at; key = key; value = value })

-- "==" Uid
abbrev pub equal_uid : Lang UidTree
equal_uid = one k.Equal >> uid

-- "in" Uid
abbrev pub in_uid : Lang UidTree
in_uid = one k.In >> uid

-- `is_in type_name entity` is the constraint `is T`, or `is T in E` if `entity` is `Some E`, where T is `type_name`.
abbrev pub is_in : PathTree → Option UidTree → PartTree
is_in type_name None = part.Is type_name
is_in type_name (Some entity) = part.IsIn type_name entity

-- "is" Path [ "in" Uid ]
abbrev pub type_test : Lang PartTree
type_test = do
  one k.Is
  type_name ← path
  entity ← optional in_uid
  empty (is_in type_name entity)

-- [ "==" Uid | "in" Uid | "is" Path [ "in" Uid ] ]
abbrev pub entity_constraint : Lang PartTree
entity_constraint = (equal_uid giving part.Equal) or (in_uid giving part.In) or type_test or empty part.Any

-- `entity_part variable`: a token of the kind `variable` and a constraint. The production Principal is `entity_part` of
-- "principal", and Resource is `entity_part` of "resource".
abbrev pub entity_part : TokenKind → Lang PartTree
entity_part variable = one variable >> entity_constraint

-- [ Uid { "," Uid } ]
abbrev pub uids : Lang (List UidTree)
uids = (do first ← uid; more ← many (one k.Comma >> uid); empty (first ∷ more)) or empty []

-- "[" [ Uid { "," Uid } ] "]"
abbrev pub uid_list : Lang ActionTree
uid_list = do
  one k.LBracket
  found ← uids
  one k.RBracket
  empty (action.InList found)

-- "in" ( "[" [ Uid { "," Uid } ] "]" | Uid )
abbrev pub in_actions : Lang ActionTree
in_actions = one k.In >> (uid_list or (uid giving action.In))

-- [ "==" Uid | "in" Uid | "in" "[" [ Uid { "," Uid } ] "]" ]
abbrev pub action_constraint : Lang ActionTree
action_constraint = (equal_uid giving action.Equal) or in_actions or empty action.Any

-- Action = "action" [ "==" Uid | "in" Uid | "in" "[" [ Uid { "," Uid } ] "]" ]
abbrev pub action_part : Lang ActionTree
action_part = one k.Action >> action_constraint

-- Scope = Principal "," Action "," Resource
abbrev pub scope : Lang ScopeTree
scope = do
  principal ← entity_part k.Principal
  one k.Comma
  action ← action_part
  one k.Comma
  resource ← entity_part k.Resource
  empty (record { principal = principal; action = action; resource = resource })

-- "when" | "unless"
abbrev pub condition_word_of : TokenKind → Option ConditionWord
condition_word_of k.When = Some When
condition_word_of k.Unless = Some Unless
condition_word_of _ = None

-- `condition_words`: the kinds of "when" and "unless"
abbrev pub condition_words : Kinds
condition_words = known condition_word_of

-- In this module `levels` is the number of levels of nesting that an expression may have.
module _ (levels : ℕ) where
  -- Condition = ("when" | "unless") "{" Expr "}"
  abbrev pub condition : Lang Condition
  condition = do
    word ← symbol condition_word_of
    one k.LBrace
    x ← expr levels
    one k.RBrace
    empty (record { word = word; expression = x })

  -- Policy = { Annotation } Effect "(" Scope ")" { Condition } ";"
  abbrev pub policy : Lang PolicyTree
  policy = do
    annotations ← many annotation
    effect ← of effects
    one k.LParen
    found ← scope
    one k.RParen
    conditions ← many condition
    one k.Semicolon
    empty (record {
      annotations = annotations;
      effect = effect;
      principal = found.principal;
      action = found.action;
      resource = found.resource;
      conditions = conditions;
    })

  -- { Policy }: the policies of a file
  abbrev pub policies : Lang (List PolicyTree)
  policies = many policy
