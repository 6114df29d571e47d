-- Defines well-formed trees of policies: their tokens are among given tokens, each of a kind that its position allows.
use Rattle.std.specs.Prelude.{List, Option, Some, None}
use Rattle.std.specs.List.{AllByRecursion}
use Rattle.grammar_syntax.specs.declared.token.TokenKind.TheVariants as k
use Rattle.grammar_syntax.specs.declared.token.Token.{Token}
use Rattle.grammar_parsing.specs.declared.tree.Annotation.{Annotation}
use Rattle.grammar_parsing.specs.declared.tree.PartTree.{PartTree}
use Rattle.grammar_parsing.specs.declared.tree.PartTree.TheVariants as part
use Rattle.grammar_parsing.specs.declared.tree.ActionTree.{ActionTree}
use Rattle.grammar_parsing.specs.declared.tree.ActionTree.TheVariants as action
use Rattle.grammar_parsing.specs.declared.tree.Condition.{Condition}
use Rattle.grammar_parsing.specs.declared.tree.PolicyTree.{PolicyTree}
use Rattle.grammar_syntax.specs.Kinds.{only}
use Rattle.grammar_syntax.specs.Lang.{Lang}
pub use Rattle.grammar_syntax.specs.WellFormed.{WellFormedToken, WellFormedPath, WellFormedUid}
pub use Rattle.grammar_syntax.specs.WellFormed.{WellFormedExpr}
use Rattle.grammar_parsing.specs.Grammar.{words, effects}

-- `WellFormedValue ts o` holds if the value `o` of an annotation, if it has one, is a String among `ts`.
abbrev pub WellFormedValue : List Token → Option Token → Type 0
WellFormedValue ts None = Unit {0}
WellFormedValue ts (Some t) = WellFormedToken (only k.Text) ts t

-- `WellFormedAnnotation ts a` holds if the annotation `a` is made of tokens of `ts`, each of a kind that its position
-- allows.
abbrev pub WellFormedAnnotation : List Token → Annotation → Type 0
WellFormedAnnotation ts a = WellFormedToken (only k.At) ts a.at × WellFormedToken words ts a.key
    × WellFormedValue ts a.value

-- `WellFormedPart ts part` holds if `part`, a constraint on the principal or the resource, is well formed over the
-- tokens `ts`.
abbrev pub WellFormedPart : List Token → PartTree → Type 0
WellFormedPart ts part.Any = Unit {0}
WellFormedPart ts (part.Equal u) = WellFormedUid ts u
WellFormedPart ts (part.In u) = WellFormedUid ts u
WellFormedPart ts (part.Is p) = WellFormedPath ts p
WellFormedPart ts (part.IsIn p u) = WellFormedPath ts p × WellFormedUid ts u

-- `WellFormedAction ts part` holds if `part`, a constraint on the action, is well formed over the tokens `ts`.
abbrev pub WellFormedAction : List Token → ActionTree → Type 0
WellFormedAction ts action.Any = Unit {0}
WellFormedAction ts (action.Equal u) = WellFormedUid ts u
WellFormedAction ts (action.In u) = WellFormedUid ts u
WellFormedAction ts (action.InList us) = AllByRecursion (WellFormedUid ts) us

-- `WellFormedCondition ts c` holds if the condition `c` is well formed over the tokens `ts`.
abbrev pub WellFormedCondition : List Token → Condition → Type 0
WellFormedCondition ts c = WellFormedExpr ts c.expression

-- `WellFormedPolicy ts p` holds if the policy `p` is well formed over the tokens `ts`.
pub record WellFormedPolicy (ts : List Token) (p : PolicyTree) : Type 0 where
  pub annotations : AllByRecursion (WellFormedAnnotation ts) p.annotations
  pub effect : WellFormedToken effects ts p.effect
  pub principal : WellFormedPart ts p.principal
  pub action : WellFormedAction ts p.action
  pub resource : WellFormedPart ts p.resource
  pub conditions : AllByRecursion (WellFormedCondition ts) p.conditions

-- ## Theorems

-- `IsMadeOfTokens L Holds` holds if `Holds` relates each list of tokens to each tree that the list derives in `L`.
abbrev pub IsMadeOfTokens : {A : Type 0} → Lang A → (List Token → A → Type 0) → Type 0
IsMadeOfTokens L Holds = (ts : List Token) (x : _) → L ts x → Holds ts x
