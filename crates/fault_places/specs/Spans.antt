-- Defines spans of tokens, and the span of a core node or a name of a policy.
-- Source: docs/codes.md.
-- Rules of this product: a span is the offset of its first byte, and the offset after its last byte.
use Rattle.std.specs.Prelude.{◌≡◌, ◌⊎◌, ℕ, ◌-◌, List, length, slice_get, Option, Some, None, option_and_then}
use Rattle.grammar_syntax.specs.declared.token.Token.{Token}
use Rattle.grammar_syntax.specs.Lexing.{IsLexed}
use Rattle.grammar_syntax.specs.Lang.{at_any}
use Rattle.grammar_parsing.specs.declared.tree.PolicyTree.{PolicyTree}
use Rattle.grammar_parsing.specs.Grammar as grammar
use Rattle.grammar_parsing.specs.Expressions.{nesting_limit}
use Rattle.policy_grammar.specs.declared.fault.ReadFault.{ReadFault}
use Rattle.policy_grammar.specs.Texts.{Derives, IsUnread, most_policy_bytes}
use Rattle.fault_places.specs.declared.spans.Span.{Span}
use Rattle.fault_places.specs.Places.{written_at}
use Rattle.fault_places.specs.Names.{named_at}

-- `between first last` is the span from the start of the token `first` to the end of the token `last`; `None` if one is
-- missing.
abbrev pub between : Option Token → Option Token → Option Span
between (Some first) (Some last) = Some (record { start = first.start; end = last.end })
between (Some first) None = None
between None last = None

-- `covering ts` is the span from the start of the first of the tokens `ts` to the end of the last.
abbrev pub covering : List Token → Option Span
covering ts = between (slice_get ts 0) (slice_get ts (length ts - 1))

-- A `Written` is a way to choose some of the tokens of a policy, given all of them and its tree.
abbrev pub Written : Type 0
Written = List Token → PolicyTree → Option (List Token)

-- `IsSpanInPolicy way text found` holds if `text` is a policy, and `found` is the span of the tokens that `way`
-- chooses, or `None` if it chooses none.
pub record IsSpanInPolicy (way : Written) (text : List ℕ) (found : Option Span) : Type 0 where
  pub tree : PolicyTree
  pub derives : Derives (grammar.policy nesting_limit) most_policy_bytes text tree
  pub tokens : List Token
  pub lexed : IsLexed text tokens
  pub covers : found ≡ option_and_then covering (way tokens tree)

-- `IsNoPolicy text` holds if `text` is not a policy.
abbrev pub IsNoPolicy : List ℕ → Type 0
IsNoPolicy text =
    (why : ReadFault) × IsUnread (grammar.policy nesting_limit) (at_any grammar.policy) most_policy_bytes text why

-- `IsSpanBy way text found` holds if `IsSpanInPolicy way text found` does, or if `text` is not a policy and `found` is
-- `None`.
abbrev pub IsSpanBy : Written → List ℕ → Option Span → Type 0
IsSpanBy way text found = IsSpanInPolicy way text found ⊎ (IsNoPolicy text × (found ≡ None))

-- `IsSpanOf text path found` holds if `found` is the span of the least written form around the core node at `path` of
-- the policy's whole expression, or `None` if there is no such node.
abbrev pub IsSpanOf : List ℕ → List ℕ → Option Span → Type 0
IsSpanOf text path = IsSpanBy (λ ts tree. written_at ts tree path) text

-- `IsNameSpanOf text path found` holds if `found` is the span of the name that the core node at `path` itself has, or
-- `None` if it has none.
abbrev pub IsNameSpanOf : List ℕ → List ℕ → Option Span → Type 0
IsNameSpanOf text path = IsSpanBy (λ ts tree. named_at ts tree path) text
