-- Defines the text of each policy in a file.
--
-- Source: Cedar reference guide 4.0, "Grammar specification for Cedar policy syntax": a policy ends with `;`, and no
-- other token of a policy is a `;`.
-- Rules of this product: the text of a policy begins at the first non-whitespace character after the previous policy,
-- so comments before a policy belong to its text. What follows the last `;` belongs to no policy.
use Rattle.std.specs.Prelude.{◌≡◌, ℕ, Bool, true, false, List, [], ◌∷◌, ◌++◌, length, map, drop, slice_range}
use Rattle.std.specs.Prelude.{if◌then◌else◌}
use Rattle.std.specs.List.{AllByRecursion, AllZip, concat}
use Rattle.std.specs.Str.{IsUtf8, NoCharPasses, trim_start}
use Rattle.std.specs.Char.{is_not_whitespace}
use Rattle.grammar_desugaring.specs.grammar_syntax.declared.token.TokenKind.{TokenKind}
use Rattle.grammar_desugaring.specs.grammar_syntax.declared.token.TokenKind.TheVariants as k
use Rattle.grammar_desugaring.specs.grammar_syntax.declared.token.Token.{Token}
use Rattle.grammar_desugaring.specs.grammar_syntax.Lexing.{IsLexed}
use Rattle.grammar_parsing.specs.declared.tree.PolicyTree.{PolicyTree}
use Rattle.grammar_parsing.specs.Grammar.{policies, policy}

-- `is_end k` tests whether `k` is the kind of `;`, which ends a policy.
abbrev pub is_end : TokenKind → Bool
is_end k.Semicolon = true
is_end _ = false

-- `parts_from text from ts` are the parts into which the `;` among the tokens `ts` cut `text`, from the byte offset
-- `from` on; each ends with its `;`.
abbrev pub parts_from : List ℕ → ℕ → List Token → List (List ℕ)
parts_from text from [] = []
parts_from text from (t ∷ ts) =
    if is_end t.kind then slice_range text from t.end ∷ parts_from text t.end ts else parts_from text from ts

-- `left_from from ts` is the byte offset after the last part that `parts_from` gives for the same `from` and `ts`, or
-- `from` if there is no part.
abbrev pub left_from : ℕ → List Token → ℕ
left_from from [] = from
left_from from (t ∷ ts) = if is_end t.kind then left_from t.end ts else left_from from ts

-- `policy_texts text ts` are the texts of the policies of `text`, where `ts` are the tokens of `text`: the parts
-- (`parts_from`) without leading whitespace.
abbrev pub policy_texts : List ℕ → List Token → List (List ℕ)
policy_texts text ts = map trim_start (parts_from text 0 ts)

-- `AreTextsOf text texts` holds if `text` has tokens, and `texts` are the texts of its policies.
abbrev pub AreTextsOf : List ℕ → List (List ℕ) → Type 0
AreTextsOf text texts = (ts : List Token) × IsLexed text ts × (texts ≡ policy_texts text ts)

-- ## Theorems

-- `IsSelfContained text` holds if `text` by itself has tokens, of which exactly the last is a `;`, and this `;` ends
-- `text`.
pub record IsSelfContained (text : List ℕ) : Type 0 where
  pub before : List Token
  pub last : Token
  pub lexed : IsLexed text (before ++ last ∷ [])
  pub none_before : AllByRecursion (λ t. is_end t.kind ≡ false) before
  pub ends : is_end last.kind ≡ true
  pub at_end : last.end ≡ length text

-- `EachIsSelfContained`: each text of `policy_texts` is self-contained.
abbrev pub EachIsSelfContained : Type 0
EachIsSelfContained = (text : List ℕ) (ts : List Token) → IsUtf8 text → IsLexed text ts
    → AllByRecursion IsSelfContained (policy_texts text ts)

-- `PartsJoin`: a text that has tokens is the concatenation of its parts and of the rest after the last.
abbrev pub PartsJoin : Type 0
PartsJoin = (text : List ℕ) (ts : List Token) → IsLexed text ts
    → text ≡ concat (parts_from text 0 ts) ++ drop (left_from 0 ts) text

-- `IsSpaced part text` holds if `part` is whitespace, which may be empty, followed by `text`.
pub record IsSpaced (part text : List ℕ) : Type 0 where
  pub space : List ℕ
  pub is_space : NoCharPasses is_not_whitespace space
  pub whole : part ≡ space ++ text

-- `EachIsSpaced`: each part is whitespace followed by the text of its policy.
abbrev pub EachIsSpaced : Type 0
EachIsSpaced = (text : List ℕ) (ts : List Token) → IsUtf8 text → IsLexed text ts
    → AllZip IsSpaced (parts_from text 0 ts) (policy_texts text ts)

-- `AreAsManyAsPolicies`: if the tokens of a text derive policies, `AreTextsOf` gives one text for each of these
-- policies.
abbrev pub AreAsManyAsPolicies : Type 0
AreAsManyAsPolicies = (levels : ℕ) (text : List ℕ) (ts : List Token) (trees : List PolicyTree) (texts : List (List ℕ))
    → IsLexed text ts → policies levels ts trees → AreTextsOf text texts → length texts ≡ length trees

-- `DerivesPolicy levels text` holds if `text` by itself has tokens that derive a policy of at most `levels` levels of
-- nesting.
pub record DerivesPolicy (levels : ℕ) (text : List ℕ) : Type 0 where
  pub tokens : List Token
  pub lexed : IsLexed text tokens
  pub tree : PolicyTree
  pub derived : policy levels tokens tree

-- `EachDerivesPolicy`: if the tokens of a file derive policies, each text of `policy_texts` by itself has tokens that
-- derive a policy.
abbrev pub EachDerivesPolicy : Type 0
EachDerivesPolicy = (levels : ℕ) (text : List ℕ) (ts : List Token) (trees : List PolicyTree) → IsUtf8 text
    → IsLexed text ts → policies levels ts trees → AllByRecursion (DerivesPolicy levels) (policy_texts text ts)
