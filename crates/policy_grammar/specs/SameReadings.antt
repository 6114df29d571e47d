-- Defines the theorem that the text of a policy of a file, parsed by itself, gives the same policy as in the file, or
-- an error.
-- Rules of this product: the text around a policy in its file affects only the policy's name.
use Rattle.std.specs.Prelude.{◌≡◌, ℕ, List}
use Rattle.std.specs.List.{AllZip}
use Rattle.std.specs.Str.{IsUtf8}
use Rattle.policy_grammar.specs.declared.policy.Policy.{Policy}
use Rattle.policy_grammar.specs.PolicyText.{IsPolicyFile, IsPolicyText}
use Rattle.policy_grammar.specs.Cuts.{AreTextsOf}

-- `IsAtMostPolicy text policy` holds if parsing `text` as one policy gives `policy` or an error. An error is possible:
-- a policy of a file may be too long by itself.
abbrev pub IsAtMostPolicy : List ℕ → Policy → Type 0
IsAtMostPolicy text policy = (read : Policy) → IsPolicyText text read → read ≡ policy

-- `EachIsParsedAsInItsFile`: the text of each policy of a file, parsed by itself, gives the policy of the file at the
-- same index, or an error.
abbrev pub EachIsParsedAsInItsFile : Type 0
EachIsParsedAsInItsFile = (text : List ℕ) (names : List (List ℕ)) (policies : List Policy) (texts : List (List ℕ))
    → IsUtf8 text → IsPolicyFile text names policies → AreTextsOf text texts → AllZip IsAtMostPolicy texts policies
