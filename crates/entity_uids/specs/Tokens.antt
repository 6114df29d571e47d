-- Defines how JSON is written token by token, without building a value first.
-- Source: RFC 8259, section 2: a text of JSON is a sequence of tokens.
use Rattle.std.specs.Prelude.{◌≡◌, ◌++◌, ℕ, List, [], ◌∷◌, Some}
use Rattle.std.specs.List.{AllByRecursion}
use Rattle.json.specs.Token.{Token, key}
use Rattle.json.specs.Tree.{json_tokens}
use Rattle.json.specs.Written.{Written}
use Rattle.serde_json.specs.Data.{Data}
use Rattle.serde_json.specs.Read.{of_json}
use Rattle.serde_json.specs.Written.{outline}

-- `tokens_of d` are the tokens of the value `d`.
abbrev pub tokens_of : Data → List Token
tokens_of d = json_tokens (outline d)

-- `tokens_of_all ds` are the tokens of the values `ds`, one after another.
abbrev pub tokens_of_all : List Data → List Token
tokens_of_all [] = []
tokens_of_all (d ∷ ds) = tokens_of d ++ tokens_of_all ds

-- `AppendsTokens old new ts` holds if the output `new` is `old` with the tokens `ts` appended, and the bytes before the
-- first token of the output are unchanged.
pub record AppendsTokens (old new : Written) (ts : List Token) : Type 0 where
  pub before : new.before ≡ old.before
  pub tokens : new.tokens ≡ old.tokens ++ ts

-- `IsReadAgain d` holds if the written form of `d` is parsed as `d`.
abbrev pub IsReadAgain : Data → Type 0
IsReadAgain d = of_json (outline d) ≡ Some d

-- `AppendsValue old new d` holds if the output `new` is `old` with the value `d` appended, and the written form of `d`
-- is parsed as `d`.
pub record AppendsValue (old new : Written) (d : Data) : Type 0 where
  pub written : AppendsTokens old new (tokens_of d)
  pub again : IsReadAgain d

-- `AppendsMember old new k d` holds if the output `new` is `old` with an object's member appended, and the written form
-- of `d` is parsed as `d`. The member has the key `k` and the value `d`.
pub record AppendsMember (old new : Written) (k : List ℕ) (d : Data) : Type 0 where
  pub written : AppendsTokens old new (key k ∷ tokens_of d)
  pub again : IsReadAgain d

-- `AppendsAll old new ds` holds if the output `new` is `old` with the values `ds` appended, one after another, and the
-- written form of each is parsed as that value.
pub record AppendsAll (old new : Written) (ds : List Data) : Type 0 where
  pub written : AppendsTokens old new (tokens_of_all ds)
  pub again : AllByRecursion IsReadAgain ds
