-- Defines the views of the code's named policies and validation results, and how a line is appended to other lines.
use Rattle.std.specs.Prelude.{List, map, String, string_bytes, ◌∷◌, ℕ, Bool, true, false, Result, Ok, Err}
use Rattle.std.specs.Global.{Global}
use Rattle.decision_texts.specs.policy_grammar.declared.policy.Policy.{Policy}
use Rattle.decision_texts.specs.authoriser.Answers.{NamedPolicy}
use Rattle.validator.specs.declared.checking.Verdict.{Verdict}
use Rattle.validator.specs.typing.declared.fault.TypeFault.{TypeFault}
use Rattle.validator.specs.Outcomes.{CheckResult, passes, refused}
use Rattle.schema_decisions.specs.Checks.{line_end}

-- `own_name p` is the named policy that the pair `p` of the code represents.
abbrev pub own_name : String Global × Policy → NamedPolicy
own_name p = record { id = string_bytes p.0; policy = p.1 }

-- `named_in ps` is the list of the named policies that the pairs `ps` of the code represent.
abbrev pub named_in : List (String Global × Policy) → List NamedPolicy
named_in = map own_name

-- `outcome_of r` is the validation outcome that the result `r` of the code represents.
abbrev pub outcome_of : Result Verdict TypeFault → CheckResult
outcome_of (Ok verdict) = passes verdict.impossible
outcome_of (Err fault) = refused fault

-- `set_apart is_first line` is `line` as it is appended to the lines before it: after a line feed, unless `is_first`.
abbrev pub set_apart : Bool → List ℕ → List ℕ
set_apart true line = line
set_apart false line = line_end ∷ line
