-- Defines the theorems that each text has exactly one value or error, that the reported error is at the least offset,
-- and that the names of a file's policies are distinct.
use Rattle.std.specs.Prelude.{◌≡◌, ◌⊎◌, ℕ, List, length, Some}
use Rattle.std.specs.List.{IsDistinct}
use Rattle.std.specs.Str.{bytes_eq}
use Rattle.policy_grammar.specs.declared.policy.Policy.{Policy}
use Rattle.policy_grammar.specs.declared.fault.ReadFault.{ReadFault}
use Rattle.grammar_desugaring.specs.declared.fault.DesugarFault.{DesugarFault}
use Rattle.grammar_desugaring.specs.ReportedErrors.{at, IsLeastOf}
use Rattle.policy_grammar.specs.Faults.{place_of}
use Rattle.policy_grammar.specs.PolicyText.{IsPolicyFile, IsReportedOf}

-- `HasOneReading Holds Refused` holds if each text has exactly one outcome: a value that `Holds` relates to it, or an
-- error that `Refused` relates to it.
pub record HasOneReading {A : Type 0} (Holds : List ℕ → A → Type 0) (Refused : List ℕ → ReadFault → Type 0) :
    Type 0 where
  pub one_value : (text : List ℕ) (x y : A) → Holds text x → Holds text y → x ≡ y
  pub not_both : (text : List ℕ) (x : A) (why : ReadFault) → Holds text x → Refused text why → ⊥
  pub one_refusal : (text : List ℕ) (why other : ReadFault) → Refused text why → Refused text other → why ≡ other
  pub some : (text : List ℕ) → ((x : A) × Holds text x) ⊎ ((why : ReadFault) × Refused text why)

-- `IsFileOf text file` holds if `text` is parsed as a file, where `file` is the pair of the names and the policies.
abbrev pub IsFileOf : List ℕ → (List (List ℕ) × List Policy) → Type 0
IsFileOf text file = IsPolicyFile text file.0 file.1

-- `ReportedIsLeast`: the reported error has the offset of one of the errors, and none of these has a lesser offset.
abbrev pub ReportedIsLeast : Type 0
ReportedIsLeast = (faults : List DesugarFault) (why : ReadFault) → IsReportedOf faults why →
    (fault : DesugarFault) × IsLeastOf faults fault × (place_of why ≡ Some (at fault))

-- `EachIsNamed`: each policy of a file has a name.
abbrev pub EachIsNamed : Type 0
EachIsNamed = (text : List ℕ) (names : List (List ℕ)) (policies : List Policy) →
    IsPolicyFile text names policies → length names ≡ length policies

-- `NamesDiffer`: the names of a file's policies are distinct.
abbrev pub NamesDiffer : Type 0
NamesDiffer = (text : List ℕ) (names : List (List ℕ)) (policies : List Policy) →
    IsPolicyFile text names policies → IsDistinct bytes_eq names
