-- Defines the report on a policy that does not pass validation, in words.
-- Source: docs/codes.md.
-- Rules of this product: the error is that of `check`; an undeclared name is named, for an undeclared action with the
-- declared ones; a typing error is reported with the first environment that has an error, and with the types there or,
-- for error 44, whether the attribute is declared, and if not, which attributes are.
use Rattle.std.specs.Prelude.{◌≡◌, ℕ, List, string_bytes}
use Rattle.policy_grammar.specs.declared.policy.Policy.{Policy}
use Rattle.type_checker.specs.schema.Schemas.{StatedSchema}
use Rattle.fault_places.specs.NamesAt.{name_view}
use Rattle.fault_places.specs.PolicyReports.{fault_of, IsBlame}
use Rattle.fault_places.specs.declared.refusing.PolicyBlame.{PolicyBlame}
use Rattle.fault_places.specs.declared.refusing.PolicyBlame.TheVariants.{Name, Typing}
use Rattle.fault_places.specs.declared.explaining.PolicyFault.{PolicyFault}
use Rattle.fault_places.specs.Words.{name_words, name_detail, typing_cause, typing_detail}

-- `path_of b` is the path to the expression that `b` blames, or to the form that has the undeclared name.
abbrev pub path_of : PolicyBlame → List ℕ
path_of (Name b) = b.path.items
path_of (Typing b) = b.place.path.items

-- `cause_of b` is the cause that the report on `b` names: an undeclared name, or the attribute that is undeclared or
-- may be missing (error 44); empty for other errors.
abbrev pub cause_of : PolicyBlame → List ℕ
cause_of (Name b) = name_words (name_view b.name)
cause_of (Typing b) = typing_cause b.fault b.place.form.now

-- `detail_of s b` are the further details of `b` under the schema `s`.
abbrev pub detail_of : StatedSchema → PolicyBlame → List ℕ
detail_of s (Name b) = name_detail s b.fault
detail_of s (Typing b) = typing_detail s b

-- `IsWordedAs s b f` holds if `f` reports the error, the path, the cause and the details of `b`.
pub record IsWordedAs (s : StatedSchema) (b : PolicyBlame) (f : PolicyFault) : Type 0 where
  pub fault : f.fault ≡ fault_of b
  pub path : f.path.items ≡ path_of b
  pub cause : string_bytes f.cause ≡ cause_of b
  pub detail : string_bytes f.detail ≡ detail_of s b

-- `IsPolicyFault s policy f` holds if `f` reports, in words, why `policy` does not pass validation under the schema
-- `s`.
abbrev pub IsPolicyFault : StatedSchema → Policy → PolicyFault → Type 0
IsPolicyFault s policy f = (b : PolicyBlame) × IsBlame s policy b × IsWordedAs s b f
