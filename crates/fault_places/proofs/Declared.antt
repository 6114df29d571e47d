-- Whether an attribute is declared.
use Rattle.std.specs.Prelude.{◌≡◌, ◌↔◌, ℕ, List, IsTrue, true, false, Ok, Err, refl}
use Rattle.std.proofs.Common.{sym, ◌∙◌, subst}
use Rattle.std.proofs.lemmas.Bool.{false≢true}
use Rattle.typing.specs.Types.{StaticType}
use Rattle.typing.specs.Environment.{Environment}
use Rattle.typing.specs.declared.fault.TypeFault.{TypeFault}
use Rattle.typing.specs.Rows.{Row, field_type_of}

ok_not_err : {t : StaticType} {n : TypeFault} {r : Row} → r ≡ Ok t → r ≡ Err n → ⊥
ok_not_err {t} {n} e f = apart (sym e ∙ f)
  where
    apart : Ok t ≡ Err n → ⊥
    apart g = cc

module _ (env other : Environment) (same : env ≡ other) (k : List ℕ) (s : StaticType) where
  abbrev IsDeclared : Environment → Type 0
  IsDeclared E = (t : StaticType) × (field_type_of E true k s ≡ Ok t)

  pub declared : (t : StaticType) → field_type_of env true k s ≡ Ok t → IsTrue true ↔ IsDeclared other
  declared t e = ((λ h. subst IsDeclared same (t, e)), λ h. refl)

  pub undeclared : (n : TypeFault) → field_type_of env true k s ≡ Err n → IsTrue false ↔ IsDeclared other
  undeclared n e = ((λ h. absurd (false≢true h)), λ h. let g = subst IsDeclared (sym same) h in absurd (ok_not_err g.1 e))
