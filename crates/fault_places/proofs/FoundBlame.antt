-- The judgement on one expression: its type or its error.
use Rattle.std.specs.Prelude.{◌≡◌, [], ◌++◌, List, Option}
use Rattle.std.proofs.Common.{sym, ap, ◌∙◌, subst}
use Rattle.std.proofs.lemmas.List.{map-append}
use Rattle.grammar_core.specs.declared.expr.Expr.{Expr}
use Rattle.typing.specs.declared.fault.TypeFault.{TypeFault}
use Rattle.typing.specs.Types as types
use Rattle.typing.specs.Environment.{Environment}
use Rattle.typing.specs.Typing.{Types}
use Rattle.typing.specs.Faults.{Faults}
use Rattle.validator.specs.Passing.{HasType}
use Rattle.type_checker.specs.Views.{static_view, boolean_view}
use Rattle.type_checker.specs.declared.static_type.BooleanType.{BooleanType}
use Rattle.type_checker.specs.declared.static_type.BooleanType.TheVariants as truth
use Rattle.type_checker.specs.type_capabilities.CapabilityList.{capability_of, capabilities}
use Rattle.type_checker.specs.type_capabilities.declared.capability.Capability.{Capability}
use Rattle.type_checker.specs.declared.static_type.StaticType.{StaticType}
use Rattle.fault_places.specs.inner.Steps.{IsTyped, IsUntyped}

-- without known capabilities

module _ (env : Environment) (x : Expr) (ps qs : List Capability) (ts us : List StaticType) (none : ps ≡ []) where
  -- it has a type
  pub typed_there : (o : Option BooleanType) → IsTyped env ps ts x qs us o → (s : types.StaticType) × HasType x s env
  typed_there o t =
      (static_view t.kind, (capabilities t.gained, subst (λ rs. Types env (capabilities rs) x (static_view t.kind) (capabilities t.gained)) none t.typed))

  -- or an error, and nothing is known then
  pub faulty_there : (f : TypeFault) (u : IsUntyped env ps x qs) → f ≡ u.error → Faults env [] x f
  faulty_there f u told =
      subst (λ g. Faults env [] x g) (sym told) (subst (λ rs. Faults env (capabilities rs) x u.error) none u.has_error)

  pub still_none : (u : IsUntyped env ps x qs) → qs ≡ []
  still_none u = u.unchanged ∙ none

pub pairs_append : (ps qs rs : List Capability) → rs ≡ ps ++ qs → capabilities rs ≡ capabilities ps ++ capabilities qs
pairs_append ps qs rs e = ap capabilities e ∙ map-append capability_of ps qs

boolean_view_boolean : (t : BooleanType) → types.IsBoolean (boolean_view t)
boolean_view_boolean truth.True = types.is_true
boolean_view_boolean truth.False = types.is_false
boolean_view_boolean truth.Either = types.is_either

pub boolean_so : {s : types.StaticType} (t : BooleanType) → s ≡ boolean_view t → types.IsBoolean s
boolean_so t e = subst types.IsBoolean (sym e) (boolean_view_boolean t)
