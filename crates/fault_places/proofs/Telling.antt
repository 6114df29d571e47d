-- What is told of a policy, by its names and its environments.
use Rattle.std.specs.Prelude.{◌≡◌, All}
use Rattle.std.proofs.Common.{subst}
use Rattle.grammar_core.specs.declared.expr.Expr.{Expr}
use Rattle.policy_grammar.specs.declared.policy.Policy.{Policy}
use Rattle.policy_grammar.specs.PolicyExpression.{expression_of}
use Rattle.type_checker.specs.schema.Schemas.{StatedSchema}
use Rattle.validator.specs.Names.{names_in}
use Rattle.validator.specs.Unknown.{IsKnown}
use Rattle.validator.specs.Passing
use Rattle.validator.specs.Passing.{environments_of, HasBooleanType, Passes}
use Rattle.fault_places.specs.NamesAt.{IsNameBlame}
use Rattle.fault_places.specs.FirstTypingError.{IsTypeBlame}
use Rattle.fault_places.specs.PolicyReports.{IsBlame}
use Rattle.fault_places.specs.declared.unknown_names.NameBlame.{NameBlame}
use Rattle.fault_places.specs.declared.blaming.TypeBlame.{TypeBlame}
use Rattle.fault_places.specs.declared.refusing.PolicyBlame.TheVariants.{Name, Typing}

module _ (s : StatedSchema) (policy : Policy) (whole : Expr) (is : whole ≡ expression_of policy) where
  pub told_name : (b : NameBlame) → IsNameBlame s whole b → IsBlame s policy (Name b)
  told_name b h =
      let g = subst (λ x. IsNameBlame s x b) is h in
      (Passing.for_name g.first, g)

  pub told_typing : (b : TypeBlame) → All (IsKnown s) (names_in whole) → IsTypeBlame s (expression_of policy) b
      → IsBlame s policy (Typing b)
  told_typing b k h =
      let known = subst (λ x. All (IsKnown s) (names_in x)) is k in
      (Passing.for_type known h.first, (known, h))

  pub told_passes : All (IsKnown s) (names_in whole) → All (HasBooleanType (expression_of policy)) (environments_of s)
      → Passes s policy
  told_passes k t = record { known = subst (λ x. All (IsKnown s) (names_in x)) is k; typed = t }
