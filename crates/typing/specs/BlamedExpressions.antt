-- Defines the expression that a typing error blames: the path to it, the form whose demand is not met, and the types
-- that this demand is about.
-- Source: the rules of Faults.antt, whose derivations say why an expression has no type.
-- Rules of this product: the path enters the first operand with an error, and so on down to a form that has an error of
-- its own. If this form demands that one operand is boolean, that operand is blamed; if it is a unary operator or
-- `has`, its operand; else the form itself. Operands are numbered from 0, as they are written in the form.
use Rattle.std.specs.Prelude.{ℕ, suc, List, [], ◌∷◌}
use Rattle.grammar_core.specs.declared.expr.Expr.{Expr}
use Rattle.grammar_core.specs.declared.expr.Expr.TheVariants as form
use Rattle.typing.specs.Types.{StaticType}
use Rattle.typing.specs.Environment.{Environment}
use Rattle.typing.specs.declared.fault.TypeFault.{TypeFault}
use Rattle.typing.specs.Gained.{CapabilityList}
use Rattle.typing.specs.Faults.{Faults, FaultsEach, fault_in_operand, fault_of_unary, fault_of_binary}
use Rattle.typing.specs.Faults.{fault_of_field, fault_of_has, fault_of_set, no_literal, fault_of_address_test}
use Rattle.typing.specs.Faults.{fault_of_call, fault_left_of_and, left_of_and_no_boolean}
use Rattle.typing.specs.Faults.{fault_right_of_and, right_of_and_no_boolean, fault_left_of_or}
use Rattle.typing.specs.Faults.{left_of_or_no_boolean, fault_right_of_or, right_of_or_no_boolean}
use Rattle.typing.specs.Faults.{fault_in_test, test_no_boolean, fault_in_then, fault_in_only_else}
use Rattle.typing.specs.Faults.{fault_in_else, branches_differ, fault_here, fault_later}

-- A `Blame` is the place of a typing error in an expression, with the unmet demand.
pub record Blame : Type 0 where
  -- the indexes of operands that lead from the whole expression to the blamed one
  pub path : List ℕ
  -- the form whose demand is not met: the blamed expression, or the form that it is an operand of
  pub form : Expr
  -- the types of the operands that the demand is about
  pub types : List StaticType

-- `at_itself x ts` blames the expression `x` itself, whose demand is about operands of the types `ts`.
abbrev pub at_itself : Expr → List StaticType → Blame
at_itself x ts = record { path = []; form = x; types = ts }

-- `at_operand i x ts` blames the operand `i` of `x`, where the demand of `x` is about operands of the types `ts`.
abbrev pub at_operand : ℕ → Expr → List StaticType → Blame
at_operand i x ts = record { path = i ∷ []; form = x; types = ts }

-- `under i b` blames, in the operand `i`, what `b` blames.
abbrev pub under : ℕ → Blame → Blame
under i b = record { path = i ∷ b.path; form = b.form; types = b.types }

abbrev mutual
  -- `blamed g` is what the derivation `g` of an error blames, by one clause for each rule.
  pub blamed : {env : Environment} {K : CapabilityList} {x : Expr} {n : TypeFault} → Faults env K x n → Blame
  blamed (fault_in_operand w g) = blamed_each 0 g
  blamed (fault_of_unary op a {s} h e) = at_operand 0 (form.Unary op a) (s ∷ [])
  blamed (fault_of_binary op a b {s} {t} u h g e) = at_itself (form.Binary op a b) (s ∷ t ∷ [])
  blamed (fault_of_field a k {is_known} {s} h d e) = at_itself (form.Field a k) (s ∷ [])
  blamed (fault_of_has a k {is_known} {s} h d e) = at_operand 0 (form.Has a k) (s ∷ [])
  blamed (fault_of_set xs {ts} h e) = at_itself (form.Set xs) ts
  blamed (no_literal called a {s} i h g) = at_itself (form.UnaryCall called a) (s ∷ [])
  blamed (fault_of_address_test called a {s} i h e) = at_itself (form.UnaryCall called a) (s ∷ [])
  blamed (fault_of_call called a b {s} {t} h g e) = at_itself (form.BinaryCall called a b) (s ∷ t ∷ [])
  blamed (fault_left_of_and a b g) = under 0 (blamed g)
  blamed (left_of_and_no_boolean a b {s} h i) = at_operand 0 (form.And a b) (s ∷ [])
  blamed (fault_right_of_and a b h m g) = under 1 (blamed g)
  blamed (right_of_and_no_boolean a b {s} {t} h m g i) = at_operand 1 (form.And a b) (t ∷ [])
  blamed (fault_left_of_or a b g) = under 0 (blamed g)
  blamed (left_of_or_no_boolean a b {s} h i) = at_operand 0 (form.Or a b) (s ∷ [])
  blamed (fault_right_of_or a b h m g) = under 1 (blamed g)
  blamed (right_of_or_no_boolean a b {s} {t} h m g i) = at_operand 1 (form.Or a b) (t ∷ [])
  blamed (fault_in_test a b c g) = under 0 (blamed g)
  blamed (test_no_boolean a b c {s} h i) = at_operand 0 (form.If a b c) (s ∷ [])
  blamed (fault_in_then a b c h m g) = under 1 (blamed g)
  blamed (fault_in_only_else a b c h g) = under 2 (blamed g)
  blamed (fault_in_else a b c h i g) = under 2 (blamed g)
  blamed (branches_differ a b c {s} {t} h g i e) = at_itself (form.If a b c) (s ∷ t ∷ [])

  -- `blamed_each i g` is what the derivation `g` of an error blames, in the first operand with an error; the operands
  -- are numbered from `i`.
  pub blamed_each : {env : Environment} {K : CapabilityList} {xs : List Expr} {n : TypeFault} → ℕ
      → FaultsEach env K xs n
      → Blame
  blamed_each i (fault_here g) = under i (blamed g)
  blamed_each i (fault_later h g) = blamed_each (suc i) g
