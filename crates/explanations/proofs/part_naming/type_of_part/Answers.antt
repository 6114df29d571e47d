use Rattle.std.proofs.Common.{◌≡◌, ◌∙◌, List, [], ◌∷◌, length, Bool, true, false, if◌then◌else◌, Option, None, Bor, option_map, refl, sym, ap, arith}
use Rattle.std.specs.Prelude.{option_and_then}
use Rattle.schema_types.specs.Cedar.{Cedar}
use Rattle.schema_types.specs.CedarViews.{cedar_view}
use Rattle.schema_types.specs.declared.cedar.CedarType.{CedarType}
use Rattle.explanations.specs.declared.part_faults.PartFault.{PartFault}
use Rattle.explanations.specs.declared.steps.Step.{Step}
use Rattle.explanations.specs.Steps.{path_in, steps_view}
use Rattle.explanations.specs.PartWords.{is_of_value, type_after_first, type_of_part}
use Rattle.explanations.proofs.part_naming.type_of_part.Goals as goal

by_test : (x : PartFault) (whole : Option Cedar) (b : Bool) → is_of_value x.fault ≡ b
    → (if b then option_and_then (λ t. type_after_first t (path_in x)) whole else None) ≡ type_of_part x whole
by_test x whole b e = ap (λ (c : Bool). if c then option_and_then (λ t. type_after_first t (path_in x)) whole else None) (sym e)

no_first : (t : Cedar) (path : List Step) → length path ≡ 0 → None ≡ type_after_first t (steps_view path)
no_first t [] e = refl
no_first t (step ∷ path) e = absurd (omega (arith, e))

abbrev after_first : PartFault → Option (Bor CedarType) → Option Cedar
after_first x o = option_and_then (λ t. type_after_first t (path_in x)) (option_map (λ t. cedar_view t.now) o)

pub returns-then-not-is_of_value : goal.returns-then-not-is_of_value
returns-then-not-is_of_value c =
    by_test c.args.found.now (option_map (λ t. cedar_view t.now) c.args.whole) false (sym c.is_of_value.ensures ∙ c.if-not-is_of_value.true)

pub returns-in-Some-split_first : goal.returns-in-Some-split_first
returns-in-Some-split_first c =
    let x = c.args.found.now in
    c.type_at.ensures ∙ ap (λ (p : List Step). type_after_first (cedar_view c.in-Some.whole.now) (steps_view p)) (sym c.in-Some-split_first.ensures.cases.0 ∙ c.as_slice.ensures.value) ∙ ap (after_first x) (sym c.in-Some.is)
    ∙ by_test x (option_map (λ t. cedar_view t.now) c.args.whole) true (sym c.is_of_value.ensures ∙ c.if-not-is_of_value.false)

pub returns-in-None-split_first : goal.returns-in-None-split_first
returns-in-None-split_first c =
    let x = c.args.found.now in
    no_first (cedar_view c.in-Some.whole.now) x.path.items (sym (ap (λ (p : List Step). length p) c.as_slice.ensures.value) ∙ c.in-None-split_first.ensures.cases) ∙ ap (after_first x) (sym c.in-Some.is)
    ∙ by_test x (option_map (λ t. cedar_view t.now) c.args.whole) true (sym c.is_of_value.ensures ∙ c.if-not-is_of_value.false)

pub returns-in-None : goal.returns-in-None
returns-in-None c =
    let x = c.args.found.now in
    ap (after_first x) (sym c.in-None.is) ∙ by_test x (option_map (λ t. cedar_view t.now) c.args.whole) true (sym c.is_of_value.ensures ∙ c.if-not-is_of_value.false)
