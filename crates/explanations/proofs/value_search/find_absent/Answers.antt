use Rattle.std.proofs.Common.{◌≡◌, ◌∙◌, ℕ, ◌+◌, ◌<◌, ◌≤◌, List, [], ◌∷◌, length, get_or, drop, Bool, true, false, not, ◌||◌, if◌then◌else◌, Option, Some, IfOk, sym, ap, subst}
use Rattle.std.specs.Prelude.{is_some}
use Rattle.std.specs.Option.{option_map}
use Rattle.serde_json.specs.Data.{Data}
use Rattle.serde_json.specs.Find.{get}
use Rattle.serde_json.specs.View.{view}
use Rattle.schema_types.specs.CedarViews.{cedar_fields_view}
use Rattle.schema_types.specs.declared.cedar.CedarType.{CedarType}
use Rattle.entities.specs.EntityForms.{or_empty}
use Rattle.explanations.specs.Steps.{Step, Key}
use Rattle.explanations.specs.inner.FoundPaths.{absent_path}
use Rattle.explanations.proofs.Going.{rest_goes, rest_stops, rest_done}
use Rattle.explanations.proofs.value_search.find_absent.Goals as goal
use Rattle.explanations.proofs.value_search.find_absent.Goals.{else-field-via-then-field+else-lacks, else-field-via-else-field}

abbrev Row : Type 0
Row = List (List ℕ × CedarType × Bool)

abbrev some_key : List ℕ → Option (List Step)
some_key k = Some (Key k ∷ [])

absent_first : (f : List ℕ × CedarType × Bool) (fs : Row) (d : Data) (there : Bool) → there ≡ (not f.2 || is_some (get f.0 d))
    → absent_path (cedar_fields_view (f ∷ fs)) d ≡ (if there then absent_path (cedar_fields_view fs) d else some_key f.0)
absent_first f fs d there e = ap (λ (b : Bool). if b then absent_path (cedar_fields_view fs) d else some_key f.0) (sym e)

-- whether a required key is there, by whether it is lacking
by_lack : (lacking found required : Bool) → lacking ≡ not found → required ≡ true → not lacking ≡ (not required || found)
by_lack lacking true true e is = ap not e
by_lack lacking false true e is = ap not e
by_lack lacking found false e is = absurd cc

not_required : (r s : Bool) → r ≡ false → true ≡ (not r || s)
not_required r s e = sym (ap (λ (x : Bool). not x || s) e)

pub returns-then-lacks : goal.returns-then-lacks
returns-then-lacks c =
    let d = or_empty (option_map (λ v. view v.now) c.args.value) in
    let xs = c.args.fields.now in
    let i = c.loop-field.field-index in
    let f = c.field-item.result in
    let lt : i < length xs = c.loop-field-test.true in
    let at : f ≡ get_or xs i f = c.field-item.is in
    let lacking : c.lacks.result ≡ not (is_some (get f.0 d)) = c.lacks.ensures ∙ ap (λ (k : List ℕ). not (is_some (get k d))) c.as_str.ensures in
    let there : false ≡ (not f.2 || is_some (get f.0 d)) = sym (ap not c.if-lacks.true) ∙ by_lack c.lacks.result (is_some (get f.0 d)) f.2 lacking c.if-field.true in
    subst (λ (x : Option (List Step)). IfOk c.at_key.result (λ o. o ≡ x))
    (ap some_key c.as_str-then-lacks.ensures
    ∙ rest_stops (λ (ys : Row). absent_path (cedar_fields_view ys) d) xs i f (some_key f.0) _ lt at (absent_first f (drop (i + 1) xs) d false there) c.loop-field.invariant)
    c.at_key.ensures

pub loop-field-preserved : goal.loop-field-preserved
loop-field-preserved c =
    let d = or_empty (option_map (λ v. view v.now) c.args.value) in
    let xs = c.args.fields.now in
    let i = c.loop-field.field-index in
    let f = c.field-item.result in
    let lt : i < length xs = c.loop-field-test.true in
    let at : f ≡ get_or xs i f = c.field-item.is in
    let there : true ≡ (not f.2 || is_some (get f.0 d)) =
    elim c.else-field.branch [
      | else-field-via-then-field+else-lacks w ↦
          sym (ap not w.if-lacks.false) ∙ by_lack w.lacks.result (is_some (get f.0 d)) f.2 (w.lacks.ensures ∙ ap (λ (k : List ℕ). not (is_some (get k d))) w.as_str.ensures) w.if-field.true
      | else-field-via-else-field w ↦ not_required f.2 (is_some (get f.0 d)) w.if-field.false
    ] in
    rest_goes (λ (ys : Row). absent_path (cedar_fields_view ys) d) xs i f _ lt at (absent_first f (drop (i + 1) xs) d true there) c.loop-field.invariant

pub returns : goal.returns
returns c =
    let d = or_empty (option_map (λ v. view v.now) c.args.value) in
    let n = c.loop-field.field-index in
    let le : length c.args.fields.now ≤ n = c.loop-field-test.false in
    rest_done (λ (ys : Row). absent_path (cedar_fields_view ys) d) c.args.fields.now n _ le c.loop-field.invariant
