use Rattle.std.proofs.Common.{◌∙◌, ◌++◌, ◌==◌, ◌||◌, ap, Bool, List, ℕ}
use Rattle.entity_hierarchy.specs.schema.Views.{schema_view}
use Rattle.schema_decisions.specs.Lines.{verdict_line}
use Rattle.schema_decisions.specs.inner.Named.{outcome_of, set_apart}
use Rattle.schema_decisions.proofs.TellingLemmas.{report-step}
use Rattle.schema_decisions.proofs.checking.check_each.Goals as goal

pub loop-place-preserved : goal.loop-place-preserved
loop-place-preserved c =
    let outcome = outcome_of c.in_ok-verdict.verdict in
    let line = c.deref.ensures.value ∙ c.in_ok-line.ensures ∙ ap (λ (id : List ℕ). verdict_line id outcome) c.as_str.ensures.value in
    report-step (schema_view c.args.schema.now) c.args.policies.now c.loop-place.place c.index-policies-place.result c.loop-place.text.items c.add_line.new.text.items
    c.loop-place.some_refused c.either-some_refused.result outcome c.loop-place.invariant c.loop-place-test.true c.index-policies-place.is c.in_ok-verdict.ensures
    (c.in_ok-add_line.ensures ∙ ap (λ (l : List ℕ). c.loop-place.text.items ++ set_apart (c.loop-place.place == 0) l) line)
    (c.either-some_refused.ensures ∙ ap (λ (b : Bool). c.loop-place.some_refused || b) c.refuses.ensures)
