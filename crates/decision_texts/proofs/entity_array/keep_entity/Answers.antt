use Rattle.std.proofs.Common.{◌≡◌, ◌∙◌, sym, ap, true, false, not, Err}
use Rattle.std.proofs.lemmas.Result.{err_from_is_err_and}
use Rattle.std.specs.Prelude.{is_some}
use Rattle.serde_json.specs.View.{view}
use Rattle.entity_data.specs.EntityStores.{kept_in}
use Rattle.answer_lines.specs.Refusals.{no_memory}
use Rattle.decision_texts.specs.inner.Stores.{is_among}
use Rattle.decision_texts.proofs.ArrayLemmas.{after_new, after_again, after_fault, had}
use Rattle.decision_texts.proofs.StoreLemmas.{holds_more, has_stated}
use Rattle.decision_texts.proofs.entity_array.keep_entity.Goals as goal

pub returns-in_err-entity : goal.returns-in_err-entity
returns-in_err-entity g c es held =
    let p = err_from_is_err_and c.from_residual.result c.from_residual.ensures.1 in
    rw (p.1, p.2) (after_fault (g.S.Setting.reading c.args.setting.now) es c.args.place (view c.args.value) no_memory c.in_err-entity.field-0.0 c.in_err-entity.ensures)

pub returns-then-not-branch : goal.returns-then-not-branch
returns-then-not-branch g c es held told =
    let store = c.args.store.now in
    let e = c.in_ok-entity.entity in
    let has : is_some (kept_in store e.uid) ≡ not c.in_ok-put.field-0 =
    c.in_ok-put.ensures.first in
    let again : is_among e.uid es ≡ true =
    had e.uid es (is_some (kept_in store e.uid)) c.in_ok-put.field-0 has (has_stated store es held e.uid) ∙ ap not c.if-not-branch.true in
    after_again (g.S.Setting.reading c.args.setting.now) es c.args.place (view c.args.value) e c.in_ok-entity.ensures again ∙ ap Err (sym c.bad_shape.ensures)

pub returns : goal.returns
returns g c es held =
    let store = c.args.store.now in
    let e = c.in_ok-entity.entity in
    let absent : is_some (kept_in store e.uid) ≡ false =
    c.in_ok-put.ensures.first ∙ ap not c.if-not-branch.false in
    let new : is_among e.uid es ≡ false = sym (has_stated store es held e.uid) ∙ absent in (
      e,
      after_new (g.S.Setting.reading c.args.setting.now) es c.args.place (view c.args.value) e c.in_ok-entity.ensures new,
      holds_more store c.put.new.self es e (c.in_ok-put.ensures.puts c.if-not-branch.false) absent held,
    )
