use Rattle.std.proofs.Common.{◌∙◌, None, Err, sym, ap, subst}
use Rattle.json_words.specs.Arrays.{each_of}
use Rattle.json_words.proofs.Readings.{array_begun, none_begun}
use Rattle.answer_lines.specs.Refusals.{bad_shape}
use Rattle.decision_texts.specs.EntityArrays.{entity_at}
use Rattle.decision_texts.specs.inner.Stores.{ReadsStore}
use Rattle.decision_texts.proofs.ArrayLemmas.{array_read}
use Rattle.decision_texts.proofs.entity_array.read_entities.Goals as goal

pub returns-in-Some : goal.returns-in-Some
returns-in-Some g c =
    let r = g.S.Setting.reading c.args.setting.now in
    let text = c.args.text.now in
    let begun = array_begun text _ c.in-Some.members c.in-Some.is c.in_ok-members.ensures.begun in
    subst (λ read. ReadsStore c.read_array.result read) (ap (each_of (bad_shape None) (entity_at r)) (sym begun) ∙ sym (array_read r text)) c.read_array.ensures

pub returns : goal.returns
returns g c other =
    let r = g.S.Setting.reading c.args.setting.now in
    let text = c.args.text.now in
    let none = none_begun text _ c.in-None.is c.in_ok-members.ensures.begun in
    array_read r text ∙ ap (each_of (bad_shape None) (entity_at r)) none ∙ ap Err (sym c.bad_shape.ensures)
