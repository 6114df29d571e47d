use Rattle.std.proofs.Common.{◌∙◌, ◌++◌, ◌∷◌, [], None, refl, sym, ap, Ok, Err, arith}
use Rattle.serde_json.specs.View.{view}
use Rattle.json_words.specs.Arrays.{unread_members}
use Rattle.json_words.proofs.Readings.{value_told, fewer_left, end_told, not_json_told, begins}
use Rattle.json_words.proofs.Readings.{goes_on, ends, fails, refused}
use Rattle.answer_lines.specs.Refusals.{no_memory, bad_shape}
use Rattle.decision_texts.specs.EntityArrays.{entity_at}
use Rattle.decision_texts.proofs.ArrayLemmas.{at_next}
use Rattle.decision_texts.proofs.entity_array.read_array.Goals as goal

pub members-init : goal.members-init
members-init g c = ([], (λ q. rw c.new-store.ensures refl), begins (entity_at (g.S.Setting.reading c.args.setting.now)) (unread_members c.args.members.now), omega arith)

pub returns-in-Err : goal.returns-in-Err
returns-in-Err g c other =
    let r = g.S.Setting.reading c.args.setting.now in
    let l = c.members in
    let es = l.invariant.0 in
    let v = c.in-Value.value in
    let next = value_told _ v (unread_members l.members) (unread_members c.next.new.self) c.in-Value.is c.in_ok-value.ensures.told in
    refused (bad_shape None) no_memory c.in-Err.refusal c.if_json.result (entity_at r) (unread_members c.args.members.now) (unread_members l.members) (unread_members c.next.new.self) l.place es (view v) l.invariant.2 next
    (λ rest known. at_next r (unread_members c.args.members.now) (unread_members l.members) l.place es l.invariant.2 (view v) rest (Err c.in-Err.refusal) (c.in-Err.ensures es l.invariant.1 known))
    (c.if_json.ensures other) other

pub members-preserved : goal.members-preserved
members-preserved g c =
    let r = g.S.Setting.reading c.args.setting.now in
    let l = c.members in
    let es = l.invariant.0 in
    let v = c.in-Value.value in
    let next = value_told _ v (unread_members l.members) (unread_members c.next.new.self) c.in-Value.is c.in_ok-value.ensures.told in
    let less = fewer_left _ v _ _ c.in-Value.is c.in_ok-value.ensures.fewer in
    let kept = c.in_default.ensures es l.invariant.1 in (
      es ++ kept.0 ∷ [],
      kept.2,
      goes_on (entity_at r) (unread_members c.args.members.now) (unread_members l.members) (unread_members c.next.new.self) l.place es (view v) kept.0 l.invariant.2 next
          (λ rest. at_next r (unread_members c.args.members.now) (unread_members l.members) l.place es l.invariant.2 (view v) rest (Ok kept.0) kept.1),
      omega (arith, less, l.invariant.3),
    )

pub members-smaller : goal.members-smaller
members-smaller g c = fewer_left _ c.in-Value.value _ _ c.in-Value.is c.in_ok-value.ensures.fewer

pub overflow_add-place : goal.overflow_add-place
overflow_add-place g c = omega (arith, c.members.invariant.3, c.requires, fewer_left _ c.in-Value.value _ _ c.in-Value.is c.in_ok-value.ensures.fewer)

pub returns-in-End : goal.returns-in-End
returns-in-End g c =
    let r = g.S.Setting.reading c.args.setting.now in
    let l = c.members in
    record {
      entities = l.invariant.0;
      are = ends (bad_shape None) (entity_at r) (unread_members c.args.members.now) (unread_members l.members) l.place l.invariant.0 l.invariant.2 (end_told _ _ (unread_members c.next.new.self) c.in-End.is c.in_ok-value.ensures.told);
      held = l.invariant.1;
    }

pub returns-in-NotJson : goal.returns-in-NotJson
returns-in-NotJson g c other =
    let r = g.S.Setting.reading c.args.setting.now in
    let l = c.members in
    fails (bad_shape None) (entity_at r) (unread_members c.args.members.now) (unread_members l.members) l.place l.invariant.0 l.invariant.2 (not_json_told _ _ (unread_members c.next.new.self) c.in-NotJson.is c.in_ok-value.ensures.told)
    ∙ ap Err (sym c.bad_shape.ensures)
