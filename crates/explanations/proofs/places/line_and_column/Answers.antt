use Rattle.std.proofs.Common.{arith, refl, sym, ap, ◌∙◌, ◌+◌}
use Rattle.std.proofs.lemmas.List.{map-id}
use Rattle.std.proofs.lemmas.Iterator.{YieldsList-from_chars}
use Rattle.std.proofs.lemmas.Iterator.Consumers.{YieldsList-turn, YieldsList-end}
use Rattle.explanations.specs.LineAndColumn.{line_after, column_after}
use Rattle.explanations.proofs.Columns.{line-line_feed, line-character, line_le, column-line_feed, column-character, column_le, characters_le_bytes}
use Rattle.explanations.proofs.places.line_and_column.Goals as goal

pub loop-c-init : goal.loop-c-init
loop-c-init c = record { line = refl; column = refl }

pub overflow_add-line : goal.overflow_add-line
overflow_add-line c =
    let road = YieldsList-from_chars {s = c.into_iter-c-iterator.result} c.args.before.now c.utf8.before cc in
    let turn = YieldsList-turn road c.loop-c.yielded c.loop-c.c-iterator c.loop-c.yielded_by c.next.result c.next.new.self c.in-Some.c c.in-Some.is c.next.ensures.steps in
    let few = characters_le_bytes c.args.before.now c.utf8.before in
    omega (arith, turn.0, few, line_le c.loop-c.yielded, c.loop-c.invariant.line)

pub loop-c-preserved-then-c-eq10 : goal.loop-c-preserved-then-c-eq10
loop-c-preserved-then-c-eq10 c = record {
  line = ap (λ n. n + 1) c.loop-c.invariant.line ∙ sym (line-line_feed c.loop-c.yielded c.in-Some.c c.if-c-eq10.true);
  column = sym (column-line_feed c.loop-c.yielded c.in-Some.c c.if-c-eq10.true);
}

pub overflow_add-column : goal.overflow_add-column
overflow_add-column c =
    let road = YieldsList-from_chars {s = c.into_iter-c-iterator.result} c.args.before.now c.utf8.before cc in
    let turn = YieldsList-turn road c.loop-c.yielded c.loop-c.c-iterator c.loop-c.yielded_by c.next.result c.next.new.self c.in-Some.c c.in-Some.is c.next.ensures.steps in
    let few = characters_le_bytes c.args.before.now c.utf8.before in
    omega (arith, turn.0, few, column_le c.loop-c.yielded, c.loop-c.invariant.column)

pub loop-c-preserved : goal.loop-c-preserved
loop-c-preserved c = record {
  line = c.loop-c.invariant.line ∙ sym (line-character c.loop-c.yielded c.in-Some.c c.if-c-eq10.false);
  column = ap (λ n. n + 1) c.loop-c.invariant.column ∙ sym (column-character c.loop-c.yielded c.in-Some.c c.if-c-eq10.false);
}

pub returns-clause-line : goal.returns-clause-line
returns-clause-line c =
    let road = YieldsList-from_chars {s = c.into_iter-c-iterator.result} c.args.before.now c.utf8.before cc in
    let end = YieldsList-end road c.loop-c.yielded c.loop-c.c-iterator c.loop-c.yielded_by c.next.result c.next.new.self c.in-None.is c.next.ensures.steps in
    c.loop-c.invariant.line ∙ ap line_after (sym (map-id c.loop-c.yielded) ∙ end.0)

pub returns-clause-column : goal.returns-clause-column
returns-clause-column c =
    let road = YieldsList-from_chars {s = c.into_iter-c-iterator.result} c.args.before.now c.utf8.before cc in
    let end = YieldsList-end road c.loop-c.yielded c.loop-c.c-iterator c.loop-c.yielded_by c.next.result c.next.new.self c.in-None.is c.next.ensures.steps in
    c.loop-c.invariant.column ∙ ap column_after (sym (map-id c.loop-c.yielded) ∙ end.0)
