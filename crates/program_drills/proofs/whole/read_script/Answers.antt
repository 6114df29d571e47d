use Rattle.std.proofs.Common.{◌∙◌, ℕ, Some, ap, sym, subst, rules}
use Rattle.schema_decisions.specs.answer_lines.Refusals.{bad_shape}
use Rattle.program_drills.specs.ScriptLines.{script_line_of}
use Rattle.program_drills.specs.inner.Reading.{IsLineRead, IsReadUpTo}
use Rattle.program_drills.proofs.ScriptSteps.{read_more, all_read, next_refused, is_unread}
use Rattle.program_drills.proofs.whole.read_script.Goals as goal

pub returns-in_default-clause-refused : goal.returns-in_default-clause-refused
returns-in_default-clause-refused c _ =
    next_refused c.args.count c.args.script.now c.loop-rest.made c.loop-rest.rest.now c.first_line.result.0.now
    c.first_line.result.1.now c.loop-rest.events.items c.unread_line.result c.loop-rest.invariant c.first_line.ensures.lines
    (is_unread (script_line_of c.args.count c.loop-rest.made c.first_line.result.0.now) c.in_ok-event.field-0 c.in_ok-event.ensures c.in_default.not-Some)
    (c.unread_line.ensures ∙ ap (λ (n : ℕ). bad_shape (Some n)) (search (rules, c.len.ensures)))

pub loop-rest-preserved : goal.loop-rest-preserved
loop-rest-preserved c =
    subst (IsReadUpTo c.args.count c.args.script.now c.after_operation-made.result c.first_line.result.1.now) (sym c.in_ok-push.ensures.items) (
    read_more c.args.count c.args.script.now c.loop-rest.made c.loop-rest.rest.now c.first_line.result.0.now c.first_line.result.1.now
    c.loop-rest.events.items c.in-Some.event c.after_operation-made.result c.loop-rest.invariant c.first_line.ensures.lines
    (subst (IsLineRead (script_line_of c.args.count c.loop-rest.made c.first_line.result.0.now)) c.in-Some.is c.in_ok-event.ensures)
    c.after_operation-made.ensures)

pub returns-clause-read : goal.returns-clause-read
returns-clause-read c =
    all_read c.args.count c.args.script.now c.loop-rest.made c.loop-rest.rest.now c.loop-rest.events.items c.loop-rest.invariant
    (search (rules, c.is_empty.ensures, c.loop-rest-test.false))
