use Rattle.std.proofs.Common.{◌∙◌}
use Rattle.entity_uids.proofs.Adding.{text_is}
use Rattle.answer_lines.specs.Lines.{answer_json, answer_line}
use Rattle.answer_lines.proofs.lines.answer_line.Goals as goal

pub returns : goal.returns
unfolding answer_line
returns c = text_is (answer_json c.args.answer.now) c.into_inner.result.items
    (c.new-out.ensures.before ∙ c.in_ok-line.ensures.items) c.new-out.ensures.tokens c.in_ok-write_answer.ensures c.into_inner.ensures.items
