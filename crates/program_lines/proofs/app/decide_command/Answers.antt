use Rattle.program_lines.proofs.app.decide_command.Goals as goal

pub returns : goal.returns
returns c = c.with_explain.ensures _ (c.with_needed-command-3.ensures _ (c.with_needed-command-2.ensures _ (c.with_needed-command.ensures _ (c.with-command.ensures _ _ c.value_option-schema.ensures.rule c.new_command-command.ensures))))
