use Rattle.program_lines.proofs.app.explain_command.Goals as goal

pub returns : goal.returns
returns c = c.with_word.ensures _ (c.with-command-3.ensures _ _ c.value_option-request.ensures.rule (c.with-command-2.ensures _ _ c.value_option-entities.ensures.rule (c.with-command.ensures _ _ c.value_option-schema.ensures.rule c.new_command-command.ensures)))
