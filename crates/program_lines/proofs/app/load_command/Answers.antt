use Rattle.program_lines.proofs.app.load_command.Goals as goal

pub returns : goal.returns
returns c = c.with_explain.ensures _ (c.with-command-3.ensures _ _ c.value_option-state.ensures.rule (c.with-command-2.ensures _ _ c.value_option-entities.ensures.rule (c.with-command.ensures _ _ c.value_option-policies.ensures.rule (c.with_site-command.ensures _ (c.with_schema-command.ensures _ c.new_command-command.ensures)))))
