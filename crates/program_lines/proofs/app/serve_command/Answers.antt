use Rattle.program_lines.proofs.app.serve_command.Goals as goal

pub returns : goal.returns
returns c = c.with_explain.ensures _ (c.with-command-5.ensures _ _ c.value_option-log.ensures.rule (c.with-command-4.ensures _ _ c.number_option-idle.ensures.rule (c.with-command-3.ensures _ _ c.number_option-clients.ensures.rule (c.with-command-2.ensures _ _ c.number_option-connections.ensures.rule (c.with-command.ensures _ _ c.value_option.ensures.rule (c.with_needed-command.ensures _ (c.with_site-command.ensures _ (c.with_schema-command.ensures _ c.new_command-command.ensures))))))))
