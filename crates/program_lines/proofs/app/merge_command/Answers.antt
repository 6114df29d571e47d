use Rattle.program_lines.proofs.app.merge_command.Goals as goal

pub returns : goal.returns
returns c = c.with_explain.ensures _ (c.with_word-command-2.ensures _ (c.with_word-command.ensures _ (c.with_schema-command.ensures _ c.new_command-command.ensures)))
