use Rattle.program_lines.proofs.app.pull_command.Goals as goal

pub returns : goal.returns
returns c = c.with_needed.ensures _ (c.with_needed-command.ensures _ (c.with_site-command.ensures _ (c.with_schema-command.ensures _ c.new_command-command.ensures)))
