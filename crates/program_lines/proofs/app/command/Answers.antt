use Rattle.program_lines.proofs.app.command.Goals as goal

pub returns : goal.returns
returns c = c.with_command.ensures _ _ (c.with_command-command-8.ensures _ _ (c.with_command-command-7.ensures _ _ (c.with_command-command-6.ensures _ _ (c.with_command-command-5.ensures _ _ (c.with_command-command-4.ensures _ _ (c.with_command-command-3.ensures _ _ (c.with_command-command-2.ensures _ _ (c.with_command-command.ensures _ _ c.top_command-command.ensures c.check_command.ensures) c.decide_command.ensures) c.load_command.ensures) c.serve_command.ensures) c.pull_command.ensures) c.exchange_command.ensures) c.merge_command.ensures) c.drill_command.ensures) c.explain_command.ensures
