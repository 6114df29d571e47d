use Rattle.program_lines.proofs.app.with_site.Goals as goal

pub returns : goal.returns
returns c = c.with_needed.ensures
