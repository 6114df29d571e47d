use Rattle.std.proofs.Common.{◌∙◌, is_ok, sym}
use Rattle.program.proofs.ExplainedLemmas.{lines_told}
use Rattle.program.proofs.rejecting.write_text_lines.Goals as goal

pub returns : goal.returns
returns g c =
    lines_told g.H.Host.does _ _ c.args.text.now c.without_end-lines.result.now (is_ok c.write_line.result) (sym c.is_empty.ensures ∙ c.if-is_empty.false) c.without_end-lines.ensures
    (rw (c.as_bytes.ensures.value) at c.write_line.ensures)
