use Rattle.std.proofs.Common.{is_ok}
use Rattle.program.proofs.ExplainedLemmas.{no_text_told}
use Rattle.program.proofs.rejecting.write_explanation.Goals as goal

pub returns-in-Err : goal.returns-in-Err
returns-in-Err g c =
    no_text_told g.H.Host.does _ _ c.args.made c.in-Err.field-0 (is_ok c.write_line.result) c.in-Err.is (rw (c.as_bytes.ensures.value) at c.write_line.ensures)
