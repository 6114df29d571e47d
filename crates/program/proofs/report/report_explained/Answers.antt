use Rattle.program.proofs.EventLemmas.{runs_as}
use Rattle.program.proofs.report.report_explained.Goals as goal

pub returns : goal.returns
returns g c =
    runs_as g.H.Host.does _ _ _ _ (λ events told. (c.without_end-line.result.now, c.without_end-line.ensures, told))
    (rw (c.as_bytes.ensures.value, c.is_some_text.ensures) at c.report_lines.ensures)
