use Rattle.std.proofs.Common.{inl, inr}
use Rattle.explanations.specs.CodeText.{texts_of}
use Rattle.program.proofs.EventLemmas.{runs_as}
use Rattle.program.proofs.explaining.explain_code.Goals as goal

pub returns-in-Ok : goal.returns-in-Ok
returns-in-Ok g c =
    runs_as g.H.Host.does _ _ _ _ (λ events told. inl (texts_of c.in-Some.words.now, c.in-Some.ensures, told))
    (rw (c.as_bytes.ensures.value, c.as_str.ensures.value, c.in-Ok.ensures) at c.report_answer.ensures)

pub returns-in-Err : goal.returns-in-Err
returns-in-Err g c = runs_as g.H.Host.does _ _ _ _ (λ events told. inr (inr told)) c.report_memory.ensures

pub returns-in-None : goal.returns-in-None
returns-in-None g c =
    runs_as g.H.Host.does _ _ _ _ (λ events told. inr (inl (c.in-None.ensures, told))) c.report_no_code.ensures
