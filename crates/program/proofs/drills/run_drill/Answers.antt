use Rattle.std.proofs.Common.{ℕ, List, inl}
use Rattle.std.specs.Process.{exit_status}
use Rattle.program_lines.specs.declared.line.DrillOptions.{DrillOptions}
use Rattle.program_drills.specs.Drills.{IsDrilled, IsDrillRefused}
use Rattle.program.specs.Courses.{Course, Reads}
use Rattle.program.specs.Runs.{IsDrilledOrRefused}
use Rattle.program.proofs.EventLemmas.{reads_on, reads_none, runs_as}
use Rattle.program.proofs.RefusalLemmas.{line_refused}
use Rattle.program.proofs.drills.run_drill.Goals as goal

-- what is left to do once the schema is read
abbrev over_schema : {L G N : Type 0} → DrillOptions → List ℕ → Course L G N
over_schema options schema = Reads options.script.now (IsDrilledOrRefused options.sites schema)

pub returns-in-Err : goal.returns-in-Err
returns-in-Err g c = reads_none g.H.Host.does _ _ _ (over_schema c.args.options.now) _ c.in-Err.ensures

pub returns-in-Err-read_file : goal.returns-in-Err-read_file
returns-in-Err-read_file g c =
    let options = c.args.options.now in
    reads_on g.H.Host.does _ _ _ _ _ (over_schema options) _ c.in-Ok.ensures (
    reads_none g.H.Host.does _ _ _ (IsDrilledOrRefused options.sites c.in-Ok.bytes.items) _ c.in-Err-read_file.ensures)

pub returns-in-Ok-drill_text : goal.returns-in-Ok-drill_text
returns-in-Ok-drill_text g c =
    let options = c.args.options.now in
    reads_on g.H.Host.does _ _ _ _ _ (over_schema options) _ c.in-Ok.ensures (
    reads_on g.H.Host.does _ _ _ _ _ (IsDrilledOrRefused options.sites c.in-Ok.bytes.items) _ c.in-Ok-read_file.ensures (
    runs_as g.H.Host.does _ _ _ _ (λ events told. inl (
      c.in-Ok-drill_text.lines.items,
      rw (c.deref.ensures.value, c.deref-2.ensures.value) at c.in-Ok-drill_text.ensures.drilled,
      told,
    ))
    (rw (c.deref-in-Ok-drill_text.ensures.value) at c.report_answer.ensures)))

pub returns : goal.returns
returns g c =
    let options = c.args.options.now in
    let schema = c.in-Ok.bytes.items in
    let script = c.in-Ok-read_file.bytes.items in
    reads_on g.H.Host.does _ _ _ _ _ (over_schema options) _ c.in-Ok.ensures (
    reads_on g.H.Host.does _ _ _ _ _ (IsDrilledOrRefused options.sites schema) _ c.in-Ok-read_file.ensures (
    runs_as g.H.Host.does _ _ _ _ (
    line_refused (IsDrillRefused options.sites schema script) (IsDrilled options.sites schema script) c.in-Err-drill_text.refusal
    (exit_status c.report_refusal.result)
    (rw (c.deref.ensures.value, c.deref-2.ensures.value) at c.in-Err-drill_text.ensures.refused))
    c.report_refusal.ensures))
