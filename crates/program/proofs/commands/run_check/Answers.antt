use Rattle.std.proofs.Common.{ℕ, List}
use Rattle.program_lines.specs.declared.line.CheckOptions.{CheckOptions}
use Rattle.program.specs.Courses.{Course, Reads}
use Rattle.program.specs.Runs.{AreChecked}
use Rattle.program.proofs.EventLemmas.{reads_on, reads_none}
use Rattle.program.proofs.commands.run_check.Goals as goal

-- what is left to do once the schema is read
abbrev over_schema : {L G N : Type 0} → CheckOptions → List ℕ → Course L G N
over_schema options schema = Reads options.policies.now (AreChecked options schema)

pub returns-in-Err : goal.returns-in-Err
returns-in-Err g c = reads_none g.H.Host.does _ _ _ (over_schema c.args.options.now) _ c.in-Err.ensures

pub returns-in-Err-read_file : goal.returns-in-Err-read_file
returns-in-Err-read_file g c =
    reads_on g.H.Host.does _ _ _ _ _ (over_schema c.args.options.now) _ c.in-Ok.ensures (
    reads_none g.H.Host.does _ _ _ (AreChecked c.args.options.now c.in-Ok.bytes.items) _ c.in-Err-read_file.ensures)

pub returns : goal.returns
returns g c =
    reads_on g.H.Host.does _ _ _ _ _ (over_schema c.args.options.now) _ c.in-Ok.ensures (
    reads_on g.H.Host.does _ _ _ _ _ (AreChecked c.args.options.now c.in-Ok.bytes.items) _ c.in-Ok-read_file.ensures (
    rw (c.deref.ensures.value, c.deref-2.ensures.value) at c.check_contents.ensures))
