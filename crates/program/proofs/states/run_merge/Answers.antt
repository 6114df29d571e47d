use Rattle.std.proofs.Common.{ℕ, List}
use Rattle.program_lines.specs.declared.line.MergeOptions.{MergeOptions}
use Rattle.program.specs.Courses.{Course, Reads}
use Rattle.program.specs.Runs.{AreMerged}
use Rattle.program.proofs.EventLemmas.{reads_on, reads_none}
use Rattle.program.proofs.states.run_merge.Goals as goal

-- what is left to do once the first is read, and once the schema is
abbrev over_first : {L G N : Type 0} → MergeOptions → List ℕ → List ℕ → Course L G N
over_first options schema first = Reads options.second.now (AreMerged options schema first)

abbrev over_schema : {L G N : Type 0} → MergeOptions → List ℕ → Course L G N
over_schema options schema = Reads options.first.now (over_first options schema)

pub returns-in-Err : goal.returns-in-Err
returns-in-Err g c = reads_none g.H.Host.does _ _ _ (over_schema c.args.options.now) _ c.in-Err.ensures

pub returns-in-Err-read_file : goal.returns-in-Err-read_file
returns-in-Err-read_file g c =
    let options = c.args.options.now in
    reads_on g.H.Host.does _ _ _ _ _ (over_schema options) _ c.in-Ok.ensures (
    reads_none g.H.Host.does _ _ _ (over_first options c.in-Ok.bytes.items) _ c.in-Err-read_file.ensures)

pub returns-in-Err-read_file-2 : goal.returns-in-Err-read_file-2
returns-in-Err-read_file-2 g c =
    let options = c.args.options.now in
    reads_on g.H.Host.does _ _ _ _ _ (over_schema options) _ c.in-Ok.ensures (
    reads_on g.H.Host.does _ _ _ _ _ (over_first options c.in-Ok.bytes.items) _ c.in-Ok-read_file.ensures (
    reads_none g.H.Host.does _ _ _ (AreMerged options c.in-Ok.bytes.items c.in-Ok-read_file.bytes.items) _ c.in-Err-read_file-2.ensures))

pub returns : goal.returns
returns g c =
    let options = c.args.options.now in
    let schema = c.in-Ok.bytes.items in
    let first = c.in-Ok-read_file.bytes.items in
    reads_on g.H.Host.does _ _ _ _ _ (over_schema options) _ c.in-Ok.ensures (
    reads_on g.H.Host.does _ _ _ _ _ (over_first options schema) _ c.in-Ok-read_file.ensures (
    reads_on g.H.Host.does _ _ _ _ _ (AreMerged options schema first) _ c.in-Ok-read_file-2.ensures (
    rw (c.deref.ensures.value, c.deref-2.ensures.value, c.deref-3.ensures.value) at c.merge_contents.ensures)))
