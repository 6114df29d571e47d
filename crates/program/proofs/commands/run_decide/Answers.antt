use Rattle.std.proofs.Common.{ℕ, List, Option, option_map}
use Rattle.program_lines.specs.declared.line.DecideOptions.{DecideOptions}
use Rattle.program.specs.Courses.{Course, Reads}
use Rattle.program.specs.Runs.{IsDecidedOrRefused}
use Rattle.program.proofs.EventLemmas.{named_on, named_none, reads_on, reads_none}
use Rattle.program.proofs.commands.run_decide.Goals as goal

-- what is left to do once the entities are read, once the policies are, and once the schema is
abbrev over_entities : {L G N : Type 0} → DecideOptions → Option (List ℕ) → List ℕ → List ℕ → Course L G N
over_entities options schema policies entities = Reads options.request.now (IsDecidedOrRefused options schema policies entities)

abbrev over_policies : {L G N : Type 0} → DecideOptions → Option (List ℕ) → List ℕ → Course L G N
over_policies options schema policies = Reads options.entities.now (over_entities options schema policies)

abbrev over_schema : {L G N : Type 0} → DecideOptions → Option (List ℕ) → Course L G N
over_schema options schema = Reads options.policies.now (over_policies options schema)

pub returns-in-Err : goal.returns-in-Err
returns-in-Err g c =
    let options = c.args.options.now in
    named_none g.H.Host.does _ _ (option_map (λ s. s.now) options.schema) (over_schema options) _ c.in-Err.ensures

pub returns-in-Err-read_file : goal.returns-in-Err-read_file
returns-in-Err-read_file g c =
    let options = c.args.options.now in
    let schema = option_map (λ b. b.items) c.in-Ok.found in
    named_on g.H.Host.does _ _ _ (option_map (λ s. s.now) options.schema) schema (over_schema options) _ c.in-Ok.ensures (
    reads_none g.H.Host.does _ _ _ (over_policies options schema) _ c.in-Err-read_file.ensures)

pub returns-in-Err-read_file-2 : goal.returns-in-Err-read_file-2
returns-in-Err-read_file-2 g c =
    let options = c.args.options.now in
    let schema = option_map (λ b. b.items) c.in-Ok.found in
    named_on g.H.Host.does _ _ _ (option_map (λ s. s.now) options.schema) schema (over_schema options) _ c.in-Ok.ensures (
    reads_on g.H.Host.does _ _ _ _ _ (over_policies options schema) _ c.in-Ok-read_file.ensures (
    reads_none g.H.Host.does _ _ _ (over_entities options schema c.in-Ok-read_file.bytes.items) _ c.in-Err-read_file-2.ensures))

pub returns-in-Err-read_file-3 : goal.returns-in-Err-read_file-3
returns-in-Err-read_file-3 g c =
    let options = c.args.options.now in
    let schema = option_map (λ b. b.items) c.in-Ok.found in
    let policies = c.in-Ok-read_file.bytes.items in
    named_on g.H.Host.does _ _ _ (option_map (λ s. s.now) options.schema) schema (over_schema options) _ c.in-Ok.ensures (
    reads_on g.H.Host.does _ _ _ _ _ (over_policies options schema) _ c.in-Ok-read_file.ensures (
    reads_on g.H.Host.does _ _ _ _ _ (over_entities options schema policies) _ c.in-Ok-read_file-2.ensures (
    reads_none g.H.Host.does _ _ _ (IsDecidedOrRefused options schema policies c.in-Ok-read_file-2.bytes.items) _ c.in-Err-read_file-3.ensures)))

pub returns : goal.returns
returns g c =
    let options = c.args.options.now in
    let schema = option_map (λ b. b.items) c.in-Ok.found in
    let policies = c.in-Ok-read_file.bytes.items in
    let entities = c.in-Ok-read_file-2.bytes.items in
    named_on g.H.Host.does _ _ _ (option_map (λ s. s.now) options.schema) schema (over_schema options) _ c.in-Ok.ensures (
    reads_on g.H.Host.does _ _ _ _ _ (over_policies options schema) _ c.in-Ok-read_file.ensures (
    reads_on g.H.Host.does _ _ _ _ _ (over_entities options schema policies) _ c.in-Ok-read_file-2.ensures (
    reads_on g.H.Host.does _ _ _ _ _ (IsDecidedOrRefused options schema policies entities) _ c.in-Ok-read_file-3.ensures (
    rw (c.lent.ensures, c.deref.ensures.value, c.deref-2.ensures.value, c.deref-3.ensures.value) at c.decide_contents.ensures))))
