use Rattle.std.proofs.Common.{◌≡◌, ℕ, List, Option, option_map, subst}
use Rattle.std.specs.Process.{exit_status}
use Rattle.explanations.specs.Files.{Files, files_of}
use Rattle.program_lines.specs.declared.line.ExplainOptions.{ExplainOptions}
use Rattle.program.specs.Events.{Runs}
use Rattle.program.specs.Courses.{Course, Reads, ReadsIfNamed}
use Rattle.program.specs.ExplainCommand.{files_named, AreTextsExplained}
use Rattle.program.proofs.EventLemmas.{reads_on, reads_none, named_on, named_none}
use Rattle.program.proofs.explaining.explain_files.Goals as goal

-- what is left to do once the request is read, the entities, the policies, or the schema
abbrev over_request : {L G N : Type 0} → ExplainOptions → Option (List ℕ) → List ℕ → Option (List ℕ) → Option (List ℕ) → Course L G N
over_request options schema policies entities request = AreTextsExplained (files_named options schema policies entities request)

abbrev over_entities : {L G N : Type 0} → ExplainOptions → Option (List ℕ) → List ℕ → Option (List ℕ) → Course L G N
over_entities options schema policies entities =
    ReadsIfNamed (option_map (λ s. s.now) options.request) (over_request options schema policies entities)

abbrev over_policies : {L G N : Type 0} → ExplainOptions → Option (List ℕ) → List ℕ → Course L G N
over_policies options schema policies = ReadsIfNamed (option_map (λ s. s.now) options.entities) (over_entities options schema policies)

abbrev over_schema : {L G N : Type 0} → ExplainOptions → Option (List ℕ) → Course L G N
over_schema options schema = Reads options.what.now (over_policies options schema)

pub returns-in-Err : goal.returns-in-Err
returns-in-Err g c =
    let options = c.args.options.now in
    named_none g.H.Host.does _ _ (option_map (λ s. s.now) options.schema) (over_schema options) _ c.in-Err.ensures

pub returns-in-Err-read_file : goal.returns-in-Err-read_file
returns-in-Err-read_file g c =
    let options = c.args.options.now in
    let schema = option_map (λ b. b.items) c.in-Ok.found in
    named_on g.H.Host.does _ _ _ (option_map (λ s. s.now) options.schema) schema (over_schema options) _ c.in-Ok.ensures (
    reads_none g.H.Host.does _ _ _ (over_policies options schema) _ c.in-Err-read_file.ensures)

pub returns-in-Err-read_if_named : goal.returns-in-Err-read_if_named
returns-in-Err-read_if_named g c =
    let options = c.args.options.now in
    let schema = option_map (λ b. b.items) c.in-Ok.found in
    let policies = c.in-Ok-read_file.bytes.items in
    named_on g.H.Host.does _ _ _ (option_map (λ s. s.now) options.schema) schema (over_schema options) _ c.in-Ok.ensures (
    reads_on g.H.Host.does _ _ _ _ _ (over_policies options schema) _ c.in-Ok-read_file.ensures (
    named_none g.H.Host.does _ _ (option_map (λ s. s.now) options.entities) (over_entities options schema policies) _
    c.in-Err-read_if_named.ensures))

pub returns-in-Err-read_if_named-2 : goal.returns-in-Err-read_if_named-2
returns-in-Err-read_if_named-2 g c =
    let options = c.args.options.now in
    let schema = option_map (λ b. b.items) c.in-Ok.found in
    let policies = c.in-Ok-read_file.bytes.items in
    let entities = option_map (λ b. b.items) c.in-Ok-read_if_named.found in
    named_on g.H.Host.does _ _ _ (option_map (λ s. s.now) options.schema) schema (over_schema options) _ c.in-Ok.ensures (
    reads_on g.H.Host.does _ _ _ _ _ (over_policies options schema) _ c.in-Ok-read_file.ensures (
    named_on g.H.Host.does _ _ _ (option_map (λ s. s.now) options.entities) entities (over_entities options schema policies) _
    c.in-Ok-read_if_named.ensures (
    named_none g.H.Host.does _ _ (option_map (λ s. s.now) options.request) (over_request options schema policies entities) _
    c.in-Err-read_if_named-2.ensures)))

pub returns : goal.returns
returns g c =
    let options = c.args.options.now in
    let schema = option_map (λ b. b.items) c.in-Ok.found in
    let policies = c.in-Ok-read_file.bytes.items in
    let entities = option_map (λ b. b.items) c.in-Ok-read_if_named.found in
    let request = option_map (λ b. b.items) c.in-Ok-read_if_named-2.found in
    let end = exit_status c.report_explanation.result in
    let files : files_of c.given_files.result ≡ files_named options schema policies entities request =
    rw (c.lent.ensures, c.deref.ensures.value, c.lent-2.ensures, c.lent-3.ensures) at c.given_files.ensures in
    let told = subst (λ (f : Files). Runs g.H.Host.does c.read_if_named-3.new.host c.report_explanation.new.host (λ events. AreTextsExplained f events end)) files
    c.report_explanation.ensures in
    named_on g.H.Host.does _ _ _ (option_map (λ s. s.now) options.schema) schema (over_schema options) end c.in-Ok.ensures (
    reads_on g.H.Host.does _ _ _ _ _ (over_policies options schema) end c.in-Ok-read_file.ensures (
    named_on g.H.Host.does _ _ _ (option_map (λ s. s.now) options.entities) entities (over_entities options schema policies) end
    c.in-Ok-read_if_named.ensures (
    named_on g.H.Host.does _ _ _ (option_map (λ s. s.now) options.request) request (over_request options schema policies entities) end
    c.in-Ok-read_if_named-2.ensures told)))
