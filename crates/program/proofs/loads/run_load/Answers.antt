use Rattle.std.proofs.Common.{ℕ, List, Option, option_map}
use Rattle.program_lines.specs.declared.line.LoadOptions.{LoadOptions}
use Rattle.program.specs.Courses.{Course, ReadsIfNamed}
use Rattle.program.specs.Loading.{IsLoadedOrRefused}
use Rattle.program.proofs.EventLemmas.{reads_on, reads_none, named_on, named_none}
use Rattle.program.proofs.loads.run_load.Goals as goal

-- what is left to do once the entities are read, the policies, the state, or the schema
abbrev over_entities : {L G N : Type 0} → LoadOptions → List ℕ → Option (List ℕ) → Option (List ℕ) → Option (List ℕ) → Course L G N
over_entities options schema state policies entities = IsLoadedOrRefused options schema state policies entities

abbrev over_policies : {L G N : Type 0} → LoadOptions → List ℕ → Option (List ℕ) → Option (List ℕ) → Course L G N
over_policies options schema state policies =
    ReadsIfNamed (option_map (λ e. e.now) options.entities) (over_entities options schema state policies)

abbrev over_state : {L G N : Type 0} → LoadOptions → List ℕ → Option (List ℕ) → Course L G N
over_state options schema state = ReadsIfNamed (option_map (λ p. p.now) options.policies) (over_policies options schema state)

abbrev over_schema : {L G N : Type 0} → LoadOptions → List ℕ → Course L G N
over_schema options schema = ReadsIfNamed (option_map (λ s. s.now) options.state) (over_state options schema)

pub returns-in-Err : goal.returns-in-Err
returns-in-Err g c = reads_none g.H.Host.does _ _ _ (over_schema c.args.options.now) _ c.in-Err.ensures

pub returns-in-Err-read_if_named : goal.returns-in-Err-read_if_named
returns-in-Err-read_if_named g c =
    let options = c.args.options.now in
    let schema = c.in-Ok.bytes.items in
    reads_on g.H.Host.does _ _ _ _ _ (over_schema options) _ c.in-Ok.ensures (
    named_none g.H.Host.does _ _ (option_map (λ s. s.now) options.state) (over_state options schema) _ c.in-Err-read_if_named.ensures)

pub returns-in-Err-read_if_named-2 : goal.returns-in-Err-read_if_named-2
returns-in-Err-read_if_named-2 g c =
    let options = c.args.options.now in
    let schema = c.in-Ok.bytes.items in
    let state = option_map (λ b. b.items) c.in-Ok-read_if_named.found in
    reads_on g.H.Host.does _ _ _ _ _ (over_schema options) _ c.in-Ok.ensures (
    named_on g.H.Host.does _ _ _ (option_map (λ s. s.now) options.state) state (over_state options schema) _ c.in-Ok-read_if_named.ensures (
    named_none g.H.Host.does _ _ (option_map (λ p. p.now) options.policies) (over_policies options schema state) _
    c.in-Err-read_if_named-2.ensures))

pub returns-in-Err-read_if_named-3 : goal.returns-in-Err-read_if_named-3
returns-in-Err-read_if_named-3 g c =
    let options = c.args.options.now in
    let schema = c.in-Ok.bytes.items in
    let state = option_map (λ b. b.items) c.in-Ok-read_if_named.found in
    let policies = option_map (λ b. b.items) c.in-Ok-read_if_named-2.found in
    reads_on g.H.Host.does _ _ _ _ _ (over_schema options) _ c.in-Ok.ensures (
    named_on g.H.Host.does _ _ _ (option_map (λ s. s.now) options.state) state (over_state options schema) _ c.in-Ok-read_if_named.ensures (
    named_on g.H.Host.does _ _ _ (option_map (λ p. p.now) options.policies) policies (over_policies options schema state) _
    c.in-Ok-read_if_named-2.ensures (
    named_none g.H.Host.does _ _ (option_map (λ e. e.now) options.entities) (over_entities options schema state policies) _
    c.in-Err-read_if_named-3.ensures)))

pub returns : goal.returns
returns g c =
    let options = c.args.options.now in
    let schema = c.in-Ok.bytes.items in
    let state = option_map (λ b. b.items) c.in-Ok-read_if_named.found in
    let policies = option_map (λ b. b.items) c.in-Ok-read_if_named-2.found in
    let entities = option_map (λ b. b.items) c.in-Ok-read_if_named-3.found in
    reads_on g.H.Host.does _ _ _ _ _ (over_schema options) _ c.in-Ok.ensures (
    named_on g.H.Host.does _ _ _ (option_map (λ s. s.now) options.state) state (over_state options schema) _ c.in-Ok-read_if_named.ensures (
    named_on g.H.Host.does _ _ _ (option_map (λ p. p.now) options.policies) policies (over_policies options schema state) _
    c.in-Ok-read_if_named-2.ensures (
    named_on g.H.Host.does _ _ _ (option_map (λ e. e.now) options.entities) entities (over_entities options schema state policies) _
    c.in-Ok-read_if_named-3.ensures (
    rw (c.deref.ensures.value, c.lent.ensures, c.lent-2.ensures, c.lent-3.ensures) at c.load_contents.ensures))))
