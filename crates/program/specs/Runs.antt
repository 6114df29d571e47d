-- Defines a run: which files it reads in which order, what it writes to which stream, and its status. The lines that it
-- prints are defined with the checks, decisions, merges, drills and explanations.
-- Source: docs/operating.md.
use Rattle.std.specs.Prelude.{◌≡◌, ◌⊎◌, ◌&&◌, ℕ, Bool, List, [], Option, None, Some, option_map}
use Rattle.clap.specs.Words.{Text, fault_of}
use Rattle.connection_loop.specs.declared.sockets.Sockets.{Ghosts as Sockets}
use Rattle.program_drills.specs.answer_lines.declared.refusal.Refusal.{Refusal}
use Rattle.site_loading.specs.decision_texts.BareReading.{bare_reading}
use Rattle.site_loading.specs.decision_texts.Decisions as bare
use Rattle.program_drills.specs.schema_decisions.Decisions as typed
use Rattle.program_drills.specs.schema_decisions.Checks as checks
use Rattle.program_exchanges.specs.Merges as merges
use Rattle.program_drills.specs.Drills as drills
use Rattle.program_lines.specs.declared.line.CheckOptions.{CheckOptions}
use Rattle.program_lines.specs.declared.line.DecideOptions.{DecideOptions}
use Rattle.program_lines.specs.declared.line.DrillOptions.{DrillOptions}
use Rattle.program_lines.specs.declared.line.Line.{Line}
use Rattle.program_lines.specs.declared.line.Line.TheVariants.{Check, Decide, Load, Serve, Pull, Exchange, Merge}
use Rattle.program_lines.specs.declared.line.Line.TheVariants.{Drill, Explain}
use Rattle.program_lines.specs.declared.line.MergeOptions.{MergeOptions}
use Rattle.program_lines.specs.declared.fault.LineFault.{LineFault}
use Rattle.program_lines.specs.Apps.{site_app}
use Rattle.program_lines.specs.Faults.{IsFaultOf}
use Rattle.program_lines.specs.Lines.{IsCommandOf}
use Rattle.program_exchanges.specs.http_streams.declared.devices.Source.{Ghosts as Source}
use Rattle.program_exchanges.specs.http_streams.declared.devices.Sink.{Ghosts as Sink}
use Rattle.program.specs.declared.device.Link.{Link}
use Rattle.program.specs.Reports.{AreLinesReported, IsFaultReported}
use Rattle.program.specs.Courses.{Course, Reads, ReadsIfNamed, IsLineOrRefusal}
use Rattle.explanations.specs.Files.{Files}
use Rattle.explanations.specs.FileExplanations.{IsExplained}
use Rattle.program.specs.ExplainOption.{file_with_content, schema_files, Explains, IsErrorExplained}
use Rattle.program.specs.ExplainOption.{IsLineOrErrorThenText, IsLineOrErrorExplained}
use Rattle.program.specs.Exchanging.{IsExchangeRun}
use Rattle.program.specs.ExplainCommand.{file_named, IsExplainRun}
use Rattle.program.specs.Loading.{IsLoadRun}
use Rattle.program.specs.Merging.{IsMergeText}
use Rattle.program.specs.Pulling.{IsPullRun}
use Rattle.program.specs.Serving.{IsServeRun}

-- `IsDecided schema policies entities request line` holds if `line` is the answer line of the request `request` over
-- `policies` and `entities`, under the schema `schema` if it is present. All of these are texts.
abbrev pub IsDecided : Option (List ℕ) → List ℕ → List ℕ → List ℕ → List ℕ → Type 0
IsDecided None = bare.IsDecided bare_reading
IsDecided (Some schema) = typed.IsDecided schema

-- `IsNotDecided schema policies entities request refusal` holds if `refusal` is the error of deciding `request` over
-- `policies` and `entities`, under the schema `schema` if it is present.
abbrev pub IsNotDecided : Option (List ℕ) → List ℕ → List ℕ → List ℕ → Refusal → Type 0
IsNotDecided None = bare.IsDecisionRefused bare_reading
IsNotDecided (Some schema) = typed.IsSchemaDecisionRefused schema

-- `decide_files options schema policies entities request` are the files that a run of `decide` explains: those that
-- `options` name, with the contents `schema`, `policies`, `entities` and `request`.
abbrev pub decide_files : DecideOptions → Option (List ℕ) → List ℕ → List ℕ → List ℕ → Files
decide_files options schema policies entities request = record {
  schema = file_named (option_map (λ s. s.now) options.schema) schema;
  policies = file_with_content options.policies.now policies;
  entities = Some (file_with_content options.entities.now entities);
  request = Some (file_with_content options.request.now request);
}

-- `check_files options schema policies` are the files that a run of `check` explains: those that `options` name, with
-- the contents `schema` and `policies`.
abbrev pub check_files : CheckOptions → List ℕ → List ℕ → Files
check_files options schema policies = record {
  schema = Some (file_with_content options.schema.now schema);
  policies = file_with_content options.policies.now policies;
  entities = None;
  request = None;
}

-- Where a sentence of this module says that an error is reported, the error may be out of memory.
module _ {L G N : Type 0} where
  -- `IsDecidedOrRefused options schema policies entities request`: the answer line of the texts `schema`, `policies`,
  -- `entities` and `request` is printed, or their error is reported and, if `options` have `--explain`, explained.
  abbrev pub IsDecidedOrRefused : DecideOptions → Option (List ℕ) → List ℕ → List ℕ → List ℕ → Course L G N
  IsDecidedOrRefused options schema policies entities request =
      IsLineOrErrorExplained options.explain (decide_files options schema policies entities request)
      (IsDecided schema policies entities request) (IsNotDecided schema policies entities request)

  -- `AreChecked options schema policies`: the lines of `policies` under `schema` are printed, or the error is reported;
  -- if `options` have `--explain`, what is rejected is explained.
  abbrev pub AreChecked : CheckOptions → List ℕ → List ℕ → Course L G N
  AreChecked options schema policies events end =
      ((text : List ℕ) × (some_refused : Bool) × checks.IsChecked schema policies text some_refused
      × Explains (options.explain && some_refused) (IsExplained (check_files options schema policies))
      (AreLinesReported text some_refused) events end)
      ⊎ IsErrorExplained options.explain (check_files options schema policies) (checks.AreChecksRefused schema policies)
      events end

  -- `AreMerged options schema first second`: the state with the updates of `first` and `second`, two messages of
  -- `schema`, is printed, or the error is reported. If `options` have `--explain`, the error is then explained
  -- (`IsMergeText`).
  abbrev pub AreMerged : MergeOptions → List ℕ → List ℕ → List ℕ → Course L G N
  AreMerged options schema first second = IsLineOrErrorThenText options.explain
      (IsMergeText (schema_files options.schema.now schema) options schema first)
      (merges.IsMerged schema first second) (merges.AreRefused schema first second)

  -- `IsDrilledOrRefused sites schema script`: the lines of `script`, executed at `sites` sites of `schema`, are
  -- printed, or the error is reported.
  abbrev pub IsDrilledOrRefused : ℕ → List ℕ → List ℕ → Course L G N
  IsDrilledOrRefused sites schema script =
      IsLineOrRefusal (drills.IsDrilled sites schema script) (drills.IsDrillRefused sites schema script)

  -- `IsDecideRun options`: the files that `options` name are read, first the schema, if one is named, then policies,
  -- entities and request; then the request is decided.
  abbrev pub IsDecideRun : DecideOptions → Course L G N
  IsDecideRun options =
      ReadsIfNamed (option_map (λ s. s.now) options.schema) (λ schema.
      Reads options.policies.now (λ policies.
      Reads options.entities.now (λ entities.
      Reads options.request.now (λ request.
      IsDecidedOrRefused options schema policies entities request))))

  -- `IsCheckRun options`: of the files that `options` name, the schema is read, then the policies; then the policies
  -- are checked.
  abbrev pub IsCheckRun : CheckOptions → Course L G N
  IsCheckRun options =
      Reads options.schema.now (λ schema. Reads options.policies.now (λ policies. AreChecked options schema policies))

  -- `IsMergeRun options`: of the files that `options` name, the schema is read, then the two messages; then the
  -- messages are merged.
  abbrev pub IsMergeRun : MergeOptions → Course L G N
  IsMergeRun options =
      Reads options.schema.now (λ schema.
      Reads options.first.now (λ first.
      Reads options.second.now (λ second.
      AreMerged options schema first second)))

  -- `IsDrillRun options`: of the files that `options` name, the schema is read, then the script; then the script is
  -- executed.
  abbrev pub IsDrillRun : DrillOptions → Course L G N
  IsDrillRun options =
      Reads options.schema.now (λ schema.
      Reads options.script.now (λ script.
      IsDrilledOrRefused options.sites schema script))

module _ {R W G N : Type 0} (reader : Source R) (writer : Sink W) (log : Sink G) (sockets : Sockets N) where
  -- `IsLineRun line`: the command `line` is run.
  abbrev pub IsLineRun : Line → Course (Link R W) G N
  IsLineRun (Check options) = IsCheckRun options
  IsLineRun (Decide options) = IsDecideRun options
  IsLineRun (Load options) = IsLoadRun options
  IsLineRun (Serve options) = IsServeRun log sockets options
  IsLineRun (Pull options) = IsPullRun reader writer options
  IsLineRun (Exchange options) = IsExchangeRun reader writer options
  IsLineRun (Merge options) = IsMergeRun options
  IsLineRun (Drill options) = IsDrillRun options
  IsLineRun (Explain options) = IsExplainRun options

  -- `IsRun words`: the command of the arguments `words` is run, or their error, or out of memory, is reported.
  abbrev pub IsRun : List Text → Course (Link R W) G N
  IsRun words events end =
      ((line : Line) × IsCommandOf words line × (fault_of site_app words ≡ []) × IsLineRun line events end)
      ⊎ ((fault : LineFault) × IsFaultOf words fault × IsFaultReported fault events end)
