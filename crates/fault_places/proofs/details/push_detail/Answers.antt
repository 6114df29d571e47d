use Rattle.std.proofs.Common.{string_bytes, map, ◌∙◌, ◌++◌, ap}
use Rattle.std.proofs.lemmas.Result.{IfOk-weaker}
use Rattle.type_checker.specs.schema.Views.{schema_view, environment_view}
use Rattle.type_checker.specs.FromSchemas.{typing_environment_of}
use Rattle.type_checker.specs.Views.{static_view}
use Rattle.fault_places.specs.Words.{declared_words, types_words}
use Rattle.fault_places.proofs.Listing.{listed_types}
use Rattle.fault_places.proofs.Reading.{environment_there, environment_past, detail_missing, detail_other, detail_past}
use Rattle.fault_places.proofs.details.push_detail.Goals as goal

pub returns-in-AttributeMayBeMissing : goal.returns-in-AttributeMayBeMissing
returns-in-AttributeMayBeMissing c =
    let s = schema_view c.args.schema.now in
    let b = c.args.blame.now in
    let e = environment_view c.in-Some.environment.now in
    let mid = string_bytes c.push_environment.new.out in
    let name = c.typing_cause-name.result.now in
    let found = c.in-Some.ensures.lookup in
    let there = environment_there s c.environments.result.now b.environment c.environments.ensures c.in-Some.environment.now found.3.0 found.1 in
    IfOk-weaker c.push_declared.result _ _
    (λ _ h. detail_missing s b (string_bytes c.args.out.now) e mid (string_bytes c.push_declared.new.out) name there
    c.in_ok-push_environment-in-Some.ensures c.in-AttributeMayBeMissing.is c.typing_cause-name.ensures
    (h ∙ ap (λ ts. mid ++ declared_words (typing_environment_of s e) name (map static_view ts)) c.as_slice-types.ensures.value))
    c.push_declared.ensures

pub returns-in_default : goal.returns-in_default
returns-in_default c =
    let s = schema_view c.args.schema.now in
    let b = c.args.blame.now in
    let mid = string_bytes c.push_environment.new.out in
    let found = c.in-Some.ensures.lookup in
    let there = environment_there s c.environments.result.now b.environment c.environments.ensures c.in-Some.environment.now found.3.0 found.1 in
    IfOk-weaker c.push_list.result _ _
    (λ _ h. detail_other s b (string_bytes c.args.out.now) (environment_view c.in-Some.environment.now) mid (string_bytes c.push_list.new.out) there
    c.in_ok-push_environment-in-Some.ensures c.in_default.not-AttributeMayBeMissing
    (h ∙ ap (λ l. mid ++ l) (listed_types c.as_slice-types.result.now)
    ∙ ap (λ ts. mid ++ types_words (map static_view ts)) c.as_slice-types.ensures.value))
    c.push_list.ensures

pub returns-in-None : goal.returns-in-None
returns-in-None c =
    let s = schema_view c.args.schema.now in
    let past = environment_past s c.environments.result.now c.args.blame.now.environment c.environments.ensures c.in-None.ensures.lookup.3 in
    detail_past s c.args.blame.now (string_bytes c.args.out.now) past
