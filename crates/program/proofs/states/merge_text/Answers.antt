use Rattle.std.proofs.Common.{Some, string_bytes}
use Rattle.explanations.specs.Files.{files_of}
use Rattle.program.specs.ExplainOption.{IsRefusalText}
use Rattle.program.specs.Merging.{IsMergeText}
use Rattle.program.proofs.ExplainedLemmas.{ok_as}
use Rattle.program.proofs.states.merge_text.Goals as goal

pub returns : goal.returns
returns c =
    let files = files_of c.args.given.now in
    let name = c.in_ok-name.name.now in
    ok_as c.refusal_text.result (λ text. IsRefusalText files (Some name) c.args.refusal (string_bytes text))
    (λ text. IsMergeText files c.args.options.now c.args.schema.now c.args.first.now c.args.refusal (string_bytes text))
    (λ text h. (name, c.in_ok-name.ensures, h)) c.refusal_text.ensures
