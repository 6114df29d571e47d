use Rattle.explanations.specs.Files.{files_of}
use Rattle.program.specs.Merging.{IsMergeText}
use Rattle.program.proofs.ExplainedLemmas.{made_told}
use Rattle.program.proofs.states.explain_merge.Goals as goal

pub returns : goal.returns
returns g c =
    made_told g.H.Host.does _ _ (IsMergeText (files_of c.args.given.now) c.args.options.now c.args.schema.now c.args.first.now c.args.refusal)
    c.merge_text.result c.merge_text.ensures c.write_explanation.ensures
