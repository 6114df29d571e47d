use Rattle.explanations.specs.Files.{files_of}
use Rattle.explanations.specs.FileExplanations.{IsExplained}
use Rattle.program.proofs.ExplainedLemmas.{made_told}
use Rattle.program.proofs.rejecting.explain_given.Goals as goal

pub returns : goal.returns
returns g c =
    made_told g.H.Host.does _ _ (IsExplained (files_of c.args.given.now)) c.explain_texts.result c.explain_texts.ensures c.write_explanation.ensures
