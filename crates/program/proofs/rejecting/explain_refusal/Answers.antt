use Rattle.std.proofs.Common.{option_map}
use Rattle.explanations.specs.Files.{files_of}
use Rattle.program.specs.ExplainOption.{IsRefusalText}
use Rattle.program.proofs.ExplainedLemmas.{made_told}
use Rattle.program.proofs.rejecting.explain_refusal.Goals as goal

pub returns : goal.returns
returns g c =
    made_told g.H.Host.does _ _ (IsRefusalText (files_of c.args.given.now) (option_map (λ m. m.now) c.args.message) c.args.refusal) c.refusal_text.result c.refusal_text.ensures
    c.write_explanation.ensures
