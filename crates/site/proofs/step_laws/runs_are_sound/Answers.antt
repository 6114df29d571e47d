use Rattle.site.proofs.PermittedRuns.{runs_are_sound as law}
use Rattle.site.proofs.step_laws.runs_are_sound.Goals as goal

pub returns : goal.returns
returns c = law c.stored_answers_are_sound.ensures.answers
