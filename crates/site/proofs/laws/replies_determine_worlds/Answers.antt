use Rattle.site.proofs.Fixed.{replies_determine_worlds as law}
use Rattle.site.proofs.laws.replies_determine_worlds.Goals as goal

pub returns : goal.returns
returns c = law c.runs_leave_what_they_took.ensures
