use Rattle.fault_places.proofs.Opening.{kept-other}
use Rattle.fault_places.proofs.forms.kept.Goals as goal

pub returns-in_default : goal.returns-in_default
returns-in_default c = kept-other c.args.part c.args.all c.in_default.not-First
