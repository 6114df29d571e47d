use Rattle.std.proofs.Common.{rules}
use Rattle.std.proofs.lemmas.Result.{IfOk-weaker}
use Rattle.schema.proofs.numbering.add_parent.Goals as goal

pub returns-in-Some : goal.returns-in-Some
returns-in-Some c = IfOk-weaker c.add_reached.result _ _ (λ known has is. record { number = c.in-Some.number.now; named = search rules; has = has is }) c.add_reached.ensures
