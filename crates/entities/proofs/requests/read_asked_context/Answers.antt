use Rattle.std.proofs.Common.{rules}
use Rattle.entities.specs.Contexts.{is_place}
use Rattle.entities.specs.Requests.{context_asked}
use Rattle.entities.proofs.HalvesLemmas.{asked_sought}
use Rattle.entities.proofs.requests.read_asked_context.Goals as goal

pub returns-in-Some : goal.returns-in-Some
unfolding context_asked
returns-in-Some c =
    let asked = c.args.asked.now in
    rw (← c.in-Some.ensures (is_place asked.action asked.principal.type_name asked.resource.type_name) (asked_sought asked)) (search rules)

pub returns-in-None : goal.returns-in-None
unfolding context_asked
returns-in-None c =
    let asked = c.args.asked.now in
    rw (← c.in-None.ensures (is_place asked.action asked.principal.type_name asked.resource.type_name) (asked_sought asked)) (search rules)
