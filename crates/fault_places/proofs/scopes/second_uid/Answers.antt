use Rattle.std.proofs.Common.{Some, ap, ◌∙◌}
use Rattle.fault_places.specs.Names.{uid_tokens, at_second}
use Rattle.fault_places.proofs.Turning.{second-other}
use Rattle.fault_places.proofs.scopes.second_uid.Goals as goal

pub returns-in_default : goal.returns-in_default
returns-in_default c =
    let name = Some (uid_tokens c.args.uid.now c.args.tokens.now) in
    second-other c.first_turn.result name c.in_default.not-Right ∙ ap (λ x. at_second x name) c.first_turn.ensures
