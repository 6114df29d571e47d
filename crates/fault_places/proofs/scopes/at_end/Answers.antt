use Rattle.std.proofs.Common.{List, Option, ap, ◌∙◌}
use Rattle.std.specs.Option.{option_map}
use Rattle.grammar_syntax.specs.declared.token.Token.{Token}
use Rattle.fault_places.specs.Names.{at_end}
use Rattle.fault_places.proofs.Turning.{end-other}
use Rattle.fault_places.proofs.scopes.at_end.Goals as goal

pub returns-in_default : goal.returns-in_default
returns-in_default c =
    let name : Option (List Token) = option_map (λ ts. ts.now) c.args.name in
    end-other c.first_turn.result name c.in_default.not-Stop ∙ ap (λ x. at_end x name) c.first_turn.ensures
