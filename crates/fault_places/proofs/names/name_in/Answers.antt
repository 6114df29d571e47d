use Rattle.std.proofs.Common.{ap, ◌∙◌}
use Rattle.std.specs.Option.{option_and_then}
use Rattle.fault_places.specs.Names.{own_name}
use Rattle.fault_places.proofs.names.name_in.Goals as goal

pub returns-in-None : goal.returns-in-None
returns-in-None c = ap (option_and_then own_name) c.in-None.ensures

pub returns-in-Some : goal.returns-in-Some
returns-in-Some c = c.own_name.ensures ∙ ap (option_and_then own_name) c.in-Some.ensures
