use Rattle.std.proofs.Common.{ap, option_map}
use Rattle.std.proofs.lemmas.Result.{MatchResult-weaker}
use Rattle.schema_reading.specs.ResolvedViews.{resolved_applies_to_view, resolved_action_view}
use Rattle.schema.proofs.UseLemmas.{uses_as}
use Rattle.schema.proofs.environments.add_action.Goals as goal

pub add_use-requires : goal.add_use-requires
add_use-requires g c = (c.requires.0, c.requires.1 (resolved_applies_to_view c.in-Some.applied) (ap (option_map resolved_applies_to_view) c.in-Some.is))

pub returns-in-Some : goal.returns-in-Some
returns-in-Some g c =
    let is = ap (option_map resolved_applies_to_view) c.in-Some.is in
    MatchResult-weaker c.add_use.result c.add_use.ensures
    (λ u h. uses_as g.commons (resolved_action_view c.args.action.now) (resolved_applies_to_view c.in-Some.applied) is c.args.places.now c.add_use.new.places h)
    (λ f h apart. (resolved_applies_to_view c.in-Some.applied, is, h apart))
