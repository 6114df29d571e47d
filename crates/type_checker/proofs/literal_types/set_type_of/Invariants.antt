use Rattle.std.proofs.Common.{◌≡◌, map, drop}
use Rattle.typing.specs.Types.{common_of}
use Rattle.type_checker.specs.Views.{static_view}
use Rattle.type_checker.proofs.literal_types.set_type_of.Given as goal

abbrev pub invariant-loop-ty : goal.invariant-loop-ty
invariant-loop-ty l =
    common_of (static_view l.first) (map (λ t. static_view t) l.rest)
    ≡ common_of (static_view l.joined) (map (λ t. static_view t) (drop l.ty-index l.rest))
