-- What `||` learns, by the type of its right.
use Rattle.std.proofs.Common.{◌≡◌, List, [], sym, subst}
use Rattle.typing.specs.Types as types
use Rattle.typing.specs.Gained as gained
use Rattle.typing.specs.Gained.{CapabilityList, InBoth}
use Rattle.type_checker.specs.Views.{boolean_view}
use Rattle.type_checker.specs.declared.static_type.BooleanType.{BooleanType}
use Rattle.type_checker.specs.declared.static_type.BooleanType.TheVariants as truth
use Rattle.type_capabilities.specs.declared.capability.Capability.{Capability}
use Rattle.type_capabilities.specs.CapabilityList.{capabilities}

pub or_none : {b : BooleanType} {L M : CapabilityList} {ps : List Capability} → b ≡ truth.True → ps ≡ []
    → gained.OrGains (boolean_view b) L M (capabilities ps)
or_none {b} {L} {M} {ps} e f =
    subst (λ c. gained.OrGains (boolean_view c) L M (capabilities ps)) (sym e)
    (subst (λ qs. gained.OrGains types.true_type L M (capabilities qs)) (sym f) gained.or_gains_none)

pub or_left : {b : BooleanType} {L M : CapabilityList} → b ≡ truth.False → gained.OrGains (boolean_view b) L M L
or_left {b} {L} {M} e = subst (λ c. gained.OrGains (boolean_view c) L M L) (sym e) gained.or_gains_left

pub or_both : {b : BooleanType} {L M N : CapabilityList} → b ≡ truth.Either → InBoth L M N
    → gained.OrGains (boolean_view b) L M N
or_both {b} {L} {M} {N} e h =
    subst (λ c. gained.OrGains (boolean_view c) L M N) (sym e) (gained.or_gains_both h)
