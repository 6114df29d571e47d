-- Defines the capabilities that `has` gains, by whether it gains any.
use Rattle.std.specs.Prelude.{[], ◌∷◌, Bool, true, false}
use Rattle.typing.specs.Gained as gained

-- `if_gained b p` is the list of the capability `p` if `b` is true, and else empty.
abbrev pub if_gained : Bool → gained.Capability → gained.CapabilityList
if_gained true p = p ∷ []
if_gained false p = []
