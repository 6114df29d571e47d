use Rattle.fault_places.proofs.OneName.{one_place}
use Rattle.fault_places.proofs.laws.unknown_names_have_one_place.Goals as goal

pub returns : goal.returns
returns c = λ s x p q m n f g h k. one_place s h k
