use Rattle.std.proofs.Common.{List, subst}
use Rattle.values.specs.Values.{PlainValue, set, values_of}
use Rattle.values.specs.WellFormed.{IsWellFormed}
use Rattle.values.proofs.WellFormedLemmas.{set_is_well_formed}
use Rattle.values.proofs.set.Set.is_well_formed.Goals as goal

pub returns : goal.returns
returns c = subst (λ (vs : List PlainValue). IsWellFormed (set (values_of vs))) c.self.view_is (set_is_well_formed _ c.self.invariant.0 c.self.invariant.1)
