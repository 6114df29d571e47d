use Rattle.std.proofs.Common.{List, subst}
use Rattle.values.specs.Fields.{Field}
use Rattle.values.specs.Values.{record_of, fields_of}
use Rattle.values.specs.WellFormed.{IsWellFormed}
use Rattle.values.proofs.record.Record.is_well_formed.Goals as goal

pub returns : goal.returns
returns c = subst (λ (fs : List Field). IsWellFormed (record_of (fields_of fs))) c.self.view_is c.self.invariant
