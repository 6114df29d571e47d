use Rattle.values.proofs.WellFormedLemmas.{set_well_formed, member_well_formed, put_well_formed, field_well_formed}
use Rattle.values.proofs.laws.values_stay_well_formed.Goals as goal

pub returns : goal.returns
returns c = record {
  sets = set_well_formed;
  members = member_well_formed;
  records = put_well_formed;
  fields = field_well_formed;
}
