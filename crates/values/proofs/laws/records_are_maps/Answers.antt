use Rattle.values.proofs.Puts.{put_here, put_there, put_ascending, same_fields, other_order, put_again}
use Rattle.values.proofs.laws.records_are_maps.Goals as goal

pub returns : goal.returns
returns c = record {
  here = put_here;
  others = λ key other value fields n. put_there key other n value fields;
  ascending = put_ascending;
  same = same_fields;
  order = other_order;
  later = put_again;
}
