use Rattle.values.proofs.Unique.{set_of, set_of_is}
use Rattle.values.proofs.Found.{found_in, has_member-is}
use Rattle.values.proofs.laws.sets_hold_their_members.Goals as goal

pub returns : goal.returns
returns c = record {
  made = set_of;
  one = set_of_is;
  told = has_member-is;
  found = λ vs v r sorted bound at. found_in vs v r sorted bound at;
}
