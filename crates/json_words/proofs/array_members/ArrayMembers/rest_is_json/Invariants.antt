use Rattle.std.proofs.Common.{◌≡◌, length}
use Rattle.std.specs.Prelude.{is_some}
use Rattle.json_words.specs.Arrays.{unread_members}
use Rattle.json_words.proofs.array_members.ArrayMembers.rest_is_json.Given as goal

-- the rest is JSON where what is still to come is
abbrev pub invariant-rest : goal.invariant-rest
invariant-rest l = is_some (unread_members l.fn.self) ≡ is_some (unread_members l.self)

abbrev pub decreases-rest : goal.decreases-rest
decreases-rest l = length l.self.reader
