use Rattle.std.proofs.Common.{append_assoc}
use Rattle.extensions.proofs.GroupTexts.{group_places}
use Rattle.extensions.proofs.pieces.append_group.Goals as goal

pub returns-clause-bytes : goal.returns-clause-bytes
returns-clause-bytes c =
    rw (group_places c.args.group c.requires.small, c.append_digit.ensures.bytes, c.append_place-3.ensures.bytes, c.append_place-2.ensures.bytes, c.append_place.ensures.bytes)
    (simp append_assoc)
