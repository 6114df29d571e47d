use Rattle.std.proofs.Common.{refl}
use Rattle.plain.specs.Words.{is_letter, is_digit, is_word_byte}
use Rattle.plain.proofs.Members.{not_reserved}
use Rattle.schema_types.proofs.actions.action_type.Goals as goal

pub from_words-requires-clause-idents : goal.from_words-requires-clause-idents
unfolding is_letter is_digit is_word_byte
from_words-requires-clause-idents c =
    rw c.as_slice.ensures (((refl, (refl, (refl, (refl, (refl, (refl, tt)))))), not_reserved _ refl), tt)
