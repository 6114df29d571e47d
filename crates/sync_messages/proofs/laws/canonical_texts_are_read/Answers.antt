use Rattle.sync_messages.proofs.CanonicalTexts.{canonical_is_read}
use Rattle.sync_messages.proofs.laws.canonical_texts_are_read.Goals as goal

pub returns : goal.returns
returns c = canonical_is_read c.canonical_texts_are_read.ensures.back
