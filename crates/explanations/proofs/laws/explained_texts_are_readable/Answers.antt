use Rattle.explanations.proofs.Readable.{explained, message_reads}
use Rattle.explanations.proofs.laws.explained_texts_are_readable.Goals as goal

pub returns : goal.returns
returns c = (explained, message_reads)
