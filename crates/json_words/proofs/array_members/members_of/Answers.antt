use Rattle.json_words.proofs.ArrayLemmas.{no_text}
use Rattle.json_words.proofs.array_members.members_of.Goals as goal

pub returns-in-Err-clause-begun : goal.returns-in-Err-clause-begun
returns-in-Err-clause-begun c = no_text c.args.bytes.now c.in-Err.ensures.cases.0
