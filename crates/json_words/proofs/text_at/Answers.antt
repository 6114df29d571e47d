use Rattle.std.proofs.Common.{rules}
use Rattle.json_words.proofs.text_at.Goals as goal

pub returns-in-Some : goal.returns-in-Some
returns-in-Some c = search rules
