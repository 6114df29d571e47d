use Rattle.json_words.proofs.Compact.{read_compact, compact_one}
use Rattle.json_words.proofs.laws.compact_texts_read_back.Goals as goal

pub returns-clause-back : goal.returns-clause-back
returns-clause-back c = read_compact

pub returns-clause-one : goal.returns-clause-one
returns-clause-one c = compact_one
