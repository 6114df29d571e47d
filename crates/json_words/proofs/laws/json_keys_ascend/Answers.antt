use Rattle.json_words.proofs.JsonAscend.{json_keys_ascend}
use Rattle.json_words.proofs.laws.json_keys_ascend.Goals as goal

pub returns : goal.returns
returns c = json_keys_ascend
