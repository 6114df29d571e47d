use Rattle.json_words.proofs.JsonLemmas.{json_of-written, IfOk-both}
use Rattle.json_words.proofs.write_json.Goals as goal

pub returns-clause-reads_back : goal.returns-clause-reads_back
returns-clause-reads_back c = IfOk-both c.to_vec.result _ _ _ (λ b text back. json_of-written b.items _ text back) c.to_vec.ensures.utf8 c.to_vec.ensures.reads_back
