use Rattle.std.proofs.Common.{◌∙◌, sym, true≢false}
use Rattle.json_words.proofs.JsonLemmas.{json_of-text, json_of-none}
use Rattle.json_words.proofs.read_json.Goals as goal

pub returns-in-Ok-clause-value : goal.returns-in-Ok-clause-value
returns-in-Ok-clause-value c = sym (json_of-text c.args.bytes.now c.in-Ok.ensures.ok.0 ∙ c.in-Ok.ensures.ok.1)

pub returns-else-is_memory-clause-value : goal.returns-else-is_memory-clause-value
returns-else-is_memory-clause-value c = sym (json_of-none c.args.bytes.now (c.in-Err.ensures.err (λ memory. true≢false (sym (c.if-is_memory.ensures.1 memory)))))
