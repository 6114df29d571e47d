use Rattle.std.proofs.Common.{sym}
use Rattle.json_words.proofs.JsonLemmas.{json_of-none}
use Rattle.json_words.proofs.Whole.{of_bytes}
use Rattle.json_words.proofs.with_scratch.read_json_by.Goals as goal

pub returns-in-Ok-clause-value : goal.returns-in-Ok-clause-value
returns-in-Ok-clause-value c =
    of_bytes c.args.bytes.now c.in-Ok.text.now c.read_text.result c.in-Ok.ensures.cases.1 c.in-Ok.ensures.cases.0 c.read_text.ensures.value

pub returns-in-Err-clause-value : goal.returns-in-Err-clause-value
returns-in-Err-clause-value c = sym (json_of-none c.args.bytes.now (λ text. absurd (c.in-Err.ensures.cases.0 text)))
