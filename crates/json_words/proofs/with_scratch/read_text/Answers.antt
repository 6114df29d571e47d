use Rattle.serde_json.specs.Read.{max_depth}
use Rattle.json_words.proofs.Whole.{nests, ended}
use Rattle.json_words.proofs.Turns.{from_front}
use Rattle.json_words.proofs.with_scratch.read_text.Goals as goal

pub returns-in-None-clause-nests : goal.returns-in-None-clause-nests
returns-in-None-clause-nests c =
    let o = c.in_ok-value.value in
    let left = c.value_in.new.reader in
    let given = from_front max_depth o left c.in_ok-reader.ensures.ok c.in_ok-value.ensures.given in
    nests c.args.text.now o (ended c.args.text.now o left given c.in-None.ensures.value.0)
