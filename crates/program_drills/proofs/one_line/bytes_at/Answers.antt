use Rattle.std.proofs.Common.{◌∙◌, ap}
use Rattle.json_words.specs.Json.{json_of}
use Rattle.serde_json.specs.View.{view}
use Rattle.program_drills.proofs.Depths.{bytes_there}
use Rattle.program_drills.proofs.one_line.bytes_at.Goals as goal

pub returns : goal.returns
returns c =
    bytes_there c.args.key.now (view c.args.value.now) (view c.in-Some.found.now) c.from_vec.result c.in-Some.ensures c.requires
    (λ fits. ap json_of c.from_vec.ensures ∙ c.in_ok-bytes.ensures.reads_back fits)
