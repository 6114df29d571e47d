use Rattle.std.proofs.Common.{refl}
use Rattle.json_words.specs.Each.{each_member}
use Rattle.schema_reading.specs.FileForm.{actions_of}
use Rattle.schema_reading.proofs.reading.read_optional_actions.Goals as goal

pub returns-in-None : goal.returns-in-None
unfolding actions_of each_member
returns-in-None c = rw (c.in-None.is, c.new.ensures) refl
