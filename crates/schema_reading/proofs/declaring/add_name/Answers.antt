use Rattle.std.proofs.Common.{refl}
use Rattle.schema_types.specs.Names.{full_name}
use Rattle.schema_reading.proofs.AddLemmas.{name_added}
use Rattle.schema_reading.proofs.declaring.add_name.Goals as goal

pub returns : goal.returns
returns c = name_added c.args.declared.now c.insert.new.self c.in_ok-text.text _ _ (full_name c.args.own.now c.args.word.now)
    c.in_ok-text.ensures refl refl c.in_ok-insert.ensures.updates
