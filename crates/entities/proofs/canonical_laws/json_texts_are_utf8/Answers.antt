use Rattle.entities.proofs.Utf8Texts.{json_texts_are_utf8}
use Rattle.entities.proofs.canonical_laws.json_texts_are_utf8.Goals as goal

pub returns : goal.returns
returns c = json_texts_are_utf8
