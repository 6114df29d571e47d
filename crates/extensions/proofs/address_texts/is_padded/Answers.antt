use Rattle.std.proofs.Common.{rules}
use Rattle.extensions.proofs.address_texts.is_padded.Goals as goal

pub returns-then-starts_with : goal.returns-then-starts_with
returns-then-starts_with c = search rules
