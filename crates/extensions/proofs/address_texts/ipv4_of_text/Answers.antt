use Rattle.extensions.specs.declared.ip_net.Version.TheVariants.{V4}
use Rattle.extensions.proofs.ReadTexts.{text_read, read_text}
use Rattle.extensions.proofs.address_texts.ipv4_of_text.Goals as goal

pub returns-in-Ok-clause-some : goal.returns-in-Ok-clause-some
returns-in-Ok-clause-some c = read_text V4 c.args.text.now _ (c.in-Ok.address, c.in-Ok.ensures.value, c.to_bits.ensures)

pub returns-in-Err-clause-none : goal.returns-in-Err-clause-none
returns-in-Err-clause-none c = λ _ n t. let h = text_read V4 c.args.text.now n t in c.in-Err.ensures.value h.0 h.1
