use Rattle.std.proofs.Common.{lit<}
use Rattle.std.proofs.lemmas.Str.Pattern.{contains_char}
use Rattle.extensions.specs.declared.ip_net.Version.TheVariants.{V6}
use Rattle.extensions.proofs.Lacks.{lacks_at, lacks_by_index}
use Rattle.extensions.proofs.ReadTexts.{text_read, read_text}
use Rattle.extensions.proofs.address_texts.ipv6_of_text.Goals as goal

pub returns-then-contains-clause-none : goal.returns-then-contains-clause-none
returns-then-contains-clause-none c = λ _ n t.
    let h = text_read V6 c.args.text.now n t in
    let dot = (contains_char 46 c.args.text.now c.contains.result c.contains.ensures.cases (lit< tt)).0 c.if-contains.true in
    lacks_at 46 c.args.text.now h.2 dot.0 dot.1 dot.2

pub returns-in-Ok-clause-some : goal.returns-in-Ok-clause-some
returns-in-Ok-clause-some c =
    let holds = (contains_char 46 c.args.text.now c.contains.result c.contains.ensures.cases (lit< tt)).1 in
    let dotless = c.if-contains.false in
    read_text V6 c.args.text.now _
    (c.in-Ok.address, c.in-Ok.ensures.value, lacks_by_index 46 c.args.text.now (λ i lt e. let yes = holds i lt e in absurd (cc)), c.to_bits.ensures)

pub returns-in-Err-clause-none : goal.returns-in-Err-clause-none
returns-in-Err-clause-none c = λ _ n t. let h = text_read V6 c.args.text.now n t in c.in-Err.ensures.value h.0 h.1
