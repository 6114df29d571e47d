use Rattle.std.proofs.Common.{◌∙◌, sym, arith}
use Rattle.std.proofs.lemmas.Fmt.{decimal_injective}
use Rattle.extensions.proofs.address_texts.prefix_of_text.Goals as goal

pub returns-else-prefix-bits-clause-none : goal.returns-else-prefix-bits-clause-none
returns-else-prefix-bits-clause-none c = λ _ p within e.
    let fits = c.ranges.bits in
    let same = decimal_injective p c.in_ok-prefix.prefix (omega arith) (omega arith) (sym e ∙ c.in_ok-prefix.ensures.some) in
    omega arith
