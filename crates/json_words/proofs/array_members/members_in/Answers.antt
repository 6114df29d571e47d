use Rattle.std.proofs.Common.{◌≡◌, ◌∙◌, ◌∷◌, length, sym, ap, arith}
use Rattle.json.specs.Lex.{tokens}
use Rattle.json.specs.Reads.{token_of}
use Rattle.json_words.proofs.ArrayLemmas.{begun, not_begun, empty}
use Rattle.json_words.proofs.Counting.{at_most}
use Rattle.json_words.proofs.array_members.members_in.Goals as goal

pub returns-in-None-clause-begun : goal.returns-in-None-clause-begun
returns-in-None-clause-begun c = empty c.args.text.now c.requires (sym c.in_ok-reader.ensures.ok ∙ c.in-None.ensures.value.0)

pub returns-then-opens_array-clause-begun : goal.returns-then-opens_array-clause-begun
returns-then-opens_array-clause-begun c =
    begun c.args.text.now (token_of c.in-Some.token) c.next.new.self c.requires (sym c.in_ok-reader.ensures.ok ∙ c.in-Some.ensures.value) (sym c.if-opens_array.ensures)

pub returns-then-opens_array-clause-fewer : goal.returns-then-opens_array-clause-fewer
returns-then-opens_array-clause-fewer c =
    let one_more : length (tokens c.args.text.now) ≡ length (token_of c.in-Some.token ∷ c.next.new.self) = ap length (sym c.in_ok-reader.ensures.ok ∙ c.in-Some.ensures.value) in
    omega (arith, one_more, at_most c.args.text.now)

pub returns-else-opens_array-clause-begun : goal.returns-else-opens_array-clause-begun
returns-else-opens_array-clause-begun c =
    not_begun c.args.text.now (token_of c.in-Some.token) c.next.new.self c.requires (sym c.in_ok-reader.ensures.ok ∙ c.in-Some.ensures.value) (sym c.if-opens_array.ensures)
