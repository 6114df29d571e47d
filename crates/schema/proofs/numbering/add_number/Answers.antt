use Rattle.std.proofs.Common.{◌∙◌, sym, rules}
use Rattle.schema.proofs.NumberLemmas.{had_number, gets_number}
use Rattle.schema.proofs.numbering.add_number.Goals as goal

pub returns-then-contains_key : goal.returns-then-contains_key
returns-then-contains_key c = had_number c.args.numbered.now c.args.uid.now (sym c.contains_key.ensures ∙ c.if-contains_key.true)

pub returns : goal.returns
returns c = gets_number c.args.numbered.now (record { numbers = c.put.new.map; listed = c.push.new.self }) c.args.uid c.in_ok-key.key _ c.in_ok-key.ensures (search rules) c.in_ok-put.ensures c.in_ok-push.ensures.items
