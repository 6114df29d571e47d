use Rattle.std.proofs.Common.{◌∙◌, ℕ, Option, Some, Bor, option_map, sym, ap}
use Rattle.std.specs.Prelude.{option_and_then}
use Rattle.serde_json.specs.Data.{Data}
use Rattle.serde_json.specs.Find.{at}
use Rattle.serde_json.specs.View.{view}
use Rattle.serde_json.specs.declared.value.Value.{Value}
use Rattle.explanations.proofs.part_naming.item_of.Goals as goal

abbrev item_in : Option (Bor Value) → Option ℕ → Option Data
item_in value index = option_and_then (λ i. option_and_then (at i) (option_map (λ v. view v.now) value)) index

pub returns-in-Some-value : goal.returns-in-Some-value
returns-in-Some-value c =
    c.get.ensures ∙ ap (λ (o : Option (Bor Value)). item_in o (Some c.in-Some.index)) (sym c.in-Some-value.is) ∙ ap (item_in c.args.value) (sym c.in-Some.is)

pub returns-in-None-value : goal.returns-in-None-value
returns-in-None-value c =
    ap (λ (o : Option (Bor Value)). item_in o (Some c.in-Some.index)) (sym c.in-None-value.is) ∙ ap (item_in c.args.value) (sym c.in-Some.is)

pub returns-in-None : goal.returns-in-None
returns-in-None c = ap (item_in c.args.value) (sym c.in-None.is)
