use Rattle.std.proofs.Common.{◌+◌, ◌∷◌, ◌∙◌, List, drop, sym, ap, subst}
use Rattle.std.proofs.lemmas.List.{drop_more}
use Rattle.values.specs.Values.{PlainValue, values_of}
use Rattle.values.specs.WellFormed.{AreMembersWellFormed}
use Rattle.values.proofs.set.all_well_formed.Goals as goal

pub loop-value-preserved : goal.loop-value-preserved
loop-value-preserved c h =
    let i = c.loop-value.value-index in
    let vs = c.args.values.now in
    let v = c.value-item.result in
    let first = drop_more vs i v c.loop-value-test.true ∙ ap (λ (w : PlainValue). w ∷ drop (i + 1) vs) (sym c.value-item.is) in
    c.loop-value.invariant (subst (λ (xs : List PlainValue). AreMembersWellFormed (values_of xs)) (sym first) (c.is_well_formed.ensures, h))
