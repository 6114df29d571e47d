use Rattle.std.proofs.Common.{◌∷◌, [], ◌++◌, sym, subst, ◌∙◌}
use Rattle.std.proofs.lemmas.Bool.{false≢true}
use Rattle.std.proofs.lemmas.List.{map-append}
use Rattle.typing.specs.Gained.{InBoth}
use Rattle.type_capabilities.specs.CapabilityList.{capability_of, capabilities}
use Rattle.type_checker.proofs.Learning.{one_more_kept, one_more_dropped}
use Rattle.type_checker.proofs.known.keep.Goals as goal

pub returns-then-not-knows : goal.returns-then-not-knows
returns-then-not-knows c = λ L h.
    one_more_dropped (capability_of c.args.pair) (λ m. false≢true (sym c.if-not-knows.true ∙ c.knows.ensures.1 m)) h

pub returns : goal.returns
returns c = λ L h.
    let p = capability_of c.args.pair in
    let M = c.args.right.now in
    subst (λ ps. InBoth (L ++ p ∷ []) M (capabilities ps)) (sym c.in_ok-push.ensures.items)
    (subst (λ qs. InBoth (L ++ p ∷ []) M qs) (sym (map-append capability_of c.args.both.now.items (c.args.pair ∷ [])))
    (one_more_kept p (c.knows.ensures.0 c.if-not-knows.false) h))
