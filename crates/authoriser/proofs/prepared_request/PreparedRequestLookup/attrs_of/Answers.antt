use Rattle.std.proofs.Common.{◌≡◌, subst, MatchOption}
use Rattle.std.specs.Prelude.{⊤, [], option_map}
use Rattle.evaluator.specs.Operators.{entities_with}
use Rattle.authoriser.proofs.Judging.{all_have_attributes}
use Rattle.authoriser.proofs.prepared_request.PreparedRequestLookup.attrs_of.Goals as goal

pub returns-in-Some-clause-attributes : goal.returns-in-Some-clause-attributes
returns-in-Some-clause-attributes g c =
    let store = c.self.inside.store.now in
    let W = entities_with (g.L.Lookup.stored store) (g.L.Ancestry.parents store) in
    let known = c.in-Some.ensures.attributes W (all_have_attributes W _ _ c.self.invariant.three) in
    subst (λ s. option_map (λ r. r.now) c.in-Some.known.now.attributes ≡ g.L.Lookup.stored s.0 c.args.uid.now) c.self.view_is known.given

pub returns-in-Some-clause-alone : goal.returns-in-Some-clause-alone
returns-in-Some-clause-alone g c =
    let store = c.self.inside.store.now in
    let W = entities_with (g.L.Lookup.stored store) (g.L.Ancestry.parents store) in
    let known = c.in-Some.ensures.attributes W (all_have_attributes W _ _ c.self.invariant.three) in
    subst (λ s. MatchOption c.in-Some.known.now.attributes (g.L.Ancestry.parents s.0 c.args.uid.now ≡ []) (λ _. ⊤)) c.self.view_is known.alone
