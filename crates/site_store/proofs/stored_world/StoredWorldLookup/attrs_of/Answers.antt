use Rattle.std.proofs.Common.{◌≡◌, [], subst, MatchOption}
use Rattle.std.specs.Prelude.{⊤, option_map}
use Rattle.site_meaning.specs.evaluator.Operators.{Entities}
use Rattle.site_store.proofs.WorldSeen.{world_searched}
use Rattle.site_store.proofs.stored_world.StoredWorldLookup.attrs_of.Goals as goal

pub returns-clause-attributes : goal.returns-clause-attributes
returns-clause-attributes c =
    subst (λ (W : Entities). option_map (λ r. r.now) c.attrs_of.result ≡ W.stored c.args.uid.now)
    (world_searched c.self.invariant c.args.self.now c.self.view_is) c.attrs_of.ensures.attributes

pub returns-clause-alone : goal.returns-clause-alone
returns-clause-alone c =
    subst (λ (W : Entities). MatchOption c.attrs_of.result (W.parents c.args.uid.now ≡ []) (λ _. ⊤))
    (world_searched c.self.invariant c.args.self.now c.self.view_is) c.attrs_of.ensures.alone
