use Rattle.std.proofs.Common.{◌≡◌, IfOk, true, false, subst}
use Rattle.std.proofs.lemmas.Result.{IfOk-weaker}
use Rattle.site_meaning.specs.StoreMeaning.{MakesCycle, MakesNoCycle}
use Rattle.site.specs.Admitted.{IsEntityUnder}
use Rattle.site.specs.SiteViews.{SiteView, schema_of, store_in}
use Rattle.site.proofs.UnderSchema.{texts_of}
use Rattle.site.proofs.site.Site.makes_cycle.Goals as goal

pub returns-clause-yes : goal.returns-clause-yes
returns-clause-yes c =
    subst (λ (v : SiteView). IfOk c.would_cycle.result (λ t. t ≡ true → MakesCycle (IsEntityUnder (schema_of v)) (schema_of v) (store_in v) c.args.entity.now)) c.self.view_is
    (IfOk-weaker c.would_cycle.result _ _ (λ t h is. h is (texts_of c.self.inside.store.schema) c.self.invariant.held) c.would_cycle.ensures.yes)

pub returns-clause-no : goal.returns-clause-no
returns-clause-no c =
    subst (λ (v : SiteView). IfOk c.would_cycle.result (λ t. t ≡ false → MakesNoCycle (IsEntityUnder (schema_of v)) (schema_of v) (store_in v) c.args.entity.now)) c.self.view_is
    (IfOk-weaker c.would_cycle.result _ _ (λ t h is. h is (texts_of c.self.inside.store.schema) c.self.invariant.held) c.would_cycle.ensures.no)
