use Rattle.std.proofs.Common.{◌∙◌, ap, sym, subst, Option}
use Rattle.std.specs.Prelude.{IfSome}
use Rattle.scope_index.specs.Keys.{Kept}
use Rattle.site_store.specs.Indexed.{AreIndexed}
use Rattle.site_store.proofs.Follows.{right_elsewhere}
use Rattle.site_store.proofs.index.record_policy.Goals as goal

pub updated_index-requires : goal.updated_index-requires
updated_index-requires g c =
    right_elsewhere c.args.store.now.policies c.take_policy.new.self.policies c.args.id c.args.entry
    (ap (λ k. k.policies) c.in_ok-take_policy.ensures.kept) c.as_str-in-Ok.result.now
    (c.as_str-in-Ok.ensures.value ∙ c.in-Ok.ensures.ok ∙ c.as_str.ensures.value) c.take-before.result
    (subst (λ (o : Option Kept). IfSome o (AreIndexed c.args.store.now.policies)) (sym c.take-before.ensures.value) c.requires)
