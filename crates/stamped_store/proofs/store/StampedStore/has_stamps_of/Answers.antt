use Rattle.std.proofs.Common.{◌∙◌, ap, sym}
use Rattle.std.specs.List.{list_any}
use Rattle.stamped_store.proofs.StampedAt.{at_site, has_stamps_of-kept}
use Rattle.stamped_store.proofs.store.StampedStore.has_stamps_of.Goals as goal

pub returns : goal.returns
returns g c =
    has_stamps_of-kept c.args.site c.args.self.now c.is_any_stamped_at-of_policies.result c.is_any_stamped_at-of_entities.result c.policies.ensures.in_order
    (c.is_any_stamped_at-of_policies.ensures ∙ ap (list_any (at_site c.args.site)) c.policies.ensures.rest)
    (c.is_any_stamped_at-of_entities.ensures ∙ ap (list_any (at_site c.args.site)) c.entities.ensures.rest)
