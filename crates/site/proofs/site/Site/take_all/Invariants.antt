use Rattle.std.proofs.Common.{◌≡◌, ◌++◌, length}
use Rattle.std.specs.List.{AllByRecursion}
use Rattle.site_store.specs.stamped_store.Store.{store_of, updates}
use Rattle.sync_messages.specs.sync_format.Updates.{plain_updates}
use Rattle.site.specs.Admitted.{IsValidUnder}
use Rattle.site.specs.SiteViews.{schema_of, store_in, IsSameSite}
use Rattle.site.proofs.site.Site.take_all.Given as goal

-- what was yielded is applied, and what is left is valid
abbrev pub invariant-loop-update : goal.invariant-loop-update
invariant-loop-update l = record {
  can_next : (goal.iterator-loop-update).can_next l.update-iterator;
  is_finite : (goal.iterator-loop-update).is_finite l.update-iterator;
  rest : l.yielded ++ l.update-iterator.rest.items ≡ l.fn.updates.items;
  count : l.taken ≡ length l.yielded;
  same : IsSameSite l.fn.self l.self;
  valid : AllByRecursion (IsValidUnder (schema_of l.fn.self)) l.update-iterator.rest.items;
  stored : store_in l.self ≡ store_of (updates (store_in l.fn.self) ++ plain_updates l.yielded);
}
