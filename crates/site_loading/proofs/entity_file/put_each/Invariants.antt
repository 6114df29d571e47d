use Rattle.std.proofs.Common.{◌+◌, ◌≤◌, length}
use Rattle.json_words.specs.Arrays.{unread_members}
use Rattle.site.specs.SiteViews.{schema_of, store_in, IsSameSite}
use Rattle.site_loading.proofs.PutLemmas.{AreAlong}
use Rattle.site_loading.proofs.entity_file.put_each.Given as goal

-- the result of the remaining puts is that of all
abbrev pub invariant-members : goal.invariant-members
invariant-members l = record {
  same : IsSameSite l.fn.site l.site;
  along : AreAlong (schema_of l.fn.site) l.fn.site.name (store_in l.fn.site) (unread_members l.fn.members) (store_in l.site) l.place (unread_members l.members);
  few : l.place + length l.members.reader ≤ length l.fn.members.reader;
}

abbrev pub decreases-members : goal.decreases-members
decreases-members l = length l.members.reader
