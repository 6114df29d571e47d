use Rattle.site.proofs.StoreRanges.{empty_in_range, joined_in_range, news_in_range, summary_in_range, counts_in_range}
use Rattle.site.proofs.StoreRanges.{name_in_range, issued_in_range}
use Rattle.site.proofs.ranges.ranges_stay.Goals as goal

pub returns-clause-empty : goal.returns-clause-empty
returns-clause-empty c = empty_in_range c.updates_have_one_store.ensures.greatest

pub returns-clause-joined : goal.returns-clause-joined
returns-clause-joined c = joined_in_range c.updates_have_one_store.ensures.greatest

pub returns-clause-news : goal.returns-clause-news
returns-clause-news c = news_in_range c.updates_have_one_store.ensures.greatest c.updates_have_one_store.ensures.own c.deltas_are_joined.ensures.news

pub returns-clause-summary : goal.returns-clause-summary
returns-clause-summary c = summary_in_range

pub returns-clause-counted : goal.returns-clause-counted
returns-clause-counted c = counts_in_range c.stamps_are_issued.ensures.reached

pub returns-clause-named : goal.returns-clause-named
returns-clause-named c = name_in_range c.updates_have_one_store.ensures.greatest c.updates_have_one_store.ensures.own

pub returns-clause-issued : goal.returns-clause-issued
returns-clause-issued c = issued_in_range
