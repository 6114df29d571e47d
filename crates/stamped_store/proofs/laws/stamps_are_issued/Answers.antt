use Rattle.stamped_store.specs.Store.{updates}
use Rattle.stamped_store.proofs.JoinedStores.{counts_below, count_reached, greatest_count-joined, issued_wins}
use Rattle.stamped_store.proofs.laws.stamps_are_issued.Goals as goal

pub returns-clause-greatest : goal.returns-clause-greatest
returns-clause-greatest c = λ s. counts_below (updates s)

pub returns-clause-reached : goal.returns-clause-reached
returns-clause-reached c = λ s. count_reached (updates s)

pub returns-clause-joined : goal.returns-clause-joined
returns-clause-joined c = greatest_count-joined

pub returns-clause-stays : goal.returns-clause-stays
returns-clause-stays c = issued_wins
