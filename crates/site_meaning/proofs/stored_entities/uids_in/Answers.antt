use Rattle.site_meaning.proofs.UidLemmas.{result_is_uids, result_ascends}
use Rattle.site_meaning.proofs.stored_entities.uids_in.Goals as goal

pub returns-clause-all : goal.returns-clause-all
returns-clause-all c =
    result_is_uids c.args.store.now.entities c.uids_with_text.ensures.ordered c.uids_with_text.result c.uids_with_text.ensures.found

pub returns-clause-ascending : goal.returns-clause-ascending
returns-clause-ascending c =
    result_ascends c.args.store.now.entities c.uids_with_text.ensures.ordered c.uids_with_text.result c.uids_with_text.ensures.found
