use Rattle.fault_places.proofs.LanguageCounts.{path_fits, uid_fits}
use Rattle.fault_places.proofs.ExpressionCounts.{expr_fits}
use Rattle.fault_places.proofs.form_laws.trees_count_their_tokens.Goals as goal

pub returns : goal.returns
returns c = record { paths = path_fits; uids = uid_fits; expressions = expr_fits }
