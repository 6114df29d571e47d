use Rattle.stamped_store.proofs.SiteNames.{names_are_told, names_are_texts}
use Rattle.stamped_store.proofs.SiteNames.{five_digits_are_names, five_digits_cmp, five_digits_tell}
use Rattle.stamped_store.proofs.laws.site_names_are_recognized.Goals as goal

pub returns-clause-tested : goal.returns-clause-tested
returns-clause-tested c = names_are_told

pub returns-clause-texts : goal.returns-clause-texts
returns-clause-texts c = names_are_texts

pub returns-clause-digits : goal.returns-clause-digits
returns-clause-digits c = five_digits_are_names

pub returns-clause-ordered : goal.returns-clause-ordered
returns-clause-ordered c = five_digits_cmp

pub returns-clause-apart : goal.returns-clause-apart
returns-clause-apart c = five_digits_tell
