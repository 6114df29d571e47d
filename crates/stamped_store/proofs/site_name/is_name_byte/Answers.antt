use Rattle.std.proofs.Common.{rules}
use Rattle.stamped_store.specs.SiteNames.{is_site_byte}
use Rattle.plain.specs.Words.{is_word_byte}
use Rattle.stamped_store.proofs.site_name.is_name_byte.Goals as goal

pub returns-then-digit : goal.returns-then-digit
unfolding is_site_byte is_word_byte
returns-then-digit c = search rules

pub returns-then-byte-eq45 : goal.returns-then-byte-eq45
unfolding is_site_byte is_word_byte
returns-then-byte-eq45 c = search rules

pub returns-else-byte-eq45 : goal.returns-else-byte-eq45
unfolding is_site_byte is_word_byte
returns-else-byte-eq45 c = search rules
