use Rattle.std.proofs.Common.{◌≡◌, drop}
use Rattle.std.specs.List.{list_all}
use Rattle.stamped_store.specs.SiteNames.{is_site_byte}
use Rattle.stamped_store.proofs.site_name.are_name_bytes.Given as goal

-- all bytes may stand where the rest may
abbrev pub invariant-loop-byte : goal.invariant-loop-byte
invariant-loop-byte l = list_all is_site_byte (drop l.byte-index l.bytes) ≡ list_all is_site_byte l.bytes
