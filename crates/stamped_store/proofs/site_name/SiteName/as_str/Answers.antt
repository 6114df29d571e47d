use Rattle.std.proofs.Common.{subst, sym}
use Rattle.std.specs.Str.{IsUtf8}
use Rattle.stamped_store.proofs.SiteNames.{names_are_texts}
use Rattle.stamped_store.proofs.site_name.SiteName.as_str.Goals as goal

pub unreachable-requires : goal.unreachable-requires
unreachable-requires c = c.in-Err.ensures.cases.0 (subst IsUtf8 (sym c.as_bytes.ensures.bytes) (names_are_texts c.args.self.now c.as_bytes.ensures.named))
