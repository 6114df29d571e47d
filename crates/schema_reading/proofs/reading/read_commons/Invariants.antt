use Rattle.std.proofs.Common.{◌≡◌, map}
use Rattle.serde_json.specs.View.{members_view}
use Rattle.json_words.specs.Each.{each_member}
use Rattle.schema_reading.specs.FileForm.{common_of}
use Rattle.schema_reading.specs.inner.StatedViews.{common_view}
use Rattle.json_words.proofs.MembersLemmas.{after}
use Rattle.schema_reading.proofs.reading.read_commons.Given as goal

abbrev pub invariant-loop-key : goal.invariant-loop-key
invariant-loop-key l = each_member common_of (members_view l.members.entries) ≡ after (map common_view l.commons) (each_member common_of (members_view l.key-iterator))
