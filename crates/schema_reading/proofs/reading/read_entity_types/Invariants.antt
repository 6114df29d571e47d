use Rattle.std.proofs.Common.{◌≡◌, map}
use Rattle.serde_json.specs.View.{members_view}
use Rattle.json_words.specs.Each.{each_member}
use Rattle.schema_reading.specs.FileForm.{entity_type_of}
use Rattle.schema_reading.specs.inner.StatedViews.{entity_type_view}
use Rattle.json_words.proofs.MembersLemmas.{after}
use Rattle.schema_reading.proofs.reading.read_entity_types.Given as goal

abbrev pub invariant-loop-key : goal.invariant-loop-key
invariant-loop-key l = each_member entity_type_of (members_view l.members.entries) ≡ after (map entity_type_view l.entity_types) (each_member entity_type_of (members_view l.key-iterator))
