use Rattle.std.proofs.Common.{◌≡◌, map}
use Rattle.serde_json.specs.View.{members_view}
use Rattle.json_words.specs.Each.{each_member}
use Rattle.schema_reading.specs.FileForm.{namespace_of}
use Rattle.schema_reading.specs.inner.StatedViews.{namespace_view}
use Rattle.json_words.proofs.MembersLemmas.{after}
use Rattle.schema_reading.proofs.reading.read_namespaces.Given as goal

abbrev pub invariant-loop-key : goal.invariant-loop-key
invariant-loop-key l = each_member namespace_of (members_view l.members.entries) ≡ after (map namespace_view l.namespaces) (each_member namespace_of (members_view l.key-iterator))
