use Rattle.std.proofs.Common.{◌≡◌, map}
use Rattle.serde_json.specs.View.{members_view}
use Rattle.json_words.specs.Each.{each_member}
use Rattle.schema_reading.specs.FileForm.{action_of}
use Rattle.schema_reading.specs.inner.StatedViews.{action_view}
use Rattle.json_words.proofs.MembersLemmas.{after}
use Rattle.schema_reading.proofs.reading.read_actions.Given as goal

abbrev pub invariant-loop-key : goal.invariant-loop-key
invariant-loop-key l = each_member action_of (members_view l.members.entries) ≡ after (map action_view l.actions) (each_member action_of (members_view l.key-iterator))
