use Rattle.std.proofs.Common.{◌∙◌}
use Rattle.entities.specs.Canonical.{canonical_text}
use Rattle.entity_uids.proofs.Appending.{text_written, json_written}
use Rattle.entities.proofs.canonical.canonical_text.Goals as goal

pub returns-clause-text : goal.returns-clause-text
unfolding canonical_text
returns-clause-text c =
    text_written c.into_inner.result.items (c.new-out.ensures.before ∙ c.in_ok-with_capacity.ensures.items) c.new-out.ensures.tokens c.in_ok-write_members.ensures
    c.into_inner.ensures.items

pub returns-clause-reads_back : goal.returns-clause-reads_back
returns-clause-reads_back c shallow =
    json_written c.into_inner.result.items (c.new-out.ensures.before ∙ c.in_ok-with_capacity.ensures.items) c.new-out.ensures.tokens c.in_ok-write_members.ensures
    c.into_inner.ensures.items c.into_inner.ensures.reads_back c.into_inner.ensures.utf8 shallow
