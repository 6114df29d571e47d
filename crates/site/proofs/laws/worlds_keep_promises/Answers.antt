use Rattle.std.proofs.Common.{subst, sym}
use Rattle.std.specs.Str.{IsUtf8}
use Rattle.site.proofs.Labels.{digits_are_utf8}
use Rattle.site.proofs.RunLemmas.{texts_of}
use Rattle.site_store.specs.schema.Views.{schema_view}
use Rattle.site.proofs.Growing.{StoreLaws}
use Rattle.site.proofs.StepFacts.{CommandLaws}
use Rattle.site.proofs.Happening.{SendingLaws}
use Rattle.site.proofs.Promised.{TakingLaws, worlds_keep}
use Rattle.site.proofs.laws.worlds_keep_promises.Goals as goal

pub returns : goal.returns
returns c schema stated =
    let w = schema_view schema in
    let stores : StoreLaws = record {
      greatest = c.updates_have_one_store.ensures.greatest;
      own = c.updates_have_one_store.ensures.own;
      left = λ us vs. (c.updates_have_one_store.ensures.union us vs).above_left;
      counted = c.stamps_are_issued.ensures.greatest;
      stays = c.stamps_are_issued.ensures.stays;
    } in
    let commands : CommandLaws w = record {
      left = c.runs_leave_what_they_took.ensures w;
      own = c.updates_have_one_store.ensures.own;
      uids = c.names_read_back.ensures.found;
      utf8 = c.json_texts_are_utf8.ensures;
      json = c.canonical_texts_are_read.ensures.json;
      read = c.canonical_texts_are_read-2.ensures;
      well_formed = c.stated_schemas_are_well_formed.ensures stated.0 w stated.1;
    } in
    let label_text : IsUtf8 w.label = subst IsUtf8 (sym stated.1.label) (digits_are_utf8 _) in
    let sending : SendingLaws w.label = record {
      states_read = λ s h texts. c.messages_read_back.ensures.state_texts w.label s label_text h texts;
      deltas_read = λ s h texts. c.messages_read_back.ensures.delta_texts w.label s label_text h texts;
      summaries_read = λ m h. c.summaries_read_back.ensures.text w.label m label_text h;
      ascending = c.summaries_read_back.ensures.ascending;
      news = λ t m q e h. ((c.deltas_are_joined.ensures.news t m q e).0 h).0;
    } in
    let taking : TakingLaws w = record {
      deltas = c.deltas_are_joined.ensures.whole;
      read = c.valid_messages_are_read.ensures.read (texts_of schema) w.label;
      one = c.inputs_have_one_outcome.ensures.one stated.0 schema stated.1;
    } in
    worlds_keep w stores commands sending taking
