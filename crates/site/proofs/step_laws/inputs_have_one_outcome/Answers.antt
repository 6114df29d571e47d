use Rattle.site_store.specs.schema.Views.{schema_view}
use Rattle.site.proofs.RunLemmas.{texts_of, texts_are_one}
use Rattle.site.proofs.OneAnswered.{MessagesAreOne}
use Rattle.site.proofs.OneOutcome.{LawsOfOne, one_step}
use Rattle.site.proofs.SomeOutcome.{LawsOfStores, LawsOfSome, some_step}
use Rattle.site.proofs.step_laws.inputs_have_one_outcome.Goals as goal

pub returns-clause-one : goal.returns-clause-one
returns-clause-one c = λ bytes schema stated n s i r q t u h k.
    let w = schema_view schema in
    let one = texts_are_one w c.stored_texts_have_one_reading.ensures.policies c.stored_texts_have_one_reading.ensures.entities in
    let messages : MessagesAreOne w = record {
      updates = c.messages_have_one_outcome.ensures.updates (texts_of schema) one w.label;
      fault = c.messages_have_one_outcome.ensures.fault (texts_of schema) one w.label;
      apart = c.messages_have_one_outcome.ensures.apart (texts_of schema) one w.label;
    } in
    let law : LawsOfOne w = record {
      texts = c.texts_have_one_reading.ensures.policy;
      checks = c.policies_have_one_outcome.ensures.one;
      apart = c.policies_have_one_outcome.ensures.apart;
      one_world = λ m es fs. c.stores_have_one_reading.ensures.entities (texts_of schema) m es fs
          (λ uid text p x f g. (c.stored_texts_have_one_reading.ensures.entities w uid text).0.value p x f g);
      messages = messages;
      one_request = c.requests_have_one_outcome.ensures.one_request;
      asked_or_not = c.requests_have_one_outcome.ensures.not_both;
      one_refusal = c.requests_have_one_outcome.ensures.one_refusal;
      one_answer = λ m p a b. c.requests_have_one_answer.ensures.one (texts_of schema) bytes w m p a b stated
          (λ name text p x f g. (c.stored_texts_have_one_reading.ensures.policies w text).0.value p x f g)
          (λ uid text p x f g. (c.stored_texts_have_one_reading.ensures.entities w uid text).0.value p x f g);
    } in
    one_step w law n s i r q t u h.step h.whole k.step k.whole

pub returns-clause-some : goal.returns-clause-some
returns-clause-some c = λ bytes schema stated n s i held.
    let w = schema_view schema in
    let one = texts_are_one w c.stored_texts_have_one_reading.ensures.policies c.stored_texts_have_one_reading.ensures.entities in
    let stores : LawsOfStores = record {
      greatest = c.updates_have_one_store.ensures.greatest;
      own = c.updates_have_one_store.ensures.own;
      reached = c.stamps_are_issued.ensures.reached;
      entities = c.contents_are_the_texts.ensures.entities;
    } in
    let law : LawsOfSome w = record {
      checks = c.policies_have_one_outcome.ensures.one;
      apart = c.policies_have_one_outcome.ensures.apart;
      texts = c.stored_texts_have_one_reading.ensures.policies;
      stores = stores;
      bytes = bytes;
      is_schema = stated;
      paths = c.paths_are_decided.ensures;
      messages = λ text. c.messages_have_one_outcome.ensures.some (texts_of schema) one
          (λ id text. (c.stored_texts_have_one_reading.ensures.policies w text).1)
          (λ uid text. (c.stored_texts_have_one_reading.ensures.entities w uid text).1) w.label text;
      asks = c.requests_have_one_outcome.ensures.some;
      answers = λ m ps es q a b. c.requests_have_one_answer.ensures.some (texts_of schema) bytes w m ps es q stated a b;
    } in
    some_step w law n s i held
