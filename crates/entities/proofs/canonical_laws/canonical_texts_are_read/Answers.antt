use Rattle.entities.proofs.ReadAgain.{texts_are_json, texts_read_back, texts_are_one}
use Rattle.entities.proofs.canonical_laws.canonical_texts_are_read.Goals as goal

pub returns-clause-json : goal.returns-clause-json
returns-clause-json c = texts_are_json (record {
  utf8 = c.json_texts_are_utf8.ensures;
  ascend = c.json_keys_ascend.ensures;
  back = c.compact_texts_read_back.ensures.back;
  one_text = c.compact_texts_read_back.ensures.one;
  read = c.entities_read_back.ensures.read;
  nests = c.entities_read_back.ensures.nests;
  one_json = c.entities_read_back.ensures.one;
})

pub returns-clause-back : goal.returns-clause-back
returns-clause-back c = texts_read_back (record {
  utf8 = c.json_texts_are_utf8.ensures;
  ascend = c.json_keys_ascend.ensures;
  back = c.compact_texts_read_back.ensures.back;
  one_text = c.compact_texts_read_back.ensures.one;
  read = c.entities_read_back.ensures.read;
  nests = c.entities_read_back.ensures.nests;
  one_json = c.entities_read_back.ensures.one;
})

pub returns-clause-one : goal.returns-clause-one
returns-clause-one c = texts_are_one (record {
  utf8 = c.json_texts_are_utf8.ensures;
  ascend = c.json_keys_ascend.ensures;
  back = c.compact_texts_read_back.ensures.back;
  one_text = c.compact_texts_read_back.ensures.one;
  read = c.entities_read_back.ensures.read;
  nests = c.entities_read_back.ensures.nests;
  one_json = c.entities_read_back.ensures.one;
})
