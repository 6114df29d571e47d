use Rattle.site_meaning.proofs.OneAnswer.{some_answer, one_answer}
use Rattle.site_meaning.proofs.laws.requests_have_one_answer.Goals as goal

pub returns-clause-some : goal.returns-clause-some
returns-clause-some g c = λ r bytes schema s ps es q is_schema.
    some_answer (g.R.Readings.reads_entity r) schema bytes is_schema c.contents_are_the_texts.ensures.entities
    (g.R.Readings.reads_policy r) c.answers_are_lawful.ensures.finite s ps es q

pub returns-clause-one : goal.returns-clause-one
returns-clause-one g c = λ r bytes schema s q a b is_schema one_policy one_entity.
    one_answer (g.R.Readings.reads_entity r) schema bytes is_schema c.contents_are_the_texts.ensures.entities
    (g.R.Readings.reads_policy r) c.answers_are_lawful.ensures.finite one_policy one_entity s q a b
