use Rattle.std.proofs.Common.{ap, subst}
use Rattle.site_store.specs.stamped_store.Store.{Store}
use Rattle.site_store.specs.schema.Views.{schema_view}
use Rattle.sync_messages.specs.sync_format.Messages.{state_text}
use Rattle.site_meaning.specs.StoreMeaning.{IsAnswerOver}
use Rattle.site.specs.Admitted.{IsPolicyUnder, IsEntityUnder}
use Rattle.site.proofs.RunLemmas.{texts_of, same_stores}
use Rattle.site.proofs.step_laws.equal_updates_leave_equal_stores.Goals as goal

pub returns-clause-stores : goal.returns-clause-stores
returns-clause-stores c = λ schema us vs s t h k same.
    same_stores (record { own = c.updates_have_one_store.ensures.own; grouped = c.updates_have_one_store.ensures.grouped })
    schema us vs s t h k (c.updates_have_one_store.ensures.same_updates us vs same)

pub returns-clause-states : goal.returns-clause-states
returns-clause-states c = λ schema us vs s t h k same. ap (λ x. state_text schema.label x)
    (same_stores (record { own = c.updates_have_one_store.ensures.own; grouped = c.updates_have_one_store.ensures.grouped })
    schema us vs s t h k (c.updates_have_one_store.ensures.same_updates us vs same))

pub returns-clause-answers : goal.returns-clause-answers
returns-clause-answers c = λ bytes schema us vs s t q a b stated h k same x y.
    let w = schema_view schema in
    let is = same_stores (record { own = c.updates_have_one_store.ensures.own; grouped = c.updates_have_one_store.ensures.grouped })
    w us vs s t h k (c.updates_have_one_store.ensures.same_updates us vs same) in
    c.requests_have_one_answer.ensures.one (texts_of schema) bytes w t q a b stated
    (λ name text p r f g. (c.stored_texts_have_one_reading.ensures.policies w text).0.value p r f g)
    (λ uid text p r f g. (c.stored_texts_have_one_reading.ensures.entities w uid text).0.value p r f g)
    (subst (λ (m : Store). IsAnswerOver (IsPolicyUnder w) (IsEntityUnder w) w m q a) is x) y
