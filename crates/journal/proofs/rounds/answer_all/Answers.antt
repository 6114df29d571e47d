use Rattle.std.proofs.Common.{◌<◌, ◌++◌, List, [], ◌∷◌, get_or, length, refl, sym, ◌∙◌, ap, subst, append_assoc, arith}
use Rattle.std.proofs.Math.Seq.{map-set_same}
use Rattle.std.proofs.lemmas.List.{append-nil}
use Rattle.stamped_store.specs.Store.{Update}
use Rattle.journal.specs.declared.rounds.Exchange.{Exchange}
use Rattle.journal.specs.Steps.{Chain, Done, updates_of}
use Rattle.journal.proofs.Exchanged.{one_changed}
use Rattle.journal.proofs.SafeRounds.{updates_of-append}
use Rattle.journal.proofs.Survivors.{Chain-append}
use Rattle.journal.proofs.rounds.answer_all.Goals as goal

pub loop-exchange-preserved : goal.loop-exchange-preserved
loop-exchange-preserved g c =
    let vs = c.loop-exchange.round in
    let i = c.loop-exchange.exchange-index in
    let v = c.exchange-item.result in
    let so_far = c.loop-exchange.invariant in
    let done = so_far.answered.0 in
    let us = c.answer.ensures.step.0 in
    let reply = c.answer.new.reply in
    let old : Exchange = get_or vs i v in
    let w : Exchange = record { request = old.request; reply = reply } in
    let d : Done = record { request = c.deref.result.now; applied = us; reply = reply.items } in
    let steps = g.R.Answering.steps (g.R.Replica.setting c.args.replica.now) in
    let s = g.R.Replica.store c.args.replica.now in
    let m = g.R.Replica.store c.loop-exchange.replica in
    let t = g.R.Replica.store c.answer.new.self in
    let within : i < length vs = omega arith in
    let step : steps m d.request us d.reply t = subst (λ x. g.R.Answering.steps x m d.request us d.reply t) so_far.setting c.answer.ensures.step.1 in
    let last : Chain steps (d ∷ []) m t = (t, step, refl) in
    record {
      setting = c.answer.ensures.setting ∙ so_far.setting;
      asked = map-set_same (λ (x : Exchange). x.request.items) vs i w v refl ∙ so_far.asked;
      answered = (
        done ++ d ∷ [],
        one_changed (λ (x : Done). x.request) (λ (x : Exchange). x.request.items) done d vs i w within so_far.answered.1 c.deref.ensures.value,
        one_changed (λ (x : Done). x.reply) (λ (x : Exchange). x.reply.items) done d vs i w within so_far.answered.2 refl,
        Chain-append steps done (d ∷ []) s m t so_far.answered.3 last,
        c.answer.ensures.step.2 ∙ ap (λ (xs : List Update). xs ++ us) so_far.answered.4 ∙ append_assoc (g.R.Replica.unrecorded c.args.replica.now) (updates_of done) us
            ∙ ap (λ (xs : List Update). g.R.Replica.unrecorded c.args.replica.now ++ xs)
            (ap (λ (xs : List Update). updates_of done ++ xs) (sym (append-nil us)) ∙ sym (updates_of-append done (d ∷ []))),
      );
    }
