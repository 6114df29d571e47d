use Rattle.std.proofs.Common.{◌≡◌, ◌<◌, ◌+◌, ◌++◌, ℕ, List, [], ◌∷◌, drop, take, true, false, length, refl, sym, ◌∙◌, ap, subst}
use Rattle.std.proofs.lemmas.Result.{err_from_is_err_and}
use Rattle.journal.specs.declared.rounds.Exchange.{Exchange}
use Rattle.journal.specs.Events as event
use Rattle.journal.specs.Exchanges.{replies_in}
use Rattle.journal.specs.Rounds.{AreReplies}
use Rattle.journal.proofs.Calls.{AreReplies-append, failed_reply, one_reply}
use Rattle.journal.proofs.Exchanged.{one_and_rest, one_more}
use Rattle.journal.proofs.Passing.{Runs-append}
use Rattle.journal.proofs.rounds.send_all.Goals as goal

pub loop-exchange-preserved : goal.loop-exchange-preserved
loop-exchange-preserved g c =
    let vs = c.args.round.now in
    let i = c.loop-exchange.exchange-index in
    let v = c.exchange-item.result in
    let text = c.deref.result.now in
    let xs = c.loop-exchange.invariant.0 in
    let ys = event.reply text true ∷ [] in
    let within : i < length vs = c.loop-exchange-test.true in
    let replies : replies_in (take i vs) ++ text ∷ [] ≡ replies_in (take (i + 1) vs) =
    ap (λ (r : List ℕ). replies_in (take i vs) ++ r ∷ []) c.deref.ensures.value ∙ sym (one_more (λ (x : Exchange). x.reply.items) vs i v within c.exchange-item.is) in (
      xs ++ ys,
      Runs-append g.M.Device.does xs ys c.args.machine.now c.loop-exchange.machine c.reply.new.self c.loop-exchange.invariant.1
          (c.reply.new.self, c.in_ok-reply.ensures, refl),
      subst (λ (rs : List (List ℕ)). AreReplies rs (xs ++ ys) true) replies
          (AreReplies-append (replies_in (take i vs)) (text ∷ []) xs ys true c.loop-exchange.invariant.2 (one_reply text)),
    )

pub returns-in_err-reply : goal.returns-in_err-reply
returns-in_err-reply g c =
    let p = err_from_is_err_and c.from_residual.result c.from_residual.ensures.1 in
    let vs = c.args.round.now in
    let i = c.loop-exchange.exchange-index in
    let v = c.exchange-item.result in
    let text = c.deref.result.now in
    let rest = replies_in (drop (i + 1) vs) in
    let xs = c.loop-exchange.invariant.0 in
    let ys = event.reply text false ∷ [] in
    let within : i < length vs = c.loop-exchange-test.true in
    let replies : replies_in (take i vs) ++ text ∷ rest ≡ replies_in vs =
    ap (λ (r : List ℕ). replies_in (take i vs) ++ r ∷ rest) c.deref.ensures.value ∙ sym (one_and_rest (λ (x : Exchange). x.reply.items) vs i v within c.exchange-item.is) in
    rw p.1 (
      xs ++ ys,
      Runs-append g.M.Device.does xs ys c.args.machine.now c.loop-exchange.machine c.reply.new.self c.loop-exchange.invariant.1
          (c.reply.new.self, c.in_err-reply.ensures, refl),
      subst (λ (rs : List (List ℕ)). AreReplies rs (xs ++ ys) false) replies
          (AreReplies-append (replies_in (take i vs)) (text ∷ rest) xs ys false c.loop-exchange.invariant.2 (failed_reply text rest)),
    )
