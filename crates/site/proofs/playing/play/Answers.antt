use Rattle.std.proofs.Common.{◌≡◌, ◌+◌, ◌++◌, ◌∷◌, [], sym, ap, ◌∙◌, subst, List, take, arith}
use Rattle.std.proofs.lemmas.List.{take_more}
use Rattle.site.specs.declared.event.Event.{Event}
use Rattle.site.specs.declared.event.EventReply.{EventReply}
use Rattle.site.specs.SystemViews.{IsRunTo}
use Rattle.site.proofs.Played.{played_next}
use Rattle.site.proofs.playing.play.Goals as goal

pub loop-event-preserved : goal.loop-event-preserved
loop-event-preserved c =
    let events = c.args.events.now in
    let event = c.event-item.result in
    let before = c.loop-event in
    let sites = c.play_one.new.sites.items in
    let messages = c.play_one.new.messages.items in
    let summaries = c.play_one.new.summaries.items in
    let first : take (before.event-index + 1) events ≡ take before.event-index events ++ event ∷ [] =
    take_more events before.event-index event (omega arith)
    ∙ ap (λ (x : Event). take before.event-index events ++ x ∷ []) (sym c.event-item.is) in
    record {
      played = λ schema names shown.
          subst (λ (es : List Event). IsRunTo schema names es c.push.new.self.items sites messages summaries) (sym first)
          (subst (λ (rs : List EventReply). IsRunTo schema names (take before.event-index events ++ event ∷ []) rs sites messages summaries) (sym {A = List EventReply} c.in_ok-push.ensures.items)
          (played_next schema names (take before.event-index events) before.replies.items before.sites.items sites before.messages.items messages before.summaries.items summaries
          event c.in_ok-play_one.field-0 (before.invariant.played schema names shown) c.in_ok-play_one.ensures));
    }
