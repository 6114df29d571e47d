use Rattle.std.proofs.Common.{◌++◌, ◌∷◌, [], refl, sym, ap, ◌∙◌, arith, length-append, append_assoc}
use Rattle.std.proofs.lemmas.List.{map-append}
use Rattle.stamped_store.specs.Store.{abstract_store, store_of, updates}
use Rattle.sync_messages.specs.sync_format.Updates.{plain_update, plain_updates}
use Rattle.program_exchanges.proofs.StoreLemmas.{stores_none, stores_more}
use Rattle.program_exchanges.proofs.joining.take_all.Goals as goal

pub loop-update-init : goal.loop-update-init
loop-update-init c = record {
  can_next = tt;
  is_finite = tt;
  rest = c.into_iter-update-iterator.ensures.into_iter_gives.0;
  count = refl;
  stored = stores_none c.updates_have_one_store.ensures.own (abstract_store c.args.store.now);
}

pub loop-update-preserved : goal.loop-update-preserved
loop-update-preserved c =
    let i = c.loop-update.invariant in
    let s = abstract_store c.args.store.now in
    let yielded = c.loop-update.yielded in
    let item = c.in-Some.update in
    let rest = c.next.new.self.rest.items in
    let steps = c.in-Some.ensures.steps.0 in
    record {
      can_next = tt;
      is_finite = tt;
      rest = append_assoc yielded (item ∷ []) rest ∙ ap (λ us. yielded ++ us) (sym steps) ∙ i.rest;
      count = omega (arith, length-append yielded (item ∷ []));
      stored = stores_more c.updates_have_one_store.ensures.grouped s (abstract_store c.loop-update.store) (abstract_store c.take_one.new.store) (plain_updates yielded) (plain_update item ∷ []) i.stored c.in_ok-take_one.ensures
          ∙ ap (λ us. store_of (updates s ++ us)) (sym (map-append plain_update yielded (item ∷ [])));
    }
