use Rattle.std.proofs.Common.{◌++◌, ◌∷◌, [], sym, ap, ◌∙◌, subst, refl, List, arith, length-append, append_assoc}
use Rattle.std.proofs.lemmas.List.{map-append}
use Rattle.std.specs.List.{AllByRecursion}
use Rattle.site_store.specs.policy_grammar.declared.policy.Policy.{Policy}
use Rattle.site_store.specs.entity_data.declared.entity.Entity.{Entity}
use Rattle.site_store.specs.schema.SchemaEntries.{SchemaEntries}
use Rattle.site_store.specs.schema.Views.{schema_view}
use Rattle.site_store.specs.stamped_store.Store.{store_of, updates}
use Rattle.sync_messages.specs.sync_format.declared.update.Update.{Update}
use Rattle.sync_messages.specs.sync_format.Updates.{plain_update, plain_updates}
use Rattle.site.specs.Admitted.{IsValidUnder}
use Rattle.site.specs.SiteViews.{schema_of, store_in}
use Rattle.site.proofs.Taking.{stores_none, stores_more, stores_first}
use Rattle.site.proofs.site.Site.take_all.Goals as goal

pub loop-update-init : goal.loop-update-init
loop-update-init c =
    let rest = c.into_iter-update-iterator.ensures.into_iter_gives.0 in
    record {
      can_next = tt;
      is_finite = tt;
      rest = rest;
      count = refl;
      same = (refl, refl);
      valid = subst (λ (us : List (Update Policy Entity)). AllByRecursion (IsValidUnder (schema_of c.args.self.now)) us) (sym rest) c.requires;
      stored = stores_none c.updates_have_one_store.ensures.own (store_in c.args.self.now);
    }

pub take_one-requires : goal.take_one-requires
take_one-requires c =
    let i = c.loop-update.invariant in
    subst (λ (k : SchemaEntries). IsValidUnder (schema_view k) c.in-Some.update) (sym i.same.0)
    (subst (λ (us : List (Update Policy Entity)). AllByRecursion (IsValidUnder (schema_of c.args.self.now)) us) c.in-Some.ensures.steps.0 i.valid).0

pub loop-update-preserved : goal.loop-update-preserved
loop-update-preserved c =
    let i = c.loop-update.invariant in
    let s = store_in c.args.self.now in
    let yielded = c.loop-update.yielded in
    let item = c.in-Some.update in
    let rest = c.next.new.self.rest.items in
    let steps = c.in-Some.ensures.steps.0 in
    record {
      can_next = tt;
      is_finite = tt;
      rest = append_assoc yielded (item ∷ []) rest ∙ ap (λ us. yielded ++ us) (sym steps) ∙ i.rest;
      count = omega (arith, length-append yielded (item ∷ []));
      same = (c.take_one.ensures.same.0 ∙ i.same.0, c.take_one.ensures.same.1 ∙ i.same.1);
      valid = (subst (λ (us : List (Update Policy Entity)). AllByRecursion (IsValidUnder (schema_of c.args.self.now)) us) steps i.valid).1;
      stored = stores_more c.updates_have_one_store.ensures.grouped s (store_in c.loop-update.self) (store_in c.take_one.new.self) (plain_updates yielded) (plain_update item ∷ []) i.stored (c.if-not-take_one.ensures.taken refl)
          ∙ ap (λ us. store_of (updates s ++ us)) (sym (map-append plain_update yielded (item ∷ [])));
    }

pub returns-then-not-take_one-clause-takes : goal.returns-then-not-take_one-clause-takes
returns-then-not-take_one-clause-takes c =
    let i = c.loop-update.invariant in
    stores_first plain_update (store_in c.args.self.now) (store_in c.take_one.new.self) c.loop-update.taken c.loop-update.yielded c.next.new.self.rest.items c.args.updates.items c.in-Some.update
    (ap (λ us. c.loop-update.yielded ++ us) (sym c.in-Some.ensures.steps.0) ∙ i.rest) i.count
    (c.if-not-take_one.ensures.refused refl ∙ i.stored)
