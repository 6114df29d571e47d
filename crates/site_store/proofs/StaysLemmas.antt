-- If a stored entry stays, the ancestor cache of a store stays valid.
use Rattle.std.proofs.Common.{◌≡◌, ◌∙◌, Option, Some, None, ap, sym, subst, inl, inr}
use Rattle.std.specs.Prelude.{◌⊎◌, Result, Ok, Err, OnOk, OnErr, option_and_then}
use Rattle.std.specs.Option.{IfSome}
use Rattle.values.specs.declared.entity_uid.EntityUid.{EntityUid}
use Rattle.values.specs.Names.{uid_cmp, uid_cmp-IsTotalOrder}
use Rattle.ancestor_closure.specs.ancestor_search.Hierarchy.{Parents}
use Rattle.scope_index.specs.policy_grammar.declared.policy.Policy.{Policy}
use Rattle.ancestor_closure.specs.declared.ancestor_cache.AncestorCache.{AncestorCache}
use Rattle.ancestor_closure.specs.CacheOf.{IsCacheOf}
use Rattle.site_meaning.specs.schema.Schemas.{StatedSchema}
use Rattle.site_meaning.specs.entity_data.declared.entity.Entity.{Entity}
use Rattle.stamped_store.specs.declared.entry.Entry.{Entry}
use Rattle.stamped_store.specs.EntryOrder.{greater}
use Rattle.stamped_store.specs.Store.{StoreEntries, concrete_entries}
use Rattle.stamped_store.specs.JoinMaps.{value_at, taken}
use Rattle.site_meaning.specs.StoreMeaning.{entity_data_under}
use Rattle.site_meaning.specs.TextsRead.{entity_at, entity_read}
use Rattle.site_store.specs.Winning.{StoredWins}
use Rattle.site_store.proofs.Unchanged.{finds_the_same}
use Rattle.site_store.specs.CacheValidity.{EntityEntries, edges_under, AreAncestorsOf}

same_entities : (es : EntityEntries) (uid : EntityUid) (entry : Entry Entity) → StoredWins (value_at uid_cmp es uid) entry
    → (q : EntityUid) → entity_at (taken uid_cmp greater es uid entry) q ≡ entity_at es q
same_entities es uid entry (e, there, same) q =
    ap (option_and_then (λ e. entity_read e.body)) (finds_the_same uid_cmp-IsTotalOrder greater es uid entry e there same q)

same_edges : (schema : StatedSchema) (es : EntityEntries) (uid : EntityUid) (entry : Entry Entity)
    → StoredWins (value_at uid_cmp es uid) entry → edges_under schema (taken uid_cmp greater es uid entry) ≡ edges_under schema es
same_edges schema es uid entry stays =
    let one : entity_at (taken uid_cmp greater es uid entry) ≡ entity_at es = λ i q. same_entities es uid entry stays q i in
    ap (λ (f : EntityUid → Option Entity). (entity_data_under schema f).parents) one

edges_after : {T E : Type 0} (schema : StatedSchema) (r : Result T E) (new old : StoreEntries Policy Entity) (uid : EntityUid) (entry : Entry Entity)
    → OnOk r (new ≡ concrete_entries old.policies (taken uid_cmp greater old.entities uid entry)) → OnErr r (new ≡ old)
    → StoredWins (value_at uid_cmp old.entities uid) entry → edges_under schema new.entities ≡ edges_under schema old.entities
edges_after schema (Ok t) new old uid entry is none stays =
    ap (λ k. edges_under schema k.entities) is ∙ same_edges schema old.entities uid entry stays
edges_after schema (Err e) new old uid entry none is stays = ap (λ k. edges_under schema k.entities) is

pub ancestors_stay : {T E : Type 0} (schema : StatedSchema) (r : Result T E) (new old : StoreEntries Policy Entity) (uid : EntityUid) (entry : Entry Entity)
    → OnOk r (new ≡ concrete_entries old.policies (taken uid_cmp greater old.entities uid entry)) → OnErr r (new ≡ old)
    → (o : Option AncestorCache) → (o ≡ None) ⊎ StoredWins (value_at uid_cmp old.entities uid) entry
    → IfSome o (AreAncestorsOf schema old.entities) → IfSome o (AreAncestorsOf schema new.entities)
ancestors_stay schema r new old uid entry ok err None why h = tt
ancestors_stay schema r new old uid entry ok err (Some held) (inl none) h = absurd (cc (none))
ancestors_stay schema r new old uid entry ok err (Some held) (inr stays) h =
    subst (λ (p : Parents). IsCacheOf p held) (sym (edges_after schema r new old uid entry ok err stays)) h
