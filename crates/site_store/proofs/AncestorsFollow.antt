-- If the entry of one entity changed, the edges of every other entity and of every action stay.
use Rattle.std.proofs.Common.{◌≡◌, Option, Some, None, true, false, Equal, refl, ap, sym, subst}
use Rattle.std.specs.Prelude.{◌≢◌, IfSome, option_and_then, option_map}
use Rattle.std.specs.Ordering.{is_eq}
use Rattle.std.specs.Cmp.{tied_back}
use Rattle.values.specs.declared.entity_uid.EntityUid.{EntityUid}
use Rattle.values.specs.Names.{uid_cmp, uid_cmp-IsTotalOrder}
use Rattle.ancestor_closure.specs.Lists.{AgreeBut}
use Rattle.ancestor_closure.specs.declared.ancestor_cache.AncestorCache.{AncestorCache}
use Rattle.site_meaning.specs.schema.Schemas.{StatedSchema}
use Rattle.site_meaning.specs.entity_data.declared.entity.Entity.{Entity}
use Rattle.site_meaning.specs.entity_data.Entities.{kept_parents, action_or}
use Rattle.stamped_store.specs.declared.entry.Entry.{Entry}
use Rattle.stamped_store.specs.EntryOrder.{greater}
use Rattle.stamped_store.specs.JoinMaps.{taken}
use Rattle.stamped_store.proofs.Points.{others_kept}
use Rattle.site_meaning.specs.StoreMeaning.{data_of}
use Rattle.site_meaning.specs.TextsRead.{entity_at, entity_read}
use Rattle.site_store.specs.CacheValidity.{EntityEntries, edges_under, AreAncestorsOf}
use Rattle.site_store.specs.inner.Updating.{AreAncestorsBut}

not_tied : (uid q : EntityUid) → is_eq (uid_cmp uid q) ≡ false → uid_cmp q uid ≢ Equal
not_tied uid q apart same =
    let tied : is_eq (uid_cmp uid q) ≡ true = ap is_eq (tied_back uid_cmp-IsTotalOrder q uid same) in
    absurd (cc)

-- under every other uid there is the same entity
pub entities_stay : (es : EntityEntries) (uid : EntityUid) (entry : Entry Entity) (q : EntityUid) → is_eq (uid_cmp uid q) ≡ false
    → entity_at es q ≡ entity_at (taken uid_cmp greater es uid entry) q
entities_stay es uid entry q apart = sym (ap (option_and_then (λ e. entity_read e.body))
    (others_kept uid_cmp-IsTotalOrder greater es (taken uid_cmp greater es uid entry) uid entry refl q (not_tied uid q apart)))

pub edges_stay : (schema : StatedSchema) (es : EntityEntries) (uid : EntityUid) (entry : Entry Entity)
    → AgreeBut uid (edges_under schema es) (edges_under schema (taken uid_cmp greater es uid entry))
edges_stay schema es uid entry q apart =
    ap (λ o. kept_parents (action_or (schema.member_of q) (option_map data_of o))) (entities_stay es uid entry q apart)

-- so a valid cache is stale at most at the one entity
pub right_elsewhere : (schema : StatedSchema) (es es' : EntityEntries) (uid : EntityUid) (entry : Entry Entity)
    → es' ≡ taken uid_cmp greater es uid entry → (name : EntityUid) → name ≡ uid → (o : Option AncestorCache)
    → IfSome o (AreAncestorsOf schema es) → IfSome o (AreAncestorsBut name schema es')
right_elsewhere schema es es' uid entry took name is None h = tt
right_elsewhere schema es es' uid entry took name is (Some held) h =
    subst (λ n. AreAncestorsBut n schema es' held) (sym is) (record {
      before = edges_under schema es;
      kept = h;
      others = subst (λ l. AgreeBut uid (edges_under schema es) (edges_under schema l)) (sym took) (edges_stay schema es uid entry);
    })
