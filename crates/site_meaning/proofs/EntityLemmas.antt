-- The parsed entities of a store are those of its meaning, and there is one at each uid.
use Rattle.std.specs.Prelude.{◌≡◌, ◌↔◌, ℕ, List, [], ◌∷◌, ◌++◌, Option, Some, None, true, false, cond, refl}
use Rattle.std.specs.Prelude.{option_and_then, option_map}
use Rattle.std.proofs.Common.{sym, ap, ◌∙◌, subst}
use Rattle.std.specs.Ordering.{is_eq}
use Rattle.std.specs.FinMap.{get-entries}
use Rattle.std.specs.FinMap.Entries.{find}
use Rattle.std.specs.declared.alloc.Global.{Global}
use Rattle.std.specs.declared.cmp.Ordering.{Ordering}
use Rattle.std.specs.declared.cmp.Ordering.TheVariants.{Less, Equal, Greater}
use Rattle.std.specs.declared.string.String.{String}
use Rattle.values.specs.declared.entity_uid.EntityUid.{EntityUid}
use Rattle.values.specs.Names.{name_cmp, uid_cmp, uid_cmp-IsAntisymmetric}
use Rattle.entity_hierarchy.specs.policy_grammar.declared.policy.Policy.{Policy}
use Rattle.entity_hierarchy.specs.entity_data.declared.entity.Entity.{Entity}
use Rattle.stamped_store.specs.declared.entry.Entry.{Entry}
use Rattle.stamped_store.specs.declared.entry.ReadText.{ReadText}
use Rattle.stamped_store.specs.EntryOrder.{PlainEntry, plain_entry, body_bytes}
use Rattle.stamped_store.specs.Abstraction.{abstract_entries}
use Rattle.stamped_store.specs.JoinMaps.{value_at}
use Rattle.stamped_store.specs.Store.{Store, Update, StoreEntries, updates, abstract_store, abstract_updates, id_name}
use Rattle.stamped_store.specs.Store.{entity_name}
use Rattle.stamped_store.specs.Contents.{text_under}
use Rattle.stamped_store.specs.Reading.{AllNamed, IsBodyRead, IsEntryRead}
use Rattle.site_meaning.specs.StoreMeaning.{IsReadFrom, AreEntities, HaveOneReading}
use Rattle.site_meaning.specs.TextsRead.{entity_read, entity_at}

equal_of : (r : Ordering) → is_eq r ≡ true → r ≡ Equal
equal_of Less h = absurd (cc)
equal_of Equal h = refl
equal_of Greater h = absurd (cc)

-- ---- the text under an entity's name is that of the entry kept under its uid
past_policies : (ps : List (String Global × Entry Policy)) (us : List Update) (uid : EntityUid)
    → find name_cmp (entity_name uid) (abstract_entries id_name ps ++ us) ≡ find name_cmp (entity_name uid) us
past_policies [] us uid = refl
past_policies (p ∷ ps) us uid = past_policies ps us uid

found_at : (es : List (EntityUid × Entry Entity)) (uid : EntityUid)
    → find name_cmp (entity_name uid) (abstract_entries entity_name es) ≡ option_map plain_entry (value_at uid_cmp es uid)
found_at [] uid = refl
found_at (e ∷ es) uid =
    elim (is_eq (uid_cmp uid e.0)) as (λ b. cond b (Some (plain_entry e.1)) (find name_cmp (entity_name uid) (abstract_entries entity_name es)) ≡ option_map plain_entry (cond b (Some e.1) (value_at uid_cmp es uid))) [
      | true ↦ refl
      | false ↦ found_at es uid
    ]

text_kept : (k : StoreEntries Policy Entity) → updates (abstract_store k) ≡ abstract_updates k → (uid : EntityUid)
    → text_under (abstract_store k) (entity_name uid) ≡ option_and_then (λ (e : PlainEntry). e.body) (option_map plain_entry (value_at uid_cmp k.entities uid))
text_kept k in_order uid = ap (option_and_then (λ (e : PlainEntry). e.body))
    (get-entries (abstract_store k) (entity_name uid)
    ∙ ap (find name_cmp (entity_name uid)) in_order
    ∙ past_policies k.policies (abstract_entries entity_name k.entities) uid
    ∙ found_at k.entities uid)

-- ---- what stands beside the texts
module _ (Reads : EntityUid → List ℕ → Entity → Type 0) where
  body_read : (uid : EntityUid) (b : Option (ReadText Entity)) → IsBodyRead (Reads uid) b
      → IsReadFrom (Reads uid) (body_bytes b) (entity_read b)
  body_read uid None h = tt
  body_read uid (Some t) h = h

  all_read : (es : List (EntityUid × Entry Entity)) → AllNamed (λ uid. uid) (λ uid. IsEntryRead (Reads uid)) es → (uid : EntityUid)
      → IsReadFrom (Reads uid) (option_and_then (λ (e : PlainEntry). e.body) (option_map plain_entry (value_at uid_cmp es uid))) (entity_at es uid)
  all_read [] h uid = tt
  all_read (e ∷ es) h uid =
      elim (is_eq (uid_cmp uid e.0)) as (λ b. is_eq (uid_cmp uid e.0) ≡ b
      → IsReadFrom (Reads uid) (option_and_then (λ (x : PlainEntry). x.body) (option_map plain_entry (cond b (Some e.1) (value_at uid_cmp es uid))))
      (option_and_then (λ (x : Entry Entity). entity_read x.body) (cond b (Some e.1) (value_at uid_cmp es uid)))) [
        | true ↦ λ tied.
            let is : uid ≡ e.0 = uid_cmp-IsAntisymmetric uid e.0 (equal_of (uid_cmp uid e.0) tied) in
            subst (λ (u : EntityUid). IsReadFrom (Reads u) (body_bytes e.1.body) (entity_read e.1.body)) (sym is) (body_read e.0 e.1.body h.0)
        | false ↦ λ apart. all_read es h.1 uid
      ] refl

  pub entities_are : (k : StoreEntries Policy Entity) → AllNamed (λ uid. uid) (λ uid. IsEntryRead (Reads uid)) k.entities
      → updates (abstract_store k) ≡ abstract_updates k → AreEntities Reads (abstract_store k) (entity_at k.entities)
  entities_are k h in_order uid =
      subst (λ (b : Option (List ℕ)). IsReadFrom (Reads uid) b (entity_at k.entities uid)) (sym (text_kept k in_order uid)) (all_read k.entities h uid)

-- ---- one at each uid, and exactly those with a text
module _ (Reads : List ℕ → Entity → Type 0) (one : (text : List ℕ) (x y : Entity) → Reads text x → Reads text y → x ≡ y) where
  one_from : (b : Option (List ℕ)) (x y : Option Entity) → IsReadFrom Reads b x → IsReadFrom Reads b y → x ≡ y
  one_from None None None h k = refl
  one_from None None (Some y) h k = absurd k
  one_from None (Some x) y h k = absurd h
  one_from (Some t) None y h k = absurd h
  one_from (Some t) (Some x) None h k = absurd k
  one_from (Some t) (Some x) (Some y) h k = ap Some (one t x y h k)

  into : (b : Option (List ℕ)) (x : Option Entity) → IsReadFrom Reads b x → (e : Entity) (text : List ℕ) → b ≡ Some text → Reads text e → x ≡ Some e
  into b x h e text is r = one_from (Some text) x (Some e) (subst (λ c. IsReadFrom Reads c x) is h) r

out_of : (Reads : List ℕ → Entity → Type 0) (b : Option (List ℕ)) (x : Option Entity) → IsReadFrom Reads b x → (e : Entity) → x ≡ Some e
    → (text : List ℕ) × (b ≡ Some text) × Reads text e
out_of Reads None x h e is = absurd (subst (λ (y : Option Entity). IsReadFrom Reads None y) is h)
out_of Reads (Some text) x h e is = (text, refl, subst (λ (y : Option Entity). IsReadFrom Reads (Some text) y) is h)

module _ (Reads : EntityUid → List ℕ → Entity → Type 0) (one : HaveOneReading Reads) where
  pub one_entities : (s : Store) (es fs : EntityUid → Option Entity) → AreEntities Reads s es → AreEntities Reads s fs → es ≡ fs
  one_entities s es fs h k = λ i uid. one_from (Reads uid) (one uid) (text_under s (entity_name uid)) (es uid) (fs uid) (h uid) (k uid) i

  pub entity_said : (s : Store) (es : EntityUid → Option Entity) → AreEntities Reads s es → (uid : EntityUid) (e : Entity)
      → (es uid ≡ Some e) ↔ ((text : List ℕ) × (text_under s (entity_name uid) ≡ Some text) × Reads uid text e)
  entity_said s es h uid e = (
    (λ is. out_of (Reads uid) (text_under s (entity_name uid)) (es uid) (h uid) e is),
    (λ r. into (Reads uid) (one uid) (text_under s (entity_name uid)) (es uid) (h uid) e r.0 r.1 r.2),
  )
