-- Updates that are applied one after the other leave the store of all of them, and its texts may be read.
use Rattle.std.specs.Prelude.{◌≡◌, ◌++◌, ◌∷◌, ◌<◌, [], ℕ, List, Option, Some, None, map, length, take, string_bytes}
use Rattle.std.proofs.Common.{refl, sym, ap, ◌∙◌, subst, arith, append_assoc, append-nil, length-append}
use Rattle.std.proofs.lemmas.List.{length-map}
use Rattle.std.specs.declared.alloc.Global.{Global}
use Rattle.std.specs.declared.string.String.{String}
use Rattle.values.specs.declared.entity_uid.EntityUid.{EntityUid}
use Rattle.site_store.specs.policy_grammar.declared.policy.Policy.{Policy}
use Rattle.site_store.specs.schema.Schemas.{StatedSchema}
use Rattle.site_store.specs.entity_data.declared.entity.Entity.{Entity}
use Rattle.site_store.specs.stamped_store.declared.entry.Entry.{Entry}
use Rattle.site_store.specs.stamped_store.declared.entry.ReadText.{ReadText}
use Rattle.site_store.specs.stamped_store.EntryOrder.{body_bytes}
use Rattle.site_store.specs.stamped_store.Reading.{AllNamed, IsBodyRead, IsEntryRead}
use Rattle.site_store.specs.stamped_store.Abstraction.{abstract_entries}
use Rattle.site_store.specs.stamped_store.Store.{Store, Update, StoreEntries, updates, store_of, abstract_store}
use Rattle.site_store.specs.stamped_store.Store.{abstract_updates, id_name, entity_name}
use Rattle.sync_messages.specs.sync_format.Updates.{AreValid, IsBodyReadable}
use Rattle.site.specs.Admitted.{IsPolicyUnder, IsEntityUnder}
use Rattle.site.specs.SiteViews.{IsSite, IsValidStore}

pub stores_none : ((s : Store) → store_of (updates s) ≡ s) → (s : Store) → s ≡ store_of (updates s ++ [])
stores_none own s = sym (own s) ∙ ap store_of (sym (append-nil (updates s)))

pub stores_more : ((us vs : List Update) → store_of (updates (store_of us) ++ vs) ≡ store_of (us ++ vs))
    → (s m t : Store) (us vs : List Update) → m ≡ store_of (updates s ++ us) → t ≡ store_of (updates m ++ vs)
    → t ≡ store_of (updates s ++ (us ++ vs))
stores_more grouped s m t us vs h k =
    k ∙ ap (λ x. store_of (updates x ++ vs)) h
    ∙ grouped (updates s ++ us) vs
    ∙ ap store_of (append_assoc (updates s) us vs)

-- if the next one is not applied, exactly the first ones are
first : {A B : Type 0} (f : A → B) (ys zs : List A) → take (length ys) (map f (ys ++ zs)) ≡ map f ys
first f [] zs = refl
first f (y ∷ ys) zs = ap (λ bs. f y ∷ bs) (first f ys zs)

pub stores_first : {A : Type 0} (see : A → Update) (s t : Store) (k : ℕ) (ys zs us : List A) (z : A) → ys ++ z ∷ zs ≡ us
    → k ≡ length ys → t ≡ store_of (updates s ++ map see ys)
    → (k < length (map see us)) × (t ≡ store_of (updates s ++ take k (map see us)))
stores_first {A} see s t k ys zs us z all count so =
    subst (λ (vs : List A). (k < length (map see vs)) × (t ≡ store_of (updates s ++ take k (map see vs)))) all
    (subst (λ (n : ℕ). (n < length (map see (ys ++ z ∷ zs))) × (t ≡ store_of (updates s ++ take n (map see (ys ++ z ∷ zs))))) (sym count) (
      omega (arith, length-map (ys ++ z ∷ zs) see, length-append ys (z ∷ zs)),
      so ∙ ap (λ (vs : List Update). store_of (updates s ++ vs)) (sym (first see ys (z ∷ zs))),
    ))

-- ---- what is read from its text may be read
module _ (schema : StatedSchema) where
  body_readable : {P : Type 0} (Reads : List ℕ → P → Type 0) (b : Option (ReadText P)) → IsBodyRead Reads b
      → IsBodyReadable Reads (body_bytes b)
  body_readable Reads None h = tt
  body_readable Reads (Some t) h = (t.read, h)

  policies_valid : (es : List (String Global × Entry Policy))
      → AllNamed string_bytes (λ id. IsEntryRead (IsPolicyUnder schema id)) es
      → AreValid (IsPolicyUnder schema) (IsEntityUnder schema) (abstract_entries id_name es)
  policies_valid [] h = tt
  policies_valid (e ∷ es) h =
      (body_readable (IsPolicyUnder schema (string_bytes e.0)) e.1.body h.0, policies_valid es h.1)

  entities_valid : (es : List (EntityUid × Entry Entity))
      → AllNamed (λ uid. uid) (λ uid. IsEntryRead (IsEntityUnder schema uid)) es
      → AreValid (IsPolicyUnder schema) (IsEntityUnder schema) (abstract_entries entity_name es)
  entities_valid [] h = tt
  entities_valid (e ∷ es) h = (body_readable (IsEntityUnder schema e.0) e.1.body h.0, entities_valid es h.1)

  both_valid : (us vs : List Update) → AreValid (IsPolicyUnder schema) (IsEntityUnder schema) us
      → AreValid (IsPolicyUnder schema) (IsEntityUnder schema) vs
      → AreValid (IsPolicyUnder schema) (IsEntityUnder schema) (us ++ vs)
  both_valid [] vs h k = k
  both_valid (u ∷ us) vs h k = (h.0, both_valid us vs h.1 k)

  pub may_be_held : (name : List ℕ) (k : StoreEntries Policy Entity) → IsSite schema name k
      → updates (abstract_store k) ≡ abstract_updates k → IsValidStore schema (abstract_store k)
  may_be_held name k h in_order = record {
    in_range = h.in_range;
    valid = subst (λ (us : List Update). AreValid (IsPolicyUnder schema) (IsEntityUnder schema) us) (sym in_order)
        (both_valid (abstract_entries id_name k.policies) (abstract_entries entity_name k.entities)
        (policies_valid k.policies h.held.policies) (entities_valid k.entities h.held.entities));
  }
