-- The store that policies and entities show, as they change: its look-ups, what one more entry does, and its counts.
use Rattle.std.specs.Prelude.{◌≡◌, ℕ, ◌+◌, ◌-◌, List, [], ◌∷◌, ◌++◌, length, Option, Some, None, Bool, true, false, refl, cond, max, string_bytes}
use Rattle.std.proofs.Common.{subst, sym, ◌∙◌, ap, append_assoc, append-nil, arith}
use Rattle.std.specs.Option.{option_map}
use Rattle.std.specs.Ordering.{is_eq, eq_by_cmp, nat_cmp}
use Rattle.std.specs.BTreeMap.{insert_entry}
use Rattle.std.specs.String.{string_cmp}
use Rattle.std.specs.Cmp.Lexicographic.{slice_cmp}
use Rattle.std.specs.FinMap.{empty, insert, entries-insert, len-entries, len-empty, get, entries, same_map, get-insert, get-from_entries}
use Rattle.std.specs.FinMap.Entries.{by_order, find, put, find-put, find_tied}
use Rattle.std.specs.declared.alloc.Global.{Global}
use Rattle.std.specs.declared.string.String.{String}
use Rattle.std.specs.declared.cmp.Ordering.{Ordering}
use Rattle.std.specs.declared.cmp.Ordering.TheVariants.{Less, Equal, Greater}
use Rattle.values.specs.declared.name.Name.{Name}
use Rattle.values.specs.declared.name.Name.TheVariants.{Policy, Entity}
use Rattle.values.specs.declared.entity_uid.EntityUid.{EntityUid}
use Rattle.values.specs.Names.{name_cmp, uid_cmp, name_cmp-IsTotalOrder, name_cmp-IsAntisymmetric}
use Rattle.stamped_store.specs.declared.entry.Entry.{Entry}
use Rattle.stamped_store.specs.EntryOrder.{PlainEntry, plain_entry, greater, greater_entry}
use Rattle.stamped_store.specs.JoinMaps.{value_at, value_at_text, taken, all_joined, joined_onto}
use Rattle.stamped_store.specs.Greatest.{greatest_count, max_count}
use Rattle.stamped_store.specs.Abstraction.{abstract_entry, abstract_entries, greatest_kept}
use Rattle.stamped_store.specs.Store.{Update, StoreEntries, concrete_entries, updates, store_of, id_name, entity_name, abstract_updates, abstract_store, IsOrderedAndCounted}
use Rattle.stamped_store.proofs.Greatests.{greatest_count-empty, greatest_count-insert, greatest_count-store_of, max_count-append, entry_order}
use Rattle.stamped_store.proofs.GreatestsBy.{store_of-append, store_of-entries, store_of-push}
use Rattle.stamped_store.proofs.Showing.{plain_entry-onto, shown-insert_entry, find-shown}

-- ---- the parts
or_else : {A : Type 0} → Option A → Option A → Option A
or_else None b = b
or_else (Some a) b = Some a

or_else-none : {A : Type 0} (a : Option A) → or_else a None ≡ a
unfolding or_else
or_else-none None = refl
or_else-none (Some a) = refl

or_else-cond : {A : Type 0} (t : Bool) (w : A) (a b : Option A) → or_else (cond t (Some w) a) b ≡ cond t (Some w) (or_else a b)
unfolding or_else
or_else-cond true w a b = refl
or_else-cond false w a b = refl

find-append : (us vs : List Update) (q : Name) → find name_cmp q (us ++ vs) ≡ or_else (find name_cmp q us) (find name_cmp q vs)
unfolding or_else
find-append [] vs q = refl
find-append (u ∷ us) vs q =
    elim (eq_by_cmp name_cmp q u.0) as (λ t. cond t (Some u.1) (find name_cmp q (us ++ vs)) ≡ or_else (cond t (Some u.1) (find name_cmp q us)) (find name_cmp q vs)) [
      | true ↦ refl
      | false ↦ find-append us vs q
    ]

pub equal_of : (r : Ordering) → is_eq r ≡ true → r ≡ Equal
equal_of Less h = absurd (cc)
equal_of Equal h = refl
equal_of Greater h = absurd (cc)

module _ {P : Type 0} where
  entity_among_policies : (u : EntityUid) (ps : List (String Global × Entry P)) → find name_cmp (Entity u) (abstract_entries id_name ps) ≡ None
  entity_among_policies u [] = refl
  entity_among_policies u (p ∷ ps) = entity_among_policies u ps

  policy_among_entities : (bytes : List ℕ) (es : List (EntityUid × Entry P)) → find name_cmp (Policy bytes) (abstract_entries entity_name es) ≡ None
  policy_among_entities bytes [] = refl
  policy_among_entities bytes (e ∷ es) = policy_among_entities bytes es

  find-policies : (bytes : List ℕ) (ps : List (String Global × Entry P)) → find name_cmp (Policy bytes) (abstract_entries id_name ps) ≡ option_map plain_entry (value_at_text ps bytes)
  find-policies bytes [] = refl
  find-policies bytes (p ∷ ps) =
      elim (is_eq (slice_cmp nat_cmp bytes (string_bytes p.0))) as (λ t. cond t (Some (plain_entry p.1)) (find name_cmp (Policy bytes) (abstract_entries id_name ps)) ≡ option_map plain_entry (cond t (Some p.1) (value_at_text ps bytes))) [
        | true ↦ refl
        | false ↦ find-policies bytes ps
      ]

max_count-shown : {K P : Type 0} (name : K → Name) (es : List (K × Entry P)) → max_count (abstract_entries name es) ≡ greatest_kept es
max_count-shown name [] = refl
max_count-shown name (e ∷ es) = ap (max e.1.stamp.count) (max_count-shown name es)

put_first : {E : Type 0} (bytes : List ℕ) (w : PlainEntry) (fs : List (EntityUid × Entry E)) → put name_cmp (Policy bytes) w (abstract_entries entity_name fs) ≡ (Policy bytes, w) ∷ abstract_entries entity_name fs
put_first bytes w [] = refl
put_first bytes w (f ∷ fs) = refl

module _ {P E : Type 0} where
  -- what is found among policies is found in the store
  pub get-policy : (ps : List (String Global × Entry P)) (es : List (EntityUid × Entry E)) (bytes : List ℕ) → get (abstract_store (concrete_entries ps es)) (Policy bytes) ≡ option_map plain_entry (value_at_text ps bytes)
  get-policy ps es bytes =
      get-from_entries name_cmp-IsTotalOrder (abstract_updates (concrete_entries ps es)) (Policy bytes)
      ∙ find-append (abstract_entries id_name ps) (abstract_entries entity_name es) (Policy bytes)
      ∙ ap (or_else (find name_cmp (Policy bytes) (abstract_entries id_name ps))) (policy_among_entities bytes es)
      ∙ or_else-none _ ∙ find-policies bytes ps

  -- what is found among entities is found in the store
  pub get-entity : (ps : List (String Global × Entry P)) (es : List (EntityUid × Entry E)) (u : EntityUid) → get (abstract_store (concrete_entries ps es)) (Entity u) ≡ option_map plain_entry (value_at uid_cmp es u)
  unfolding or_else
  get-entity ps es u =
      get-from_entries name_cmp-IsTotalOrder (abstract_updates (concrete_entries ps es)) (Entity u)
      ∙ find-append (abstract_entries id_name ps) (abstract_entries entity_name es) (Entity u)
      ∙ ap (λ a. or_else a (find name_cmp (Entity u) (abstract_entries entity_name es))) (entity_among_policies u ps)
      ∙ find-shown entity_name name_cmp es u

  -- ---- one entry written
  inserted-policy : (ps : List (String Global × Entry P)) (es : List (EntityUid × Entry E)) (k : String Global) (w : Entry P) → abstract_store (concrete_entries (insert_entry string_cmp ps k w) es) ≡ insert (abstract_store (concrete_entries ps es)) (id_name k) (plain_entry w)
  inserted-policy ps es k w = same_map name_cmp-IsTotalOrder name_cmp-IsAntisymmetric _ _ (λ q.
      get-from_entries name_cmp-IsTotalOrder (abstract_updates (concrete_entries (insert_entry string_cmp ps k w) es)) q
      ∙ ap (λ us. find name_cmp q (us ++ abstract_entries entity_name es)) (shown-insert_entry id_name name_cmp ps k w)
      ∙ find-append (put name_cmp (id_name k) (plain_entry w) (abstract_entries id_name ps)) (abstract_entries entity_name es) q
      ∙ ap (λ a. or_else a (find name_cmp q (abstract_entries entity_name es))) (find-put name_cmp name_cmp-IsTotalOrder q (id_name k) (plain_entry w) (abstract_entries id_name ps))
      ∙ or_else-cond (eq_by_cmp name_cmp q (id_name k)) (plain_entry w) _ _
      ∙ ap (cond (eq_by_cmp name_cmp q (id_name k)) (Some (plain_entry w))) (sym (find-append (abstract_entries id_name ps) (abstract_entries entity_name es) q) ∙ sym (get-from_entries name_cmp-IsTotalOrder (abstract_updates (concrete_entries ps es)) q))
      ∙ sym (get-insert name_cmp-IsTotalOrder (abstract_store (concrete_entries ps es)) (id_name k) (plain_entry w) q))

  inserted-entity : (ps : List (String Global × Entry P)) (es : List (EntityUid × Entry E)) (u : EntityUid) (w : Entry E) → abstract_store (concrete_entries ps (insert_entry uid_cmp es u w)) ≡ insert (abstract_store (concrete_entries ps es)) (Entity u) (plain_entry w)
  unfolding or_else
  inserted-entity ps es u w = same_map name_cmp-IsTotalOrder name_cmp-IsAntisymmetric _ _ (λ q.
      get-from_entries name_cmp-IsTotalOrder (abstract_updates (concrete_entries ps (insert_entry uid_cmp es u w))) q
      ∙ ap (λ us. find name_cmp q (abstract_entries id_name ps ++ us)) (shown-insert_entry entity_name name_cmp es u w)
      ∙ find-append (abstract_entries id_name ps) (put name_cmp (Entity u) (plain_entry w) (abstract_entries entity_name es)) q
      ∙ ap (or_else (find name_cmp q (abstract_entries id_name ps))) (find-put name_cmp name_cmp-IsTotalOrder q (Entity u) (plain_entry w) (abstract_entries entity_name es))
      ∙ elim (eq_by_cmp name_cmp q (Entity u)) as (λ t. eq_by_cmp name_cmp q (Entity u) ≡ t → or_else (find name_cmp q (abstract_entries id_name ps)) (cond t (Some (plain_entry w)) (find name_cmp q (abstract_entries entity_name es))) ≡ cond t (Some (plain_entry w)) (or_else (find name_cmp q (abstract_entries id_name ps)) (find name_cmp q (abstract_entries entity_name es)))) [
        | true ↦ λ same. ap (λ a. or_else a (Some (plain_entry w))) (sym (find_tied name_cmp name_cmp-IsTotalOrder q (Entity u) (equal_of (name_cmp q (Entity u)) same) (abstract_entries id_name ps)) ∙ entity_among_policies u ps)
        | false ↦ λ apart. refl
      ] refl
      ∙ ap (cond (eq_by_cmp name_cmp q (Entity u)) (Some (plain_entry w))) (sym (find-append (abstract_entries id_name ps) (abstract_entries entity_name es) q) ∙ sym (get-from_entries name_cmp-IsTotalOrder (abstract_updates (concrete_entries ps es)) q))
      ∙ sym (get-insert name_cmp-IsTotalOrder (abstract_store (concrete_entries ps es)) (Entity u) (plain_entry w) q))

  -- ---- one entry joined
  taken_policy_insert : (ps : List (String Global × Entry P)) (es : List (EntityUid × Entry E)) (k : String Global) (v : Entry P) → abstract_store (concrete_entries (taken string_cmp greater ps k v) es) ≡ insert (abstract_store (concrete_entries ps es)) (id_name k) (joined_onto greater_entry (get (abstract_store (concrete_entries ps es)) (id_name k)) (plain_entry v))
  taken_policy_insert ps es k v =
      inserted-policy ps es k (joined_onto greater (value_at string_cmp ps k) v)
      ∙ ap (insert (abstract_store (concrete_entries ps es)) (id_name k)) (plain_entry-onto (value_at string_cmp ps k) v ∙ ap (λ a. joined_onto greater_entry a (plain_entry v)) (sym (get-policy ps es (string_bytes k))))

  taken_entity_insert : (ps : List (String Global × Entry P)) (es : List (EntityUid × Entry E)) (u : EntityUid) (v : Entry E) → abstract_store (concrete_entries ps (taken uid_cmp greater es u v)) ≡ insert (abstract_store (concrete_entries ps es)) (Entity u) (joined_onto greater_entry (get (abstract_store (concrete_entries ps es)) (Entity u)) (plain_entry v))
  taken_entity_insert ps es u v =
      inserted-entity ps es u (joined_onto greater (value_at uid_cmp es u) v)
      ∙ ap (insert (abstract_store (concrete_entries ps es)) (Entity u)) (plain_entry-onto (value_at uid_cmp es u) v ∙ ap (λ a. joined_onto greater_entry a (plain_entry v)) (sym (get-entity ps es u)))

  pub shown-taken_policy : (ps : List (String Global × Entry P)) (es : List (EntityUid × Entry E)) (k : String Global) (v : Entry P) → abstract_store (concrete_entries (taken string_cmp greater ps k v) es) ≡ store_of (updates (abstract_store (concrete_entries ps es)) ++ (id_name k, plain_entry v) ∷ [])
  shown-taken_policy ps es k v = taken_policy_insert ps es k v ∙ sym (store_of-push entry_order name_cmp-IsTotalOrder name_cmp-IsAntisymmetric (abstract_store (concrete_entries ps es)) (id_name k) (plain_entry v))

  pub shown-taken_entity : (ps : List (String Global × Entry P)) (es : List (EntityUid × Entry E)) (u : EntityUid) (v : Entry E) → abstract_store (concrete_entries ps (taken uid_cmp greater es u v)) ≡ store_of (updates (abstract_store (concrete_entries ps es)) ++ (Entity u, plain_entry v) ∷ [])
  shown-taken_entity ps es u v = taken_entity_insert ps es u v ∙ sym (store_of-push entry_order name_cmp-IsTotalOrder name_cmp-IsAntisymmetric (abstract_store (concrete_entries ps es)) (Entity u) (plain_entry v))

  -- ---- many entries joined
  shown-all_policies : (ps qs : List (String Global × Entry P)) (es : List (EntityUid × Entry E)) → abstract_store (concrete_entries (all_joined string_cmp greater ps qs) es) ≡ store_of (updates (abstract_store (concrete_entries ps es)) ++ abstract_entries id_name qs)
  shown-all_policies ps [] es = sym (ap store_of (append-nil (updates (abstract_store (concrete_entries ps es)))) ∙ store_of-entries entry_order name_cmp-IsTotalOrder name_cmp-IsAntisymmetric (abstract_store (concrete_entries ps es)))
  shown-all_policies ps (q ∷ qs) es =
      shown-all_policies (taken string_cmp greater ps q.0 q.1) qs es
      ∙ ap (λ m. store_of (updates m ++ abstract_entries id_name qs)) (shown-taken_policy ps es q.0 q.1)
      ∙ store_of-append entry_order name_cmp-IsTotalOrder name_cmp-IsAntisymmetric (updates (abstract_store (concrete_entries ps es)) ++ abstract_entry id_name q ∷ []) (abstract_entries id_name qs)
      ∙ ap store_of (append_assoc (updates (abstract_store (concrete_entries ps es))) (abstract_entry id_name q ∷ []) (abstract_entries id_name qs))

  shown-all_entities : (ps : List (String Global × Entry P)) (es fs : List (EntityUid × Entry E)) → abstract_store (concrete_entries ps (all_joined uid_cmp greater es fs)) ≡ store_of (updates (abstract_store (concrete_entries ps es)) ++ abstract_entries entity_name fs)
  shown-all_entities ps es [] = sym (ap store_of (append-nil (updates (abstract_store (concrete_entries ps es)))) ∙ store_of-entries entry_order name_cmp-IsTotalOrder name_cmp-IsAntisymmetric (abstract_store (concrete_entries ps es)))
  shown-all_entities ps es (f ∷ fs) =
      shown-all_entities ps (taken uid_cmp greater es f.0 f.1) fs
      ∙ ap (λ m. store_of (updates m ++ abstract_entries entity_name fs)) (shown-taken_entity ps es f.0 f.1)
      ∙ store_of-append entry_order name_cmp-IsTotalOrder name_cmp-IsAntisymmetric (updates (abstract_store (concrete_entries ps es)) ++ abstract_entry entity_name f ∷ []) (abstract_entries entity_name fs)
      ∙ ap store_of (append_assoc (updates (abstract_store (concrete_entries ps es))) (abstract_entry entity_name f ∷ []) (abstract_entries entity_name fs))

  -- all entries of another store joined: the store of the updates of both
  pub shown-all_joined : (ps qs : List (String Global × Entry P)) (es fs : List (EntityUid × Entry E)) → abstract_store (concrete_entries (all_joined string_cmp greater ps qs) (all_joined uid_cmp greater es fs)) ≡ store_of (updates (abstract_store (concrete_entries ps es)) ++ abstract_updates (concrete_entries qs fs))
  shown-all_joined ps qs es fs =
      shown-all_entities (all_joined string_cmp greater ps qs) es fs
      ∙ ap (λ m. store_of (updates m ++ abstract_entries entity_name fs)) (shown-all_policies ps qs es)
      ∙ store_of-append entry_order name_cmp-IsTotalOrder name_cmp-IsAntisymmetric (updates (abstract_store (concrete_entries ps es)) ++ abstract_entries id_name qs) (abstract_entries entity_name fs)
      ∙ ap store_of (append_assoc (updates (abstract_store (concrete_entries ps es))) (abstract_entries id_name qs) (abstract_entries entity_name fs))

  -- ---- the order of the entries
  put_policy : (bytes : List ℕ) (w : PlainEntry) (ps : List (String Global × Entry P)) (fs : List (EntityUid × Entry E)) → put name_cmp (Policy bytes) w (abstract_entries id_name ps ++ abstract_entries entity_name fs) ≡ put name_cmp (Policy bytes) w (abstract_entries id_name ps) ++ abstract_entries entity_name fs
  put_policy bytes w [] fs = put_first bytes w fs
  put_policy bytes w (p ∷ ps) fs =
      let rest = abstract_entries id_name ps ++ abstract_entries entity_name fs in
      elim (slice_cmp nat_cmp bytes (string_bytes p.0)) as (λ r. by_order r ((Policy bytes, w) ∷ abstract_entry id_name p ∷ rest) ((id_name p.0, w) ∷ rest) (abstract_entry id_name p ∷ put name_cmp (Policy bytes) w rest) ≡ by_order r ((Policy bytes, w) ∷ abstract_entries id_name (p ∷ ps)) ((id_name p.0, w) ∷ abstract_entries id_name ps) (abstract_entry id_name p ∷ put name_cmp (Policy bytes) w (abstract_entries id_name ps)) ++ abstract_entries entity_name fs) [
        | Less ↦ refl
        | Equal ↦ refl
        | Greater ↦ ap (λ us. abstract_entry id_name p ∷ us) (put_policy bytes w ps fs)
      ]

  put_entity : (u : EntityUid) (w : PlainEntry) (ps : List (String Global × Entry P)) (fs : List (EntityUid × Entry E)) → put name_cmp (Entity u) w (abstract_entries id_name ps ++ abstract_entries entity_name fs) ≡ abstract_entries id_name ps ++ put name_cmp (Entity u) w (abstract_entries entity_name fs)
  put_entity u w [] fs = refl
  put_entity u w (p ∷ ps) fs = ap (λ us. abstract_entry id_name p ∷ us) (put_entity u w ps fs)

  in_order_policy : (ps : List (String Global × Entry P)) (es : List (EntityUid × Entry E)) (k : String Global) (v : Entry P) → updates (abstract_store (concrete_entries ps es)) ≡ abstract_updates (concrete_entries ps es) → updates (abstract_store (concrete_entries (taken string_cmp greater ps k v) es)) ≡ abstract_updates (concrete_entries (taken string_cmp greater ps k v) es)
  in_order_policy ps es k v h =
      let w : Entry P = joined_onto greater (value_at string_cmp ps k) v in
      ap entries (inserted-policy ps es k w)
      ∙ entries-insert name_cmp-IsTotalOrder (abstract_store (concrete_entries ps es)) (id_name k) (plain_entry w)
      ∙ ap (put name_cmp (id_name k) (plain_entry w)) h
      ∙ put_policy (string_bytes k) (plain_entry w) ps es
      ∙ ap (λ us. us ++ abstract_entries entity_name es) (sym (shown-insert_entry id_name name_cmp ps k w))

  in_order_entity : (ps : List (String Global × Entry P)) (es : List (EntityUid × Entry E)) (u : EntityUid) (v : Entry E) → updates (abstract_store (concrete_entries ps es)) ≡ abstract_updates (concrete_entries ps es) → updates (abstract_store (concrete_entries ps (taken uid_cmp greater es u v))) ≡ abstract_updates (concrete_entries ps (taken uid_cmp greater es u v))
  in_order_entity ps es u v h =
      let w : Entry E = joined_onto greater (value_at uid_cmp es u) v in
      ap entries (inserted-entity ps es u w)
      ∙ entries-insert name_cmp-IsTotalOrder (abstract_store (concrete_entries ps es)) (entity_name u) (plain_entry w)
      ∙ ap (put name_cmp (entity_name u) (plain_entry w)) h
      ∙ put_entity u (plain_entry w) ps es
      ∙ ap (λ us. abstract_entries id_name ps ++ us) (sym (shown-insert_entry entity_name name_cmp es u w))

  in_order_policies : (ps qs : List (String Global × Entry P)) (es : List (EntityUid × Entry E)) → updates (abstract_store (concrete_entries ps es)) ≡ abstract_updates (concrete_entries ps es) → updates (abstract_store (concrete_entries (all_joined string_cmp greater ps qs) es)) ≡ abstract_updates (concrete_entries (all_joined string_cmp greater ps qs) es)
  in_order_policies ps [] es h = h
  in_order_policies ps (q ∷ qs) es h = in_order_policies (taken string_cmp greater ps q.0 q.1) qs es (in_order_policy ps es q.0 q.1 h)

  in_order_entities : (ps : List (String Global × Entry P)) (es fs : List (EntityUid × Entry E)) → updates (abstract_store (concrete_entries ps es)) ≡ abstract_updates (concrete_entries ps es) → updates (abstract_store (concrete_entries ps (all_joined uid_cmp greater es fs))) ≡ abstract_updates (concrete_entries ps (all_joined uid_cmp greater es fs))
  in_order_entities ps es [] h = h
  in_order_entities ps es (f ∷ fs) h = in_order_entities ps (taken uid_cmp greater es f.0 f.1) fs (in_order_entity ps es f.0 f.1 h)

  in_order_all : (ps qs : List (String Global × Entry P)) (es fs : List (EntityUid × Entry E)) → updates (abstract_store (concrete_entries ps es)) ≡ abstract_updates (concrete_entries ps es) → updates (abstract_store (concrete_entries (all_joined string_cmp greater ps qs) (all_joined uid_cmp greater es fs))) ≡ abstract_updates (concrete_entries (all_joined string_cmp greater ps qs) (all_joined uid_cmp greater es fs))
  in_order_all ps qs es fs h = in_order_entities (all_joined string_cmp greater ps qs) es fs (in_order_policies ps qs es h)

  -- ---- the count that is kept
  pub counted_empty : IsOrderedAndCounted (concrete_entries {P = P} {E = E} [] []) 0
  counted_empty = record {
    counted = sym (greatest_count-empty name_cmp-IsTotalOrder);
    in_order = no_entries (updates (abstract_store (concrete_entries {P = P} {E = E} [] []))) (sym (len-entries empty) ∙ len-empty name_cmp PlainEntry);
  }
    where
      no_entries : (es : List Update) → length es ≡ 0 → es ≡ []
      no_entries [] h = refl
      no_entries (e ∷ es) h = absurd (omega arith)

  pub counted_policy : (ps n : List (String Global × Entry P)) (es : List (EntityUid × Entry E)) (k : String Global) (v : Entry P) (greatest after : ℕ)
      → n ≡ taken string_cmp greater ps k v → after ≡ max greatest v.stamp.count → IsOrderedAndCounted (concrete_entries ps es) greatest → IsOrderedAndCounted (concrete_entries n es) after
  counted_policy ps n es k v greatest after e m h =
      let counted : IsOrderedAndCounted (concrete_entries (taken string_cmp greater ps k v) es) after = record {
        counted = m ∙ ap (λ c. max c v.stamp.count) h.counted ∙ sym (ap greatest_count (taken_policy_insert ps es k v) ∙ greatest_count-insert name_cmp-IsTotalOrder (abstract_store (concrete_entries ps es)) (id_name k) (plain_entry v));
        in_order = in_order_policy ps es k v h.in_order;
      } in
      subst (λ x. IsOrderedAndCounted (concrete_entries x es) after) (sym e) counted

  pub counted_entity : (ps : List (String Global × Entry P)) (es n : List (EntityUid × Entry E)) (u : EntityUid) (v : Entry E) (greatest after : ℕ)
      → n ≡ taken uid_cmp greater es u v → after ≡ max greatest v.stamp.count → IsOrderedAndCounted (concrete_entries ps es) greatest → IsOrderedAndCounted (concrete_entries ps n) after
  counted_entity ps es n u v greatest after e m h =
      let counted : IsOrderedAndCounted (concrete_entries ps (taken uid_cmp greater es u v)) after = record {
        counted = m ∙ ap (λ c. max c v.stamp.count) h.counted ∙ sym (ap greatest_count (taken_entity_insert ps es u v) ∙ greatest_count-insert name_cmp-IsTotalOrder (abstract_store (concrete_entries ps es)) (entity_name u) (plain_entry v));
        in_order = in_order_entity ps es u v h.in_order;
      } in
      subst (λ x. IsOrderedAndCounted (concrete_entries ps x) after) (sym e) counted

  -- the count and the order after all entries of another store
  pub counted_all : (ps qs n : List (String Global × Entry P)) (es fs m : List (EntityUid × Entry E)) (greatest other after : ℕ)
      → n ≡ all_joined string_cmp greater ps qs → m ≡ all_joined uid_cmp greater es fs → after ≡ max greatest other
      → IsOrderedAndCounted (concrete_entries ps es) greatest → IsOrderedAndCounted (concrete_entries qs fs) other → IsOrderedAndCounted (concrete_entries n m) after
  counted_all ps qs n es fs m greatest other after e f is h k =
      let whole : greatest_count (abstract_store (concrete_entries (all_joined string_cmp greater ps qs) (all_joined uid_cmp greater es fs))) ≡ max (greatest_count (abstract_store (concrete_entries ps es))) (max_count (abstract_updates (concrete_entries qs fs))) =
      ap greatest_count (shown-all_joined ps qs es fs) ∙ greatest_count-store_of name_cmp-IsTotalOrder (updates (abstract_store (concrete_entries ps es)) ++ abstract_updates (concrete_entries qs fs)) ∙ max_count-append (updates (abstract_store (concrete_entries ps es))) (abstract_updates (concrete_entries qs fs)) in
      let theirs : other ≡ max_count (abstract_updates (concrete_entries qs fs)) = k.counted ∙ ap max_count k.in_order in
      let counted : IsOrderedAndCounted (concrete_entries (all_joined string_cmp greater ps qs) (all_joined uid_cmp greater es fs)) after = record {
        counted = is ∙ ap (λ c. max c other) h.counted ∙ ap (max (greatest_count (abstract_store (concrete_entries ps es)))) theirs ∙ sym whole;
        in_order = in_order_all ps qs es fs h.in_order;
      } in
      subst (λ x. IsOrderedAndCounted (concrete_entries x m) after) (sym e) (subst (λ y. IsOrderedAndCounted (concrete_entries (all_joined string_cmp greater ps qs) y) after) (sym f) counted)

  -- the count and the order after some entries of another store, the count being found anew
  pub counted_anew : (ps qs n : List (String Global × Entry P)) (es fs m : List (EntityUid × Entry E)) (greatest after : ℕ)
      → n ≡ all_joined string_cmp greater ps qs → m ≡ all_joined uid_cmp greater es fs → after ≡ max (greatest_kept n) (greatest_kept m)
      → IsOrderedAndCounted (concrete_entries ps es) greatest → IsOrderedAndCounted (concrete_entries n m) after
  counted_anew ps qs n es fs m greatest after e f is h =
      let ordered : updates (abstract_store (concrete_entries n m)) ≡ abstract_updates (concrete_entries n m) =
      subst (λ x. updates (abstract_store (concrete_entries x m)) ≡ abstract_updates (concrete_entries x m)) (sym e)
      (subst (λ y. updates (abstract_store (concrete_entries (all_joined string_cmp greater ps qs) y)) ≡ abstract_updates (concrete_entries (all_joined string_cmp greater ps qs) y)) (sym f) (in_order_all ps qs es fs h.in_order)) in
      record {
        counted = is ∙ sym (ap max_count ordered ∙ max_count-append (abstract_entries id_name n) (abstract_entries entity_name m) ∙ ap (λ c. max c (max_count (abstract_entries entity_name m))) (max_count-shown id_name n) ∙ ap (max (greatest_kept n)) (max_count-shown entity_name m));
        in_order = ordered;
      }

  -- ---- what a call leaves
  pub joined_policy : (s t : StoreEntries P E) (k : String Global) (v : Entry P) → t ≡ concrete_entries (taken string_cmp greater s.policies k v) s.entities → abstract_store t ≡ store_of (updates (abstract_store s) ++ (id_name k, plain_entry v) ∷ [])
  joined_policy s t k v e = ap abstract_store e ∙ shown-taken_policy s.policies s.entities k v

  pub joined_entity : (s t : StoreEntries P E) (u : EntityUid) (v : Entry E) → t ≡ concrete_entries s.policies (taken uid_cmp greater s.entities u v) → abstract_store t ≡ store_of (updates (abstract_store s) ++ (entity_name u, plain_entry v) ∷ [])
  joined_entity s t u v e = ap abstract_store e ∙ shown-taken_entity s.policies s.entities u v
