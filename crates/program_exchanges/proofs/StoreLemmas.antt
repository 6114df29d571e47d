-- What is true of each of some updates is true of each update of their store; and what taking one after the other
-- leaves.
use Rattle.std.specs.Prelude.{◌≡◌, List, [], ◌∷◌, ◌++◌, length, Option, Some, None, Bool, true, false, cond}
use Rattle.std.specs.Prelude.{if◌then◌else◌}
use Rattle.std.proofs.Common.{refl, sym, ap, ◌∙◌, subst, append_assoc, append-nil}
use Rattle.std.specs.List.{AllByRecursion}
use Rattle.std.specs.Ordering.{is_eq, is_le}
use Rattle.std.specs.FinMap.{get, get-entries, entries-insert, len-empty, len-entries}
use Rattle.std.specs.FinMap.Entries.{find, put, by_order}
use Rattle.std.specs.declared.cmp.Ordering.{Ordering}
use Rattle.std.specs.declared.cmp.Ordering.TheVariants.{Less, Equal, Greater}
use Rattle.values.specs.declared.name.Name.{Name}
use Rattle.values.specs.Names.{name_cmp, name_cmp-IsTotalOrder, name_cmp-IsAntisymmetric}
use Rattle.stamped_store.specs.EntryOrder.{PlainEntry, entry_cmp, greater_entry}
use Rattle.stamped_store.specs.JoinMaps.{joined_onto}
use Rattle.stamped_store.specs.Store.{Store, Update, updates, store_of}

none_long : {X : Type 0} (xs : List X) → length xs ≡ 0 → xs ≡ []
none_long [] h = refl
none_long (x ∷ xs) h = absurd (cc)

pub none_of_empty : updates (store_of []) ≡ []
none_of_empty = none_long (updates (store_of [])) (sym (len-entries (store_of [])) ∙ len-empty name_cmp PlainEntry)

module _ (P : Update → Type 0) where
  put_in : (k : Name) (v : PlainEntry) (e : Update) (es : List Update) (o : Ordering) → name_cmp k e.0 ≡ o → P (k, v)
      → AllByRecursion P (e ∷ es) → AllByRecursion P (put name_cmp k v es)
      → AllByRecursion P (by_order o ((k, v) ∷ e ∷ es) ((e.0, v) ∷ es) (e ∷ put name_cmp k v es))
  put_in k v e es Less is p all later = (p, all)
  put_in k v e es Equal is p all later = (subst (λ (n : Name). P (n, v)) (name_cmp-IsAntisymmetric k e.0 is) p, all.1)
  put_in k v e es Greater is p all later = (all.0, later)

  put_all : (k : Name) (v : PlainEntry) (es : List Update) → P (k, v) → AllByRecursion P es → AllByRecursion P (put name_cmp k v es)
  put_all k v [] p all = (p, tt)
  put_all k v (e ∷ es) p all = put_in k v e es (name_cmp k e.0) refl p all (put_all k v es p all.1)

  found_first : (q : Name) (x : Update) (rest : Option PlainEntry) (e : PlainEntry) (o : Ordering) → name_cmp q x.0 ≡ o → P x
      → cond (is_eq o) (Some x.1) rest ≡ Some e → (rest ≡ Some e → P (q, e)) → P (q, e)
  found_first q x rest e Less is p h later = later h
  found_first q x rest e Greater is p h later = later h
  found_first q x rest e Equal is p h later =
      let same : x.1 ≡ e = cc in
      subst (λ (f : PlainEntry). P (q, f)) same (subst (λ (n : Name). P (n, x.1)) (sym (name_cmp-IsAntisymmetric q x.0 is)) p)

  found_in : (q : Name) (e : PlainEntry) (es : List Update) → AllByRecursion P es → find name_cmp q es ≡ Some e → P (q, e)
  found_in q e [] all h = absurd (cc)
  found_in q e (x ∷ es) all h = found_first q x (find name_cmp q es) e (name_cmp q x.0) refl all.0 h (found_in q e es all.1)

  one_of : (q : Name) (f v : PlainEntry) (b : Bool) → P (q, f) → P (q, v) → P (q, if b then f else v)
  one_of q f v true x y = x
  one_of q f v false x y = y

  joined : (m : Store) (u : Update) (held : Option PlainEntry) → get m u.0 ≡ held → P u → AllByRecursion P (updates m)
      → P (u.0, joined_onto greater_entry held u.1)
  joined m u None h p all = p
  joined m u (Some f) h p all = one_of u.0 f u.1 (is_le (entry_cmp u.1 f)) (found_in u.0 f (updates m) all (sym (get-entries m u.0) ∙ h)) p

  -- each update of the store of some updates is like each of these
  pub store_all : (us : List Update) → AllByRecursion P us → AllByRecursion P (updates (store_of us))
  store_all [] all = subst (λ (l : List Update). AllByRecursion P l) (sym none_of_empty) tt
  store_all (u ∷ us) all =
      let rest = store_all us all.1 in
      subst (λ (l : List Update). AllByRecursion P l) (sym (entries-insert name_cmp-IsTotalOrder (store_of us) u.0 _))
      (put_all u.0 _ (updates (store_of us)) (joined (store_of us) u (get (store_of us) u.0) refl all.0 rest) rest)

  pub append_all : (us vs : List Update) → AllByRecursion P us → AllByRecursion P vs → AllByRecursion P (us ++ vs)
  append_all [] vs h k = k
  append_all (u ∷ us) vs h k = (h.0, append_all us vs h.1 k)

-- ---- taking updates one after another
pub stores_none : ((s : Store) → store_of (updates s) ≡ s) → (s : Store) → s ≡ store_of (updates s ++ [])
stores_none own s = sym (own s) ∙ ap store_of (sym (append-nil (updates s)))

pub stores_more : ((us vs : List Update) → store_of (updates (store_of us) ++ vs) ≡ store_of (us ++ vs))
    → (s m t : Store) (us vs : List Update) → m ≡ store_of (updates s ++ us) → t ≡ store_of (updates m ++ vs)
    → t ≡ store_of (updates s ++ (us ++ vs))
stores_more grouped s m t us vs h k =
    k ∙ ap (λ x. store_of (updates x ++ vs)) h
    ∙ grouped (updates s ++ us) vs
    ∙ ap store_of (append_assoc (updates s) us vs)
