-- A closed hierarchy as a list of entities and their parents; the parents of one entity written over in a map.
use Rattle.std.proofs.Common.{◌≡◌, ◌∙◌, Bool, true, false, cond, List, [], ◌∷◌, refl, ap, Option, Some, None, unwrap_or}
use Rattle.std.specs.Prelude.{Vec}
use Rattle.std.specs.declared.alloc.Global.{Global}
use Rattle.std.specs.BTreeMap.{BTreeMap, get, is_at}
use Rattle.std.specs.Map.{lookup}
use Rattle.std.specs.List.Sorted.{IsStrictlySortedBy}
use Rattle.values.specs.declared.entity_uid.EntityUid.{EntityUid}
use Rattle.values.specs.Names.{uid_cmp}
use Rattle.ancestor_search.specs.Hierarchy.{Path, Parents, no_parents, with_parents}
use Rattle.ancestor_search.specs.Search.{parents_of, items_or_none}
use Rattle.ancestor_search.specs.Decided.{is_same}
use Rattle.ancestor_search.specs.Deciding.{Contains-none, same_uid}
use Rattle.ancestor_closure.specs.ClosedMeaning.{closed_entries, closed_parents}
use Rattle.ancestor_closure.specs.Lists.{IsCacheContent, ancestors_in, children_in, ancestors_or_none, children_or_none}
use Rattle.ancestor_closure.specs.declared.relatives.Relatives.{Relatives}

at_entries : (es : List (EntityUid × Vec EntityUid Global)) (q : EntityUid) → closed_parents (closed_entries es) q ≡ items_or_none (lookup (is_at (uid_cmp q)) es)
at_entries [] q = refl
at_entries (e ∷ es) q = at (is_at (uid_cmp q) e.0) (at_entries es q)
  where
    at : (b : Bool) → closed_parents (closed_entries es) q ≡ items_or_none (lookup (is_at (uid_cmp q)) es) → unwrap_or (cond b (Some e.1.items) (lookup (is_at (uid_cmp q)) (closed_entries es))) [] ≡ items_or_none (cond b (Some e.1) (lookup (is_at (uid_cmp q)) es))
    at true rest = refl
    at false rest = rest

pub closed_is : (m : BTreeMap EntityUid (Vec EntityUid Global)) → closed_parents (closed_entries m.entries) ≡ parents_of m
closed_is m = λ i q. at_entries m.entries q i

none_at : (m : BTreeMap EntityUid (Vec EntityUid Global)) → m.entries ≡ [] → (q : EntityUid) → parents_of m q ≡ []
none_at m e q = ap (λ es. items_or_none (lookup (is_at (uid_cmp q)) es)) e

pub none_stored : (m : BTreeMap EntityUid (Vec EntityUid Global)) → m.entries ≡ [] → parents_of m ≡ no_parents
none_stored m e = λ i q. none_at m e q i

no_path : (b : EntityUid) (cs : List EntityUid) (a : EntityUid) → Path no_parents b cs a → ⊥
no_path b [] a h = Contains-none a h
no_path b (c ∷ cs) a h = Contains-none c h.0

-- nothing is kept of a hierarchy with no entity
pub kept_of_none : (m : BTreeMap EntityUid Relatives) (cyc : List EntityUid) → m.entries ≡ [] → cyc ≡ [] → IsCacheContent no_parents (ancestors_in m) (children_in m) cyc
unfolding IsStrictlySortedBy
kept_of_none m cyc e f = record {
  above = λ b. ((λ a. (λ h. Contains-none a (rw (no_list b) at h), λ up. absurd (no_path b up.0 a up.1))), rw (no_list b) tt);
  below = λ a b. (λ h. Contains-none b (rw (no_child a) at h), λ h. Contains-none a h);
  on_cycles = λ a. (λ h. Contains-none a (rw f at h), λ up. absurd (no_path a up.0 a up.1));
}
  where
    no_list : (q : EntityUid) → ancestors_in m q ≡ []
    no_list q = ap (λ es. ancestors_or_none (lookup (is_at (uid_cmp q)) es)) e

    no_child : (q : EntityUid) → children_in m q ≡ []
    no_child q = ap (λ es. children_or_none (lookup (is_at (uid_cmp q)) es)) e

-- ---- one entry of the map of parents
items-cond : (b : Bool) (v : Vec EntityUid Global) (o : Option (Vec EntityUid Global)) → items_or_none (cond b (Some v) o) ≡ cond b v.items (items_or_none o)
items-cond true v o = refl
items-cond false v o = refl

none-cond : (b : Bool) (o : Option (Vec EntityUid Global)) → items_or_none (cond b None o) ≡ cond b [] (items_or_none o)
none-cond true o = refl
none-cond false o = refl

module _ (m n : BTreeMap EntityUid (Vec EntityUid Global)) (k : EntityUid) where
  pub edges_written : (v : Vec EntityUid Global) → ((u : EntityUid) → get uid_cmp n u ≡ cond (is_same k u) (Some v) (get uid_cmp m u)) → parents_of n ≡ with_parents (parents_of m) k v.items
  edges_written v u = λ i q. (ap items_or_none (u q) ∙ items-cond (is_same k q) v (get uid_cmp m q)) i

  pub edges_gone : ((u : EntityUid) → get uid_cmp n u ≡ cond (is_same k u) None (get uid_cmp m u)) → parents_of n ≡ with_parents (parents_of m) k []
  edges_gone u = λ i q. (ap items_or_none (u q) ∙ none-cond (is_same k q) (get uid_cmp m q)) i

-- writing the parents that are there already
pub with_same : (p : Parents) (k : EntityUid) (ps : List EntityUid) → ps ≡ p k → with_parents p k ps ≡ p
with_same p k ps is = λ i q. at q (is_same k q) refl i
  where
    at : (q : EntityUid) (b : Bool) → is_same k q ≡ b → cond (is_same k q) ps (p q) ≡ p q
    at q true same = ap (λ b. cond b ps (p q)) same ∙ is ∙ ap p (same_uid k q same)
    at q false apart = ap (λ b. cond b ps (p q)) apart
