-- The policies and the entities of a store by what it has under each name.
use Rattle.std.specs.Prelude.{T, ◌&&◌, ◌≡◌, ◌↔◌, ℕ, List, [], ◌∷◌, Option, Some, None, Bool, true, false, refl, cond, option_and_then, Contains}
use Rattle.std.proofs.Common.{sym, ap, ◌∙◌, subst, ⊎_elim}
use Rattle.std.specs.List.{flat_map}
use Rattle.std.specs.Ordering.{is_eq, is_lt, ordering_reverse}
use Rattle.std.specs.Cmp.{tied_itself}
use Rattle.std.specs.FinMap.{get, get-entries, entries_sorted}
use Rattle.std.specs.FinMap.Entries.{find, is_sorted, below_all}
use Rattle.std.specs.declared.cmp.Ordering.{Ordering}
use Rattle.std.specs.declared.cmp.Ordering.TheVariants.{Less, Equal, Greater}
use Rattle.std.proofs.lemmas.List.Elements.{Contains-append_left, Contains-append_right, Contains-append_cases}
use Rattle.values.specs.declared.name.Name.{Name}
use Rattle.values.specs.declared.name.Name.TheVariants.{Policy, Entity}
use Rattle.values.specs.declared.entity_uid.EntityUid.{EntityUid}
use Rattle.values.specs.Names.{name_cmp, name_cmp-IsTotalOrder, name_cmp-IsAntisymmetric}
use Rattle.stamped_store.specs.EntryOrder.{PlainEntry}
use Rattle.stamped_store.specs.Store.{Store, Update, updates}
use Rattle.stamped_store.specs.Contents.{text_under, policy_text, entity_text, policies_of, entities_of}
use Rattle.plain.proofs.Members.{Contains-none, Contains-here, Contains-there}
use Rattle.stamped_store.proofs.GreatestsBy.{by_place}

-- ---- what a store has under a name is one of its updates
equal_of : (r : Ordering) → is_eq r ≡ true → r ≡ Equal
equal_of Less h = absurd (cc)
equal_of Equal h = refl
equal_of Greater h = absurd (cc)

not_equal : (r : Ordering) → T (is_lt r) → is_eq (ordering_reverse r) ≡ false
not_equal Less h = refl
not_equal Equal h = absurd h
not_equal Greater h = absurd h

left_of : (a b : Bool) → T (a && b) → T a
left_of true b h = tt
left_of false b h = h

right_of : (a b : Bool) → T (a && b) → T b
right_of true b h = h
right_of false b h = absurd h

of_found : (es : List Update) (q : Name) (e : PlainEntry) → find name_cmp q es ≡ Some e → Contains es (q, e)
of_found [] q e h = absurd (cc)
of_found (x ∷ es) q e h =
    elim (is_eq (name_cmp q x.0)) as (λ b. is_eq (name_cmp q x.0) ≡ b → cond b (Some x.1) (find name_cmp q es) ≡ Some e → Contains (x ∷ es) (q, e)) [
      | true ↦ λ same found.
          let value : x.1 ≡ e = cc in
          let name : x.0 ≡ q = sym (name_cmp-IsAntisymmetric q x.0 (equal_of (name_cmp q x.0) same)) in
          subst (λ (u : Update). Contains (x ∷ es) u) (λ i. (name i, value i)) (Contains-here x es)
      | false ↦ λ apart found. Contains-there x es (q, e) (of_found es q e found)
    ] refl h

below_member : (k : Name) (es : List Update) (q : Name) (e : PlainEntry) → T (below_all name_cmp k es) → Contains es (q, e) → T (is_lt (name_cmp k q))
below_member k [] q e h m = absurd (Contains-none (q, e) m)
below_member k (x ∷ es) q e h m = by_place x es (q, e) m
    (λ same. subst (λ (u : Update). T (is_lt (name_cmp k u.0))) same (left_of (is_lt (name_cmp k x.0)) (below_all name_cmp k es) h))
    (λ later. below_member k es q e (right_of (is_lt (name_cmp k x.0)) (below_all name_cmp k es) h) later)

found_of : (es : List Update) (q : Name) (e : PlainEntry) → T (is_sorted name_cmp es) → Contains es (q, e) → find name_cmp q es ≡ Some e
found_of [] q e h m = absurd (Contains-none (q, e) m)
found_of (x ∷ es) q e h m = by_place x es (q, e) m
    (λ same.
    let name : q ≡ x.0 = sym (ap (λ (u : Update). u.0) same) in
    ap (λ b. cond b (Some x.1) (find name_cmp q es)) (ap is_eq (ap (name_cmp q) (sym name) ∙ tied_itself name_cmp-IsTotalOrder q)) ∙ ap (λ (u : Update). Some u.1) same)
    (λ later.
    let apart : is_eq (name_cmp q x.0) ≡ false = ap is_eq (name_cmp-IsTotalOrder.antisymm q x.0) ∙ not_equal (name_cmp x.0 q) (below_member x.0 es q e (left_of (below_all name_cmp x.0 es) (is_sorted name_cmp es) h) later) in
    ap (λ b. cond b (Some x.1) (find name_cmp q es)) apart ∙ found_of es q e (right_of (below_all name_cmp x.0 es) (is_sorted name_cmp es) h) later)

body_of : (a : Option PlainEntry) (text : List ℕ) → option_and_then (λ e. e.body) a ≡ Some text → (e : PlainEntry) × (a ≡ Some e) × (e.body ≡ Some text)
body_of None text h = absurd (cc)
body_of (Some e) text h = (e, refl, h)

member_of : (s : Store) (q : Name) (text : List ℕ) → text_under s q ≡ Some text → (e : PlainEntry) × Contains (updates s) (q, e) × (e.body ≡ Some text)
member_of s q text h = let found = body_of (get s q) text h in (found.0, of_found (updates s) q found.0 (sym (get-entries s q) ∙ found.1), found.2)

text_of : (s : Store) (q : Name) (text : List ℕ) (e : PlainEntry) → Contains (updates s) (q, e) → e.body ≡ Some text → text_under s q ≡ Some text
text_of s q text e m is = ap (option_and_then (λ (x : PlainEntry). x.body)) (get-entries s q ∙ found_of (updates s) q e (entries_sorted s) m) ∙ is

-- ---- the texts of one kind of name
module _ {K : Type 0} (name : K → Name) (pick : Name → Option (List ℕ) → List (K × List ℕ))
    (picks : (k : K) (text : List ℕ) → pick (name k) (Some text) ≡ (k, text) ∷ [])
    (picked : (n : Name) (b : Option (List ℕ)) (k : K) (text : List ℕ) → Contains (pick n b) (k, text) → (n ≡ name k) × (b ≡ Some text)) where
  texts : List Update → List (K × List ℕ)
  texts us = flat_map (λ (u : Update). pick u.0 u.1.body) us

  from_texts : (us : List Update) (k : K) (text : List ℕ) → Contains (texts us) (k, text) → (e : PlainEntry) × Contains us (name k, e) × (e.body ≡ Some text)
  unfolding texts
  from_texts [] k text h = absurd (Contains-none (k, text) h)
  from_texts (u ∷ us) k text h = ⊎_elim
      (λ here. let both = picked u.0 u.1.body k text here in (u.1, subst (λ n. Contains (u ∷ us) (n, u.1)) both.0 (Contains-here u us), both.1))
      (λ later. let rest = from_texts us k text later in (rest.0, Contains-there u us (name k, rest.0) rest.1, rest.2))
      (Contains-append_cases (pick u.0 u.1.body) (texts us) (k, text) h)

  to_texts : (us : List Update) (k : K) (text : List ℕ) (e : PlainEntry) → Contains us (name k, e) → e.body ≡ Some text → Contains (texts us) (k, text)
  unfolding texts
  to_texts [] k text e m is = absurd (Contains-none (name k, e) m)
  to_texts (u ∷ us) k text e m is = by_place u us (name k, e) m
      (λ same.
      let one : pick u.0 u.1.body ≡ (k, text) ∷ [] = ap (λ (x : Update). pick x.0 x.1.body) same ∙ ap (pick (name k)) is ∙ picks k text in
      Contains-append_left (pick u.0 u.1.body) (texts us) (k, text) (subst (λ (ts : List (K × List ℕ)). Contains ts (k, text)) (sym one) (Contains-here (k, text) [])))
      (λ later. Contains-append_right (pick u.0 u.1.body) (texts us) (k, text) (to_texts us k text e later is))

  stand : (s : Store) (k : K) (text : List ℕ) → Contains (texts (updates s)) (k, text) ↔ (text_under s (name k) ≡ Some text)
  stand s k text = (
    (λ m. let u = from_texts (updates s) k text m in text_of s (name k) text u.0 u.1 u.2),
    (λ is. let u = member_of s (name k) text is in to_texts (updates s) k text u.0 u.1 u.2),
  )

policy_picked : (n : Name) (b : Option (List ℕ)) (id text : List ℕ) → Contains (policy_text n b) (id, text) → (n ≡ Policy id) × (b ≡ Some text)
policy_picked (Policy i) (Some t) id text h = by_place (i, t) [] (id, text) h (λ same. (ap (λ (p : List ℕ × List ℕ). Policy p.0) same, ap (λ (p : List ℕ × List ℕ). Some p.1) same)) (λ later. absurd (Contains-none (id, text) later))
policy_picked (Policy i) None id text h = absurd (Contains-none (id, text) h)
policy_picked (Entity u) b id text h = absurd (Contains-none (id, text) h)

entity_picked : (n : Name) (b : Option (List ℕ)) (uid : EntityUid) (text : List ℕ) → Contains (entity_text n b) (uid, text) → (n ≡ Entity uid) × (b ≡ Some text)
entity_picked (Entity u) (Some t) uid text h = by_place (u, t) [] (uid, text) h (λ same. (ap (λ (p : EntityUid × List ℕ). Entity p.0) same, ap (λ (p : EntityUid × List ℕ). Some p.1) same)) (λ later. absurd (Contains-none (uid, text) later))
entity_picked (Entity u) None uid text h = absurd (Contains-none (uid, text) h)
entity_picked (Policy i) b uid text h = absurd (Contains-none (uid, text) h)

pub policies_stand : (s : Store) (id text : List ℕ) → Contains (policies_of s) (id, text) ↔ (text_under s (Policy id) ≡ Some text)
unfolding texts
policies_stand s id text = stand Policy policy_text (λ k t. refl) policy_picked s id text

pub entities_stand : (s : Store) (uid : EntityUid) (text : List ℕ) → Contains (entities_of s) (uid, text) ↔ (text_under s (Entity uid) ≡ Some text)
unfolding texts
entities_stand s uid text = stand Entity entity_text (λ k t. refl) entity_picked s uid text
