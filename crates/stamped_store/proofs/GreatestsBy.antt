-- Laws of the store of a set of updates, whatever an entry is, in an order in which entries that tie are one.
use Rattle.std.specs.Prelude.{◌≡◌, List, [], ◌∷◌, ◌++◌, Option, Some, None, Bool, true, false, refl, cond, T, ◌&&◌, if◌then◌else◌, ◌↔◌}
use Rattle.std.proofs.Common.{sym, ◌∙◌, ap, subst, ⊎_elim}
use Rattle.std.specs.List.{Contains}
use Rattle.std.specs.Ordering.{eq_by_cmp, is_eq, is_le, is_lt, ordering_reverse}
use Rattle.std.specs.Cmp.{IsTotalOrder, tied_itself}
use Rattle.std.specs.FinMap.{FinMap, IsAntisymmetric, get, insert, entries, entries_sorted, get-entries, get_tied, get-insert, get-empty, same_map}
use Rattle.std.specs.FinMap.Entries.{find, is_sorted, below_all}
use Rattle.std.specs.declared.cmp.Ordering.{Ordering}
use Rattle.std.specs.declared.cmp.Ordering.TheVariants.{Less, Equal, Greater}
use Rattle.plain.proofs.Members.{Contains-here, Contains-there, Contains-cases, Contains-none}
use Rattle.stamped_store.specs.Joins.{IsJoin, IsLeastAbove, option_below, option_joined}
use Rattle.stamped_store.specs.EntryOrder.{greater_of}
use Rattle.stamped_store.specs.EntryJoins.{greater_by_is_join}
use Rattle.stamped_store.specs.JoinMaps.{joined_onto}
use Rattle.stamped_store.specs.Greatest.{IsGreatestAt, IsStoreOf, IsStoreBelow, store_of, joined_stores, greatest_at}
use Rattle.stamped_store.proofs.Lifted.{above_first, above_second, least_above}

-- an order in which entries that tie are one
pub record IsExactOrder {V : Type 0} (C : V → V → Ordering) : Type 0 where
  pub total : IsTotalOrder C
  pub exact : IsAntisymmetric C

both_le : (r : Ordering) → is_le r ≡ true → is_le (ordering_reverse r) ≡ true → r ≡ Equal
both_le Less h k = absurd (cc)
both_le Equal h k = refl
both_le Greater h k = absurd (cc)

-- ---- members
pub by_place : {X G : Type 0} (x : X) (xs : List X) (y : X) → Contains (x ∷ xs) y → (x ≡ y → G) → (Contains xs y → G) → G
by_place x xs y h here there = ⊎_elim here there (Contains-cases x xs y h)

pub by_test : {X : Type 0} (P : X → Type 0) (a b : X) (t : Bool) → P a → P b → P (if t then a else b)
by_test P a b true h k = h
by_test P a b false h k = k

equal_of : (r : Ordering) → is_eq r ≡ true → r ≡ Equal
equal_of Less h = absurd (cc)
equal_of Equal h = refl
equal_of Greater h = absurd (cc)

module _ {V : Type 0} {C : V → V → Ordering} (c : IsExactOrder C) where
  abbrev pub greater : V → V → V
  greater a b = greater_of C a b

  abbrev pub below : V → V → Bool
  below a b = is_le (C a b)

  pub greater_is_join : IsJoin (λ a b. is_le (C a b) ≡ true) greater
  greater_is_join = greater_by_is_join C c.total

  pub alike : (a b : V) → is_le (C a b) ≡ true → is_le (C b a) ≡ true → a ≡ b
  alike a b h k = c.exact a b (both_le (C a b) h (ap is_le (sym (c.total.antisymm b a)) ∙ k))

  pub greater_assoc : (a b c : V) → greater (greater a b) c ≡ greater a (greater b c)
  greater_assoc a b c = let l = greater_is_join.associative a b c in alike _ _ l.0 l.1

  pub greater_commutes : (a b : V) → greater a b ≡ greater b a
  greater_commutes a b = let l = greater_is_join.commutative a b in alike _ _ l.0 l.1

  pub greater_itself : (a : V) → greater a a ≡ a
  greater_itself a = let l = greater_is_join.idempotent a in alike _ _ l.0 l.1

  -- ---- option_joined greater
  onto_joined : (a b : Option V) (u : V) → Some (joined_onto greater (option_joined greater a b) u) ≡ option_joined greater (Some (joined_onto greater a u)) b
  onto_joined None None u = refl
  onto_joined None (Some b) u = ap (λ x. Some x) (greater_commutes b u)
  onto_joined (Some a) None u = refl
  onto_joined (Some a) (Some b) u = ap (λ x. Some x) (greater_assoc a b u ∙ ap (greater a) (greater_commutes b u) ∙ sym (greater_assoc a u b))

  joined_none : (a : Option V) → option_joined greater a None ≡ a
  joined_none None = refl
  joined_none (Some a) = refl

  joined_some : (a : Option V) (v : V) → Some (joined_onto greater a v) ≡ option_joined greater a (Some v)
  joined_some None v = refl
  joined_some (Some a) v = refl

  module _ {N : Type 0} where
    greater_member : (u : N × V) (us : List (N × V)) (a : Option V) → IsGreatestAt C us u.0 a → IsGreatestAt C (u ∷ us) u.0 (Some (joined_onto greater a u.1))
    greater_member u us None h =
        (Contains-here u us, λ f m. by_place u us (u.0, f) m (λ e. let same : u.1 ≡ f = ap (λ (x : N × V). x.1) e in subst (λ g. is_le (C g u.1) ≡ true) same (greater_is_join.reflexive u.1)) (λ n. absurd (h f n)))
    greater_member u us (Some g) h = (
      by_test (λ e. Contains (u ∷ us) (u.0, e)) g u.1 (is_le (C u.1 g)) (Contains-there u us (u.0, g) h.0) (Contains-here u us),
      λ f m. by_place u us (u.0, f) m
          (λ e. let same : u.1 ≡ f = ap (λ (x : N × V). x.1) e in subst (λ x. is_le (C x (greater g u.1)) ≡ true) same (greater_is_join.above_right g u.1))
          (λ n. greater_is_join.transitive f g (greater g u.1) (h.1 f n) (greater_is_join.above_left g u.1)),
    )

    passes_by : (u : N × V) (us : List (N × V)) (q : N) (a : Option V) → ¬ (u.0 ≡ q) → IsGreatestAt C us q a → IsGreatestAt C (u ∷ us) q a
    passes_by u us q None apart h = λ e m. by_place u us (q, e) m (λ is. apart (ap (λ (x : N × V). x.0) is)) (h e)
    passes_by u us q (Some g) apart h = (Contains-there u us (q, g) h.0, λ f m. by_place u us (q, f) m (λ is. absurd (apart (ap (λ (x : N × V). x.0) is))) (h.1 f))

    one_greatest : (us : List (N × V)) (q : N) (a b : Option V) → IsGreatestAt C us q a → IsGreatestAt C us q b → a ≡ b
    one_greatest us q None None h k = refl
    one_greatest us q None (Some b) h k = absurd (h b k.0)
    one_greatest us q (Some a) None h k = absurd (k a h.0)
    one_greatest us q (Some a) (Some b) h k = ap (λ x. Some x) (alike a b (k.1 a h.0) (h.1 b k.0))

    by_members : (us vs : List (N × V)) → ((u : N × V) → Contains us u ↔ Contains vs u) → (q : N) (a : Option V) → IsGreatestAt C us q a → IsGreatestAt C vs q a
    by_members us vs h q None g = λ e m. g e ((h (q, e)).1 m)
    by_members us vs h q (Some x) g = ((h (q, x)).0 g.0, λ f m. g.1 f ((h (q, f)).1 m))

  module _ {N : Type 0} {R : N → N → Ordering} (o : IsTotalOrder R) where
    -- the store has at each name the greatest entry
    pub get-store_of : (us : List (N × V)) (q : N) → get (store_of C R us) q ≡ greatest_at C R us q
    get-store_of [] q = get-empty R q
    get-store_of (u ∷ us) q =
        get-insert o (store_of C R us) u.0 (joined_onto greater (get (store_of C R us) u.0) u.1) q
        ∙ elim (eq_by_cmp R q u.0) as (λ b. eq_by_cmp R q u.0 ≡ b → cond b (Some (joined_onto greater (get (store_of C R us) u.0) u.1)) (get (store_of C R us) q) ≡ cond b (Some (joined_onto greater (greatest_at C R us q) u.1)) (greatest_at C R us q)) [
          | true ↦ λ same. ap (λ a. Some (joined_onto greater a u.1)) (get_tied o (store_of C R us) q u.0 (equal_of (R q u.0) same) ∙ get-store_of us q)
          | false ↦ λ apart. get-store_of us q
        ] refl

    -- the greatest of two lists of updates together is the greater of the two greatest
    pub greatest_at-append : (us vs : List (N × V)) (q : N) → greatest_at C R (us ++ vs) q ≡ option_joined greater (greatest_at C R us q) (greatest_at C R vs q)
    greatest_at-append [] vs q = refl
    greatest_at-append (u ∷ us) vs q =
        elim (eq_by_cmp R q u.0) as (λ b. cond b (Some (joined_onto greater (greatest_at C R (us ++ vs) q) u.1)) (greatest_at C R (us ++ vs) q) ≡ option_joined greater (cond b (Some (joined_onto greater (greatest_at C R us q) u.1)) (greatest_at C R us q)) (greatest_at C R vs q)) [
          | true ↦ ap (λ a. Some (joined_onto greater a u.1)) (greatest_at-append us vs q) ∙ onto_joined (greatest_at C R us q) (greatest_at C R vs q) u.1
          | false ↦ greatest_at-append us vs q
        ]

    pub first_of : (a b : Bool) → (a && b) ≡ true → a ≡ true
    first_of true b h = refl
    first_of false b h = h

    pub second_of : (a b : Bool) → (a && b) ≡ true → b ≡ true
    second_of true b h = h
    second_of false b h = absurd (cc)

    -- below every key there is none
    none_below : (x q : N) (es : List (N × V)) → R q x ≡ Equal → below_all R x es ≡ true → greatest_at C R es q ≡ None
    none_below x q [] t h = refl
    none_below x q (e ∷ es) t h =
        elim (R x e.0) as (λ r. R x e.0 ≡ r → greatest_at C R (e ∷ es) q ≡ None) [
          | Less ↦ λ is. ap (λ r. cond (is_eq r) (Some (joined_onto greater (greatest_at C R es q) e.1)) (greatest_at C R es q)) (o.congr q x e.0 t ∙ is) ∙ none_below x q es t (second_of (is_lt (R x e.0)) (below_all R x es) h)
          | Equal ↦ λ is. let c : is_lt (R x e.0) ≡ true = first_of (is_lt (R x e.0)) (below_all R x es) h in let d : is_lt (R x e.0) ≡ false = ap is_lt is in absurd (cc)
          | Greater ↦ λ is. let c : is_lt (R x e.0) ≡ true = first_of (is_lt (R x e.0)) (below_all R x es) h in let d : is_lt (R x e.0) ≡ false = ap is_lt is in absurd (cc)
        ] refl

    -- a store is the store of its own entries
    pub greatest_at-sorted : (es : List (N × V)) (q : N) → is_sorted R es ≡ true → greatest_at C R es q ≡ find R q es
    greatest_at-sorted [] q h = refl
    greatest_at-sorted (e ∷ es) q h =
        elim (eq_by_cmp R q e.0) as (λ b. eq_by_cmp R q e.0 ≡ b → cond b (Some (joined_onto greater (greatest_at C R es q) e.1)) (greatest_at C R es q) ≡ cond b (Some e.1) (find R q es)) [
          | true ↦ λ same. ap (λ a. Some (joined_onto greater a e.1)) (none_below e.0 q es (equal_of (R q e.0) same) (first_of (below_all R e.0 es) (is_sorted R es) h))
          | false ↦ λ apart. greatest_at-sorted es q (second_of (below_all R e.0 es) (is_sorted R es) h)
        ] refl

    pub true_of : (b : Bool) → T b → b ≡ true
    true_of true h = refl
    true_of false h = absurd h

    pub greatest_at-entries : (m : FinMap R V) (q : N) → greatest_at C R (entries m) q ≡ get m q
    greatest_at-entries m q = greatest_at-sorted (entries m) q (true_of (is_sorted R (entries m)) (entries_sorted m)) ∙ sym (get-entries m q)

    module _ (exact : IsAntisymmetric R) where
      -- the join of two stores is the store of the updates of both
      pub store_of-append : (us vs : List (N × V)) → store_of C R (entries (store_of C R us) ++ vs) ≡ store_of C R (us ++ vs)
      store_of-append us vs = same_map o exact _ _ (λ q.
          get-store_of (entries (store_of C R us) ++ vs) q ∙ greatest_at-append (entries (store_of C R us)) vs q
          ∙ ap (λ a. option_joined greater a (greatest_at C R vs q)) (greatest_at-entries (store_of C R us) q ∙ get-store_of us q)
          ∙ sym (greatest_at-append us vs q) ∙ sym (get-store_of (us ++ vs) q))

      pub store_of-append_right : (us vs : List (N × V)) → store_of C R (us ++ entries (store_of C R vs)) ≡ store_of C R (us ++ vs)
      store_of-append_right us vs = same_map o exact _ _ (λ q.
          get-store_of (us ++ entries (store_of C R vs)) q ∙ greatest_at-append us (entries (store_of C R vs)) q
          ∙ ap (option_joined greater (greatest_at C R us q)) (greatest_at-entries (store_of C R vs) q ∙ get-store_of vs q)
          ∙ sym (greatest_at-append us vs q) ∙ sym (get-store_of (us ++ vs) q))

      pub store_of-entries : (m : FinMap R V) → store_of C R (entries m) ≡ m
      store_of-entries m = same_map o exact _ _ (λ q. get-store_of (entries m) q ∙ greatest_at-entries m q)

      -- one more update
      pub store_of-push : (m : FinMap R V) (k : N) (v : V) → store_of C R (entries m ++ (k, v) ∷ []) ≡ insert m k (joined_onto greater (get m k) v)
      store_of-push m k v = same_map o exact _ _ (λ q.
          get-store_of (entries m ++ (k, v) ∷ []) q ∙ greatest_at-append (entries m) ((k, v) ∷ []) q
          ∙ ap (λ a. option_joined greater a (greatest_at C R ((k, v) ∷ []) q)) (greatest_at-entries m q)
          ∙ elim (eq_by_cmp R q k) as (λ b. eq_by_cmp R q k ≡ b → option_joined greater (get m q) (cond b (Some v) None) ≡ cond b (Some (joined_onto greater (get m k) v)) (get m q)) [
            | true ↦ λ same. ap (λ a. option_joined greater a (Some v)) (sym (get_tied o m q k (equal_of (R q k) same))) ∙ sym (joined_some (get m k) v)
            | false ↦ λ apart. joined_none (get m q)
          ] refl
          ∙ sym (get-insert o m k (joined_onto greater (get m k) v) q))

      -- what the fold finds is the greatest entry
      pub is_greatest_at : (us : List (N × V)) (q : N) → IsGreatestAt C us q (greatest_at C R us q)
      is_greatest_at [] q = λ e h. Contains-none (q, e) h
      is_greatest_at (u ∷ us) q =
          elim (eq_by_cmp R q u.0) as (λ b. eq_by_cmp R q u.0 ≡ b → IsGreatestAt C (u ∷ us) q (cond b (Some (joined_onto greater (greatest_at C R us q) u.1)) (greatest_at C R us q))) [
            | true ↦ λ same. subst (λ n. IsGreatestAt C (u ∷ us) n (Some (joined_onto greater (greatest_at C R us q) u.1))) (sym (exact q u.0 (equal_of (R q u.0) same)))
                (greater_member u us (greatest_at C R us q) (subst (λ n. IsGreatestAt C us n (greatest_at C R us q)) (exact q u.0 (equal_of (R q u.0) same)) (is_greatest_at us q)))
            | false ↦ λ apart. passes_by u us q (greatest_at C R us q) (λ e. let t : eq_by_cmp R q u.0 ≡ true = ap (λ n. eq_by_cmp R n u.0) (sym e) ∙ ap is_eq (tied_itself o u.0) in absurd (cc)) (is_greatest_at us q)
          ] refl

      pub is_store_of-store_of : (us : List (N × V)) → IsStoreOf C us (store_of C R us)
      is_store_of-store_of us q = subst (IsGreatestAt C us q) (sym (get-store_of us q)) (is_greatest_at us q)

      -- there is one store of a set of updates
      pub same_store : (us : List (N × V)) (m n : FinMap R V) → IsStoreOf C us m → IsStoreOf C us n → m ≡ n
      same_store us m n h k = same_map o exact m n (λ q. one_greatest us q (get m q) (get n q) (h q) (k q))

      -- order, repeats and grouping don't matter
      pub store_of-same_members : (us vs : List (N × V)) → ((u : N × V) → Contains us u ↔ Contains vs u) → store_of C R us ≡ store_of C R vs
      store_of-same_members us vs h = same_store vs (store_of C R us) (store_of C R vs) (λ q. by_members us vs h q (get (store_of C R us) q) (is_store_of-store_of us q)) (is_store_of-store_of vs)

      -- ---- the join of stores
      pub get-joined : (s t : FinMap R V) (q : N) → get (joined_stores C R s t) q ≡ option_joined greater (get s q) (get t q)
      get-joined s t q =
          get-store_of (entries s ++ entries t) q
          ∙ greatest_at-append (entries s) (entries t) q
          ∙ ap (λ a. option_joined greater a (greatest_at C R (entries t) q)) (greatest_at-entries s q)
          ∙ ap (option_joined greater (get s q)) (greatest_at-entries t q)

      -- the store of the updates of both is the least store above both
      pub joined_is_least : (s t : FinMap R V) → IsLeastAbove (IsStoreBelow C) s t (joined_stores C R s t)
      joined_is_least s t = record {
        above_left = λ q. subst (λ a. option_below below (get s q) a ≡ true) (sym (get-joined s t q)) (above_first below greater greater_is_join (get s q) (get t q));
        above_right = λ q. subst (λ a. option_below below (get t q) a ≡ true) (sym (get-joined s t q)) (above_second below greater greater_is_join (get s q) (get t q));
        least = λ u h k q. subst (λ a. option_below below a (get u q) ≡ true) (sym (get-joined s t q)) (least_above below greater greater_is_join (get s q) (get t q) (get u q) (h q) (k q));
      }

      -- stores that are below each other are one
      pub one_if_below : (s t : FinMap R V) → IsStoreBelow C s t → IsStoreBelow C t s → s ≡ t
      one_if_below s t h k = same_map o exact s t (λ q. one_of (get s q) (get t q) (h q) (k q))
        where
          one_of : (a b : Option V) → option_below below a b ≡ true → option_below below b a ≡ true → a ≡ b
          one_of None None h k = refl
          one_of None (Some b) h k = absurd (cc)
          one_of (Some a) None h k = absurd (cc)
          one_of (Some a) (Some b) h k = ap (λ x. Some x) (alike a b h k)

      -- there is one join
      pub one_least : (s t j : FinMap R V) → IsLeastAbove (IsStoreBelow C) s t j → j ≡ joined_stores C R s t
      one_least s t j h =
          let join = joined_stores C R s t in
          let l = joined_is_least s t in
          one_if_below j join (h.least join l.above_left l.above_right) (l.least j h.above_left h.above_right)
