-- What a store has at each key after values were joined.
use Rattle.std.specs.Prelude.{take, length, ◌≡◌, Bool, true, false, List, [], ◌∷◌, ◌++◌, Option, Some, None, refl, cond}
use Rattle.std.proofs.Math.Seq.{take-append_seam}
use Rattle.std.specs.List.{AllByRecursion}
use Rattle.std.proofs.Common.{subst, sym, ◌∙◌, ap}
use Rattle.std.specs.BTreeMap.{insert_entry, is_at}
use Rattle.std.specs.Map.{keys_of}
use Rattle.std.specs.Ordering.{ordering_reverse, is_eq, match_ordering}
use Rattle.std.specs.Cmp.{IsTotalOrder, tied_back, tied_itself, alike_right, eq_by_cmp_equiv}
use Rattle.std.specs.List.Sorted.{IsStrictlySortedBy}
use Rattle.std.specs.declared.cmp.Ordering.{Ordering}
use Rattle.std.specs.declared.cmp.Ordering.TheVariants.{Less, Equal, Greater}
use Rattle.std.proofs.lemmas.Map.{lookup-none}
use Rattle.std.proofs.lemmas.Map.Entries.{none_past_head}
use Rattle.std.proofs.lemmas.Map.Keys.{sorted_tail, IsDistinct-from_sorted}
use Rattle.stamped_store.specs.Joins.{option_below, option_joined}
use Rattle.stamped_store.specs.JoinMaps.{value_at, taken, all_joined, joined_onto, KeepsOthers, IsJoined, IsBelow}

equal_of : (r : Ordering) → is_eq r ≡ true → r ≡ Equal
equal_of Less h = absurd (cc)
equal_of Equal h = refl
equal_of Greater h = absurd (cc)

all_prefix : {K : Type 0} (P : K → Type 0) (ks ls : List K) → AllByRecursion P (ks ++ ls) → AllByRecursion P ks
all_prefix P [] ls h = tt
all_prefix P (k ∷ ks) ls h = (h.0, all_prefix P ks ls h.1)

sorted_prefix : {K : Type 0} (R : K → K → Ordering) (ks ls : List K) → IsStrictlySortedBy R (ks ++ ls) → IsStrictlySortedBy R ks
unfolding IsStrictlySortedBy
sorted_prefix R [] ls h = tt
sorted_prefix R (k ∷ ks) ls h = (all_prefix (λ y. R k y ≡ Less) ks ls h.0, sorted_prefix R ks ls h.1)

module _ {K V : Type 0} {R : K → K → Ordering} (o : IsTotalOrder R) where
  -- keys that tie find the same
  pub value_at-tied : (es : List (K × V)) (k q : K) → R k q ≡ Equal → value_at R es k ≡ value_at R es q
  value_at-tied [] k q h = refl
  value_at-tied (e ∷ es) k q h = ap (λ r. cond (is_eq r) (Some e.1) (value_at R es k)) (o.congr k q e.0 h) ∙ ap (cond (is_eq (R q e.0)) (Some e.1)) (value_at-tied es k q h)

  -- what is found after an insertion
  pub value_at-insert_entry : (es : List (K × V)) (k q : K) (w : V) → value_at R (insert_entry R es k w) q ≡ cond (is_eq (R q k)) (Some w) (value_at R es q)
  value_at-insert_entry [] k q w = refl
  value_at-insert_entry (e ∷ es) k q w =
      elim (R k e.0) as (λ r. R k e.0 ≡ r → value_at R (match_ordering r ((k, w) ∷ e ∷ es) ((e.0, w) ∷ es) (e ∷ insert_entry R es k w)) q ≡ cond (is_eq (R q k)) (Some w) (value_at R (e ∷ es) q)) [
        | Less ↦ λ is. refl
        | Equal ↦ λ is.
            let same : R q e.0 ≡ R q k = sym (alike_right o k e.0 q is) in
            elim (is_eq (R q k)) as (λ b. is_eq (R q k) ≡ b → cond (is_eq (R q e.0)) (Some w) (value_at R es q) ≡ cond b (Some w) (cond (is_eq (R q e.0)) (Some e.1) (value_at R es q))) [
              | true ↦ λ yes. ap (λ b. cond b (Some w) (value_at R es q)) (ap is_eq same ∙ yes)
              | false ↦ λ no. ap (λ b. cond b (Some w) (value_at R es q)) (ap is_eq same ∙ no) ∙ sym (ap (λ b. cond b (Some e.1) (value_at R es q)) (ap is_eq same ∙ no))
            ] refl
        | Greater ↦ λ is.
            elim (is_eq (R q e.0)) as (λ b. is_eq (R q e.0) ≡ b → cond b (Some e.1) (value_at R (insert_entry R es k w) q) ≡ cond (is_eq (R q k)) (Some w) (cond b (Some e.1) (value_at R es q))) [
              | true ↦ λ yes.
                  let at_e : R q e.0 ≡ Equal = equal_of (R q e.0) yes in
                  let apart : is_eq (R q k) ≡ false = ap is_eq (o.congr q e.0 k at_e ∙ o.antisymm e.0 k ∙ ap ordering_reverse is) in
                  sym (ap (λ b. cond b (Some w) (Some e.1)) apart)
              | false ↦ λ no. value_at-insert_entry es k q w
            ] refl
      ] refl

  joined_none : (join : V → V → V) (a : Option V) → option_joined join a None ≡ a
  joined_none join None = refl
  joined_none join (Some a) = refl

  joined_some : (join : V → V → V) (a : Option V) (v : V) → Some (joined_onto join a v) ≡ option_joined join a (Some v)
  joined_some join None v = refl
  joined_some join (Some a) v = refl

  pub value_at-taken : (join : V → V → V) (s : List (K × V)) (k q : K) (v : V) → value_at R (taken R join s k v) q ≡ option_joined join (value_at R s q) (cond (is_eq (R q k)) (Some v) None)
  value_at-taken join s k q v =
      value_at-insert_entry s k q (joined_onto join (value_at R s k) v)
      ∙ elim (is_eq (R q k)) as (λ b. is_eq (R q k) ≡ b → cond b (Some (joined_onto join (value_at R s k) v)) (value_at R s q) ≡ option_joined join (value_at R s q) (cond b (Some v) None)) [
        | true ↦ λ yes. joined_some join (value_at R s k) v ∙ ap (λ a. option_joined join a (Some v)) (value_at-tied s k q (tied_back o q k (equal_of (R q k) yes)))
        | false ↦ λ no. sym (joined_none join (value_at R s q))
      ] refl

  -- at the key there is the join
  value_at-taken_here : (join : V → V → V) (s : List (K × V)) (k : K) (v : V) → value_at R (taken R join s k v) k ≡ Some (joined_onto join (value_at R s k) v)
  value_at-taken_here join s k v = value_at-insert_entry s k k (joined_onto join (value_at R s k) v) ∙ ap (λ r. cond (is_eq r) (Some (joined_onto join (value_at R s k) v)) (value_at R s k)) (tied_itself o k)

  -- every other key has what it had
  value_at-taken_apart : (join : V → V → V) (s : List (K × V)) (k : K) (v : V) → KeepsOthers R k s (taken R join s k v)
  value_at-taken_apart join s k v q apart =
      value_at-insert_entry s k q (joined_onto join (value_at R s k) v)
      ∙ elim (is_eq (R q k)) as (λ b. is_eq (R q k) ≡ b → cond b (Some (joined_onto join (value_at R s k) v)) (value_at R s q) ≡ value_at R s q) [
        | true ↦ λ same. absurd (apart (equal_of (R q k) same))
        | false ↦ λ other. refl
      ] refl

  pub joined_here : (join : V → V → V) (s n : List (K × V)) (k : K) (v : V) → n ≡ taken R join s k v → value_at R n k ≡ Some (joined_onto join (value_at R s k) v)
  joined_here join s n k v e = ap (λ es. value_at R es k) e ∙ value_at-taken_here join s k v

  pub others_kept : (join : V → V → V) (s n : List (K × V)) (k : K) (v : V) → n ≡ taken R join s k v → KeepsOthers R k s n
  others_kept join s n k v e = subst (KeepsOthers R k s) (sym e) (value_at-taken_apart join s k v)

  -- what is at the first key is at no later one
  none_later : (e : K × V) (es : List (K × V)) (q : K) → IsStrictlySortedBy R (keys_of (e ∷ es)) → is_eq (R q e.0) ≡ true → value_at R es q ≡ None
  none_later e es q h same = lookup-none (is_at (R q)) es (none_past_head (eq_by_cmp_equiv o) q e es (IsDistinct-from_sorted R (keys_of (e ∷ es)) h) same)

  pub is_joined-all_joined : (join : V → V → V) (s es : List (K × V)) → IsStrictlySortedBy R (keys_of es) → IsJoined R join s es (all_joined R join s es)
  is_joined-all_joined join s [] h q = sym (joined_none join (value_at R s q))
  is_joined-all_joined join s (e ∷ es) h q =
      is_joined-all_joined join (taken R join s e.0 e.1) es (sorted_tail R e.0 (keys_of es) h) q
      ∙ ap (λ a. option_joined join a (value_at R es q)) (value_at-taken join s e.0 q e.1)
      ∙ elim (is_eq (R q e.0)) as (λ b. is_eq (R q e.0) ≡ b → option_joined join (option_joined join (value_at R s q) (cond b (Some e.1) None)) (value_at R es q) ≡ option_joined join (value_at R s q) (cond b (Some e.1) (value_at R es q))) [
        | true ↦ λ yes. ap (option_joined join (option_joined join (value_at R s q) (Some e.1))) (none_later e es q h yes) ∙ joined_none join _
        | false ↦ λ no. ap (λ a. option_joined join a (value_at R es q)) (joined_none join (value_at R s q))
      ] refl

  keys_of-append : (es fs : List (K × V)) → keys_of (es ++ fs) ≡ keys_of es ++ keys_of fs
  keys_of-append [] fs = refl
  keys_of-append (e ∷ es) fs = ap (λ ks. e.0 ∷ ks) (keys_of-append es fs)

  -- the first entries of a store, joined
  pub is_joined-prefix : (join : V → V → V) (s es rest other : List (K × V)) → es ++ rest ≡ other → IsStrictlySortedBy R (keys_of other) → IsJoined R join s (take (length es) other) (all_joined R join s es)
  is_joined-prefix join s es rest other e h =
      let cut : take (length es) other ≡ es = ap (take (length es)) (sym e) ∙ take-append_seam es rest in
      let sorted : IsStrictlySortedBy R (keys_of es) = sorted_prefix R (keys_of es) (keys_of rest) (subst (IsStrictlySortedBy R) (ap keys_of (sym e) ∙ keys_of-append es rest) h) in
      subst (λ fs. IsJoined R join s fs (all_joined R join s es)) (sym cut) (is_joined-all_joined join s es sorted)

  -- entries that each have one above them make a store below
  pub below_from_entries : (below : V → V → Bool) (s t : List (K × V)) → AllByRecursion (λ e. option_below below (Some e.1) (value_at R t e.0) ≡ true) s → IsBelow R below s t
  below_from_entries below [] t h q = refl
  below_from_entries below (e ∷ es) t h q =
      elim (is_eq (R q e.0)) as (λ b. is_eq (R q e.0) ≡ b → option_below below (cond b (Some e.1) (value_at R es q)) (value_at R t q) ≡ true) [
        | true ↦ λ same. ap (option_below below (Some e.1)) (value_at-tied t q e.0 (equal_of (R q e.0) same)) ∙ h.0
        | false ↦ λ apart. below_from_entries below es t h.1 q
      ] refl

pub all_joined-push : {K V : Type 0} (R : K → K → Ordering) (join : V → V → V) (s es : List (K × V)) (e : K × V) → all_joined R join s (es ++ e ∷ []) ≡ taken R join (all_joined R join s es) e.0 e.1
all_joined-push R join s [] e = refl
all_joined-push R join s (x ∷ es) e = all_joined-push R join (taken R join s x.0 x.1) es e
