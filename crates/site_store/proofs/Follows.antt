-- A valid index stays valid.
use Rattle.std.proofs.Common.{◌≡◌, ◌∙◌, refl, sym, ap, subst, Bool, true, false, List, [], ◌∷◌, ◌++◌, map, Option, Some}
use Rattle.std.proofs.Common.{None}
use Rattle.std.specs.Prelude.{ℕ, cond, option_and_then, string_bytes, IfSome}
use Rattle.std.specs.List.Sorted.{IsStrictlySortedBy}
use Rattle.std.specs.List.{AllByRecursion}
use Rattle.std.specs.BTreeMap.{insert_entry}
use Rattle.std.specs.Map.{keys_of}
use Rattle.std.specs.Map.Iter.{deref_pair}
use Rattle.std.specs.Borrow.{Bor}
use Rattle.std.specs.Ordering.{is_eq, match_ordering}
use Rattle.std.specs.Str.{bytes_eq}
use Rattle.std.specs.String.{string_cmp}
use Rattle.std.specs.declared.alloc.Global.{Global}
use Rattle.std.specs.declared.string.String.{String}
use Rattle.std.specs.declared.cmp.Ordering.{Ordering}
use Rattle.std.specs.declared.cmp.Ordering.TheVariants.{Less, Equal, Greater}
use Rattle.std.specs.Cmp.{tied_itself}
use Rattle.std.proofs.lemmas.Slice.Eq.{bytes_eq-Decides}
use Rattle.std.proofs.lemmas.Map.Text.{is_eq-slice_cmp}
use Rattle.values.specs.Names.{text_cmp, text_cmp-IsTotalOrder, text_cmp-IsAntisymmetric}
use Rattle.scope_index.specs.policy_grammar.declared.policy.Policy.{Policy}
use Rattle.scope_index.specs.Keys.{Kept, kept_at}
use Rattle.stamped_store.specs.declared.entry.Entry.{Entry}
use Rattle.stamped_store.specs.EntryOrder.{greater}
use Rattle.stamped_store.specs.JoinMaps.{value_at_text, taken}
use Rattle.site_store.specs.Indexed.{PolicyEntries, policy_in, policy_at, AreIndexed}
use Rattle.site_store.specs.inner.IndexUpdating.{AreIndexedBut, noted}

-- ---- another id has what it had

pub is_at_bytes : (q b : List ℕ) (t : Bool) → bytes_eq b q ≡ t → is_eq (text_cmp q b) ≡ t
is_at_bytes q b t h = is_eq-slice_cmp q b ∙ turned q b t h
  where
    turned : (q b : List ℕ) (t : Bool) → bytes_eq b q ≡ t → bytes_eq q b ≡ t
    turned q b true h = (bytes_eq-Decides q b).1 (sym ((bytes_eq-Decides b q).0 h))
    turned q b false h = not_same (bytes_eq q b) refl
      where
        not_same : (x : Bool) → bytes_eq q b ≡ x → x ≡ false
        not_same false e = refl
        not_same true e =
            let yes : bytes_eq b q ≡ true = (bytes_eq-Decides b q).1 (sym ((bytes_eq-Decides q b).0 e)) in absurd (cc (yes, h))

pub at_other : {V : Type 0} (es : List (String Global × V)) (k : String Global) (v : V) (q : List ℕ)
    → is_eq (text_cmp q (string_bytes k)) ≡ false → value_at_text (insert_entry string_cmp es k v) q ≡ value_at_text es q
at_other [] k v q apart = ap (λ b. cond b (Some v) None) apart
at_other (e ∷ es) k v q apart =
    elim (string_cmp k e.0) as (λ r. string_cmp k e.0 ≡ r
    → value_at_text (match_ordering r ((k, v) ∷ e ∷ es) ((e.0, v) ∷ es) (e ∷ insert_entry string_cmp es k v)) q
    ≡ value_at_text (e ∷ es) q) [
      | Less ↦ λ is. ap (λ b. cond b (Some v) (value_at_text (e ∷ es) q)) apart
      | Equal ↦ λ is.
          let here : is_eq (text_cmp q (string_bytes e.0)) ≡ false =
          subst (λ b. is_eq (text_cmp q b) ≡ false) (text_cmp-IsAntisymmetric (string_bytes k) (string_bytes e.0) is) apart in
          ap (λ b. cond b (Some v) (value_at_text es q)) here ∙ sym (ap (λ b. cond b (Some e.1) (value_at_text es q)) here)
      | Greater ↦ λ is. ap (λ o. cond (is_eq (text_cmp q (string_bytes e.0))) (Some e.1) o) (at_other es k v q apart)
    ] refl

pub other_ids : (es : PolicyEntries) (kept : Kept) (id : String Global) (entry : Entry Policy) (name : List ℕ)
    → name ≡ string_bytes id → AreIndexed es kept → AreIndexedBut name (taken string_cmp greater es id entry) kept
other_ids es kept id entry name is h q apart =
    let there : bytes_eq (string_bytes id) q ≡ false = subst (λ b. bytes_eq b q ≡ false) is apart in
    h q ∙ sym (ap (λ o. option_and_then policy_in o)
    (at_other es id _ q (is_at_bytes q (string_bytes id) false there)))

-- ---- right at one id more

pub set_right : (es : PolicyEntries) (id : List ℕ) (old new : Kept) (o : Option Policy) → o ≡ policy_at es id → AreIndexedBut id es old
    → ((q : List ℕ) → kept_at new q ≡ cond (bytes_eq id q) o (kept_at old q)) → AreIndexed es new
set_right es id old new o is h at q =
    elim (bytes_eq id q) as (λ t. bytes_eq id q ≡ t → kept_at new q ≡ cond t o (kept_at old q) → kept_at new q ≡ policy_at es q) [
      | true ↦ λ same e. e ∙ is ∙ ap (λ i. policy_at es i) ((bytes_eq-Decides id q).0 same)
      | false ↦ λ apart e. e ∙ h q apart
    ] refl (at q)

-- ---- entry by entry

below_head : (y : String Global) (ks : List (String Global)) (k : String Global) (rest : List (String Global))
    → AllByRecursion (λ z. string_cmp y z ≡ Less) (ks ++ k ∷ rest) → string_cmp y k ≡ Less
below_head y [] k rest h = h.0
below_head y (x ∷ ks) k rest h = below_head y ks k rest h.1

not_at : (a b : List ℕ) → text_cmp a b ≡ Less → (t : Bool) → is_eq (text_cmp b a) ≡ t → t ≡ false
not_at a b less false e = refl
not_at a b less true e = absurd (contrary (text_cmp b a) refl e)
  where
    contrary : (r : Ordering) → text_cmp b a ≡ r → is_eq r ≡ true → ⊥
    contrary Less is t = cc (t)
    contrary Greater is t = cc (t)
    contrary Equal is t =
        let same : b ≡ a = text_cmp-IsAntisymmetric b a is in
        let tied : text_cmp a a ≡ Equal = tied_itself text_cmp-IsTotalOrder a in
        let below : text_cmp a a ≡ Less = subst (λ z. text_cmp a z ≡ Less) same less in
        cc (tied, below)

keys_append : (ys : PolicyEntries) (e : String Global × Entry Policy) (rest : PolicyEntries) → keys_of (ys ++ e ∷ rest) ≡ keys_of ys ++ e.0 ∷ keys_of rest
keys_append [] e rest = refl
keys_append (y ∷ ys) e rest = ap (λ l. y.0 ∷ l) (keys_append ys e rest)

-- an item of a smaller key is not found at the key
none_before : (ys : PolicyEntries) (e : String Global × Entry Policy) (rest : PolicyEntries)
    → IsStrictlySortedBy string_cmp (keys_of ys ++ e.0 ∷ keys_of rest) → value_at_text ys (string_bytes e.0) ≡ None
unfolding IsStrictlySortedBy
none_before [] e rest h = refl
none_before (y ∷ ys) e rest h =
    let less : text_cmp (string_bytes y.0) (string_bytes e.0) ≡ Less = below_head y.0 (keys_of ys) e.0 (keys_of rest) h.0 in
    let apart : is_eq (text_cmp (string_bytes e.0) (string_bytes y.0)) ≡ false = not_at (string_bytes y.0) (string_bytes e.0) less _ refl in
    ap (λ b. cond b (Some y.1) (value_at_text ys (string_bytes e.0))) apart ∙ none_before ys e rest h.1

at_last : {V : Type 0} (ys : List (String Global × V)) (e : String Global × V) (q : List ℕ) → value_at_text ys q ≡ None
    → is_eq (text_cmp q (string_bytes e.0)) ≡ true → value_at_text (ys ++ e ∷ []) q ≡ Some e.1
at_last [] e q none same = ap (λ b. cond b (Some e.1) None) same
at_last (y ∷ ys) e q none same =
    elim (is_eq (text_cmp q (string_bytes y.0))) as (λ b. cond b (Some y.1) (value_at_text ys q) ≡ None
    → cond b (Some y.1) (value_at_text (ys ++ e ∷ []) q) ≡ Some e.1) [
      | true ↦ λ h. absurd (cc (h))
      | false ↦ λ h. at_last ys e q h same
    ] none

at_others : {V : Type 0} (ys : List (String Global × V)) (e : String Global × V) (q : List ℕ)
    → is_eq (text_cmp q (string_bytes e.0)) ≡ false → value_at_text (ys ++ e ∷ []) q ≡ value_at_text ys q
at_others [] e q apart = ap (λ b. cond b (Some e.1) None) apart
at_others (y ∷ ys) e q apart = ap (λ o. cond (is_eq (text_cmp q (string_bytes y.0))) (Some y.1) o) (at_others ys e q apart)

noted_is : (o : Option Policy) (before : Option Policy) → before ≡ None → noted o before ≡ o
noted_is None before none = none
noted_is (Some p) before none = refl

pub one_entry_more : (ys : PolicyEntries) (e : String Global × Entry Policy) (rest whole : PolicyEntries) (old new : Kept)
    → ys ++ e ∷ rest ≡ whole → IsStrictlySortedBy string_cmp (keys_of whole) → AreIndexed ys old
    → ((q : List ℕ) → kept_at new q ≡ cond (bytes_eq (string_bytes e.0) q) (noted (policy_in e.1) (kept_at old q)) (kept_at old q))
    → AreIndexed (ys ++ e ∷ []) new
one_entry_more ys e rest whole old new all sorted h at q =
    let ordered : IsStrictlySortedBy string_cmp (keys_of ys ++ e.0 ∷ keys_of rest) =
    subst (λ l. IsStrictlySortedBy string_cmp l) (ap keys_of (sym all) ∙ keys_append ys e rest) sorted in
    step ordered
  where
    step : IsStrictlySortedBy string_cmp (keys_of ys ++ e.0 ∷ keys_of rest) → kept_at new q ≡ policy_at (ys ++ e ∷ []) q
    step ordered =
        elim (bytes_eq (string_bytes e.0) q) as (λ t. bytes_eq (string_bytes e.0) q ≡ t
        → kept_at new q ≡ cond t (noted (policy_in e.1) (kept_at old q)) (kept_at old q) → kept_at new q ≡ policy_at (ys ++ e ∷ []) q) [
          | true ↦ λ same f.
              let none : value_at_text ys q ≡ None =
              subst (λ b. value_at_text ys b ≡ None) ((bytes_eq-Decides (string_bytes e.0) q).0 same) (none_before ys e rest ordered) in
              let before : kept_at old q ≡ None = h q ∙ ap (λ o. option_and_then policy_in o) none in
              f ∙ noted_is (policy_in e.1) (kept_at old q) before
              ∙ sym (ap (λ o. option_and_then policy_in o) (at_last ys e q none (is_at_bytes q (string_bytes e.0) true same)))
          | false ↦ λ apart f.
              f ∙ h q ∙ sym (ap (λ o. option_and_then policy_in o) (at_others ys e q (is_at_bytes q (string_bytes e.0) false apart)))
        ] refl (at q)

pub right_elsewhere : (es es' : PolicyEntries) (id : String Global) (entry : Entry Policy) → es' ≡ taken string_cmp greater es id entry
    → (name : List ℕ) → name ≡ string_bytes id → (o : Option Kept) → IfSome o (AreIndexed es) → IfSome o (AreIndexedBut name es')
right_elsewhere es es' id entry took name is None h = tt
right_elsewhere es es' id entry took name is (Some kept) h =
    subst (λ l. AreIndexedBut name l kept) (sym took) (other_ids es kept id entry name is h)

pub pushed : (xs : List (Bor (String Global) × Bor (Entry Policy))) (x : Bor (String Global) × Bor (Entry Policy))
    → map deref_pair (xs ++ x ∷ []) ≡ map deref_pair xs ++ deref_pair x ∷ []
pushed [] x = refl
pushed (y ∷ ys) x = ap (λ r. deref_pair y ∷ r) (pushed ys x)

pub still_rest : (xs : List (Bor (String Global) × Bor (Entry Policy))) (x : Bor (String Global) × Bor (Entry Policy)) (rest whole : PolicyEntries)
    → map deref_pair xs ++ deref_pair x ∷ rest ≡ whole → map deref_pair (xs ++ x ∷ []) ++ rest ≡ whole
still_rest [] x rest whole h = h
still_rest (y ∷ ys) x rest whole h = ap (λ l. deref_pair y ∷ l) (still_rest ys x rest (map deref_pair ys ++ deref_pair x ∷ rest) refl) ∙ h
