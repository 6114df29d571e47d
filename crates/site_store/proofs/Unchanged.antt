-- If a stored entry stays, the index of a store stays valid.
use Rattle.std.proofs.Common.{◌≡◌, ◌∙◌, Option, Some, None, true, false, List, refl, ap, sym, subst, inl, inr}
use Rattle.std.proofs.Common.{string_bytes}
use Rattle.std.specs.Prelude.{◌⊎◌, ℕ, cond, Result, Ok, Err, OnOk, OnErr, option_and_then}
use Rattle.std.specs.Option.{IfSome}
use Rattle.std.specs.Ordering.{is_eq}
use Rattle.std.specs.Cmp.{IsTotalOrder, tied_back}
use Rattle.std.specs.String.{string_cmp, string_cmp_total}
use Rattle.std.specs.Str.{bytes_eq}
use Rattle.std.specs.declared.alloc.Global.{Global}
use Rattle.std.specs.declared.string.String.{String}
use Rattle.std.specs.declared.cmp.Ordering.{Ordering}
use Rattle.std.specs.declared.cmp.Ordering.TheVariants.{Less, Equal, Greater}
use Rattle.std.proofs.lemmas.Slice.Eq.{bytes_eq-Decides}
use Rattle.scope_index.specs.policy_grammar.declared.policy.Policy.{Policy}
use Rattle.scope_index.specs.Keys.{Kept}
use Rattle.stamped_store.specs.declared.entry.Entry.{Entry}
use Rattle.stamped_store.specs.EntryOrder.{greater}
use Rattle.stamped_store.specs.Joins.{option_joined}
use Rattle.stamped_store.specs.Store.{StoreEntries, concrete_entries}
use Rattle.stamped_store.specs.JoinMaps.{value_at, value_at_text, taken}
use Rattle.stamped_store.proofs.Points.{value_at-taken, value_at-tied}
use Rattle.site_store.specs.Indexed.{PolicyEntries, policy_in, AreIndexed}
use Rattle.site_store.specs.Winning.{StoredWins}
use Rattle.site_store.proofs.Follows.{at_other, is_at_bytes}

-- ---- what is found stays

equal_of : (r : Ordering) → is_eq r ≡ true → r ≡ Equal
equal_of Less h = absurd (cc)
equal_of Equal h = refl
equal_of Greater h = absurd (cc)

module _ {K V : Type 0} {R : K → K → Ordering} (o : IsTotalOrder R) where
  joined_none : (join : V → V → V) (a : Option V) → option_joined join a None ≡ a
  joined_none join None = refl
  joined_none join (Some a) = refl

  pub finds_the_same : (join : V → V → V) (s : List (K × V)) (k : K) (v e : V) → value_at R s k ≡ Some e → join e v ≡ e
      → (q : K) → value_at R (taken R join s k v) q ≡ value_at R s q
  finds_the_same join s k v e there same q =
      value_at-taken o join s k q v
      ∙ elim (is_eq (R q k)) as (λ b. is_eq (R q k) ≡ b → option_joined join (value_at R s q) (cond b (Some v) None) ≡ value_at R s q) [
        | true ↦ λ yes.
            let at_q : value_at R s q ≡ Some e = sym (value_at-tied o s k q (tied_back o q k (equal_of (R q k) yes))) ∙ there in
            ap (λ a. option_joined join a (Some v)) at_q ∙ ap Some same ∙ sym at_q
        | false ↦ λ no. joined_none join (value_at R s q)
      ] refl

-- ---- the index

same_texts : (es : PolicyEntries) (id : String Global) (entry : Entry Policy) → StoredWins (value_at_text es (string_bytes id)) entry
    → (q : List ℕ) → value_at_text (taken string_cmp greater es id entry) q ≡ value_at_text es q
same_texts es id entry (e, there, same) q =
    elim (bytes_eq (string_bytes id) q) as (λ t. bytes_eq (string_bytes id) q ≡ t
    → value_at_text (taken string_cmp greater es id entry) q ≡ value_at_text es q) [
      | true ↦ λ yes. subst (λ b. value_at_text (taken string_cmp greater es id entry) b ≡ value_at_text es b)
          ((bytes_eq-Decides (string_bytes id) q).0 yes) (finds_the_same string_cmp_total greater es id entry e there same id)
      | false ↦ λ no. at_other es id _ q (is_at_bytes q (string_bytes id) false no)
    ] refl

texts_after : {T F E : Type 0} (r : Result T F) (new old : StoreEntries Policy E) (id : String Global) (entry : Entry Policy)
    → OnOk r (new ≡ concrete_entries (taken string_cmp greater old.policies id entry) old.entities) → OnErr r (new ≡ old)
    → StoredWins (value_at_text old.policies (string_bytes id)) entry
    → (q : List ℕ) → value_at_text new.policies q ≡ value_at_text old.policies q
texts_after (Ok t) new old id entry is none stays q =
    ap (λ k. value_at_text k.policies q) is ∙ same_texts old.policies id entry stays q
texts_after (Err e) new old id entry none is stays q = ap (λ k. value_at_text k.policies q) is

pub index_stays : {T F E : Type 0} (r : Result T F) (new old : StoreEntries Policy E) (id : String Global) (entry : Entry Policy)
    → OnOk r (new ≡ concrete_entries (taken string_cmp greater old.policies id entry) old.entities) → OnErr r (new ≡ old)
    → (o : Option Kept) → (o ≡ None) ⊎ StoredWins (value_at_text old.policies (string_bytes id)) entry
    → IfSome o (AreIndexed old.policies) → IfSome o (AreIndexed new.policies)
index_stays r new old id entry ok err None why h = tt
index_stays r new old id entry ok err (Some kept) (inl none) h = absurd (cc (none))
index_stays r new old id entry ok err (Some kept) (inr stays) h = λ q.
    h q ∙ sym (ap (λ o. option_and_then policy_in o) (texts_after r new old id entry ok err stays q))
