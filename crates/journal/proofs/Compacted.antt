-- What a crash leaves while a journal is compacted.
use Rattle.std.proofs.Common.{◌≡◌, ◌⊎◌, inl, inr, ℕ, Bool, true, false, List, [], ◌∷◌, refl, sym, ap, subst}
use Rattle.std.specs.List.{AllByRecursion}
use Rattle.values.specs.Names.{name_cmp-IsTotalOrder, name_cmp-IsAntisymmetric}
use Rattle.stamped_store.specs.Store.{Store, Update, store_of, updates}
use Rattle.stamped_store.proofs.Greatests.{entry_order}
use Rattle.stamped_store.proofs.GreatestsBy.{store_of-entries}
use Rattle.journal.specs.Events as event
use Rattle.journal.specs.Moments.{Moment, Passes, replaced}
use Rattle.journal.specs.Records.{AreRecordsOf, IsAtRest}
use Rattle.journal.specs.Survivors.{IsEither}
use Rattle.journal.proofs.Crashes.{same_at_rest}
use Rattle.journal.proofs.Passing.{Passes-one}

pub same_store : (s : Store) → store_of (updates s) ≡ s
same_store s = store_of-entries entry_order name_cmp-IsTotalOrder name_cmp-IsAntisymmetric s

module _ (states : List ℕ → List Update → Type 0) (checked : List ℕ → Bool) (us vs : List Update) (bytes : List ℕ) (old : Moment)
    (rest : IsAtRest states old us) (are : AreRecordsOf states vs bytes) where
  pub record AreEither (new : Moment) (since : List Moment) (done : Bool) : Type 0 where
    pub either : AllByRecursion (IsEither states checked us vs) since
    pub replies : new.replies ≡ old.replies
    pub ended : IsAtRest states new us ⊎ IsAtRest states new vs
    pub whole : done ≡ true → IsAtRest states new vs

  rest_replaced : IsAtRest states (replaced bytes old) vs
  rest_replaced = record { records = are.0; lines = are.1; whole = are.3; durable = refl; stated = are.2 }

  either_old : (m : Moment) → IsAtRest states m us → IsEither states checked us vs m
  either_old m is file left = inl (same_at_rest states checked m us file is left)

  either_new : (m : Moment) → IsAtRest states m vs → IsEither states checked us vs m
  either_new m is file left = inr (same_at_rest states checked m vs file is left)

  all_at : (since : List Moment) (new : Moment) → since ≡ new ∷ [] → IsEither states checked us vs new → AllByRecursion (IsEither states checked us vs) since
  all_at since new is either = subst (λ (ms : List Moment). AllByRecursion (IsEither states checked us vs) ms) (sym is) (either, tt)

  rest_at : (new : Moment) → new ≡ replaced bytes old → IsAtRest states new vs
  rest_at new is = subst (λ (m : Moment). IsAtRest states m vs) (sym is) rest_replaced

  replaced_at : (done : Bool) (new : Moment) (since : List Moment) → since ≡ new ∷ [] → new ≡ replaced bytes old → AreEither new since done
  replaced_at done new since all is = record {
    either = all_at since new all (either_new new (rest_at new is));
    replies = ap (λ m. m.replies) is;
    ended = inr (rest_at new is);
    whole = λ ok. rest_at new is;
  }

  untouched : (new : Moment) (since : List Moment) → since ≡ new ∷ [] → new ≡ old → AreEither new since false
  untouched new since all is =
      let same : IsAtRest states new us = subst (λ (m : Moment). IsAtRest states m us) (sym is) rest in record {
        either = all_at since new all (either_old new same);
        replies = ap (λ m. m.replies) is;
        ended = inl same;
        whole = λ ok. absurd (cc);
      }

  pub compacted_by : (done : Bool) (new : Moment) (since : List Moment) → Passes old (event.replace bytes done ∷ []) since new → AreEither new since done
  compacted_by true new since h = let one = Passes-one old new (event.replace bytes true) since h in replaced_at true new since one.0 one.1
  compacted_by false new since h =
      let one = Passes-one old new (event.replace bytes false) since h in elim one.1 [
        | inl same ↦ untouched new since one.0 same
        | inr other ↦ replaced_at false new since one.0 other
      ]
