-- The store of each site of a system is that of the updates that the site applied.
use Rattle.std.proofs.Common.{◌≡◌, ◌∙◌, ℕ, zero, suc, List, [], ◌∷◌, Option, Some, None, Result, Ok, Err, refl, sym, ap}
use Rattle.std.proofs.Common.{subst, inl, inr, append-nil, append_assoc, arith}
use Rattle.std.specs.Prelude.{◌⊎◌, ◌++◌, length, set, slice_get, option_map}
use Rattle.std.proofs.lemmas.Option.{slice_get-map}
use Rattle.values.specs.Names.{name_cmp-IsTotalOrder, name_cmp-IsAntisymmetric}
use Rattle.site.specs.schema.Schemas.{StatedSchema}
use Rattle.site.specs.stamped_store.Store.{Store, Update, updates, store_of}
use Rattle.site.specs.declared.fault.SiteFault.{SiteFault}
use Rattle.site.specs.Inputs.{Input}
use Rattle.site.specs.Inputs as input
use Rattle.site.specs.declared.reply.Reply.{Reply}
use Rattle.site.specs.declared.reply.Reply.TheVariants as reply
use Rattle.site.specs.Runs.{took_by}
use Rattle.site.specs.declared.event.Operation.{Operation}
use Rattle.site.specs.declared.event.Operation.TheVariants as operation
use Rattle.site.specs.declared.event.Event.{Event}
use Rattle.site.specs.declared.event.EventReply.{EventReply}
use Rattle.site.specs.declared.event.EventReply.TheVariants.{Unknown, Replied}
use Rattle.site.specs.Sites.{SiteName, SentSummary, SentMessage, World, numbered, set_numbered, start}
use Rattle.site.specs.Worlds.{input_of, answer_among, message_made, summary_made, after, IsStepAt, HappensAt}
use Rattle.site.specs.Worlds.{Happens, Leads}
use Rattle.site.proofs.Keeping.{get_set_numbered}
use Rattle.site.proofs.of_stamped_store.Greatests.{entry_order}
use Rattle.site.proofs.of_stamped_store.GreatestsBy.{is_store_of-store_of, store_of-append}
use Rattle.site_theorems.specs.Steps.{IsStep}
use Rattle.site_theorems.specs.Runs.{Applies}
use Rattle.site_theorems.specs.SiteStores.{AppliesIn, AppliesAt, here, elsewhere, AppliedAt, HoldsApplied}
use Rattle.site_theorems.specs.SiteStores.{SitesHoldApplied}
use Rattle.site_theorems.proofs.Running.{RunLaws, both, only_by, applied_by, run_from}

-- ---- lists by number
kept_before : {X : Type 0} (xs ys : List X) (k : ℕ) (x : X) → slice_get xs k ≡ Some x → slice_get (xs ++ ys) k ≡ Some x
kept_before [] ys k x h = absurd cc
kept_before (z ∷ xs) ys zero x h = h
kept_before (z ∷ xs) ys (suc k) x h = kept_before xs ys k x h

set_other : {X : Type 0} (xs : List X) (i k : ℕ) (x y : X) → (i ≡ k → ⊥) → slice_get xs k ≡ Some y
    → slice_get (set xs i x) k ≡ Some y
set_other [] i k x y apart h = h
set_other (z ∷ xs) zero zero x y apart h = absurd (apart refl)
set_other (z ∷ xs) zero (suc k) x y apart h = h
set_other (z ∷ xs) (suc i) zero x y apart h = h
set_other (z ∷ xs) (suc i) (suc k) x y apart h = set_other xs i k x y (λ same. apart (ap suc same)) h

set_elsewhere : {X : Type 0} (xs : List X) (i k : ℕ) (x y : X) → (i ≡ k → ⊥) → numbered xs k ≡ Some y
    → numbered (set_numbered xs i x) k ≡ Some y
set_elsewhere xs zero k x y apart h = h
set_elsewhere xs (suc i) zero x y apart h = h
set_elsewhere xs (suc i) (suc k) x y apart h = set_other xs i k x y (λ same. apart (ap suc same)) h

same_number : (i k : ℕ) → (i ≡ k) ⊎ (i ≡ k → ⊥)
same_number zero zero = inl refl
same_number zero (suc k) = inr (λ e. omega (arith, e))
same_number (suc i) zero = inr (λ e. omega (arith, e))
same_number (suc i) (suc k) = elim (same_number i k) [
  | inl same ↦ inl (ap suc same)
  | inr apart ↦ inr (λ e. apart (omega (arith, e)))
]

one_store : (s t : Store) → Some s ≡ Some t → s ≡ t
one_store s t e = cc

-- a site's store at the start
abbrev no_store : Store
no_store = store_of []

-- ---- what was made stays
record Within (w v : World) : Type 0 where
  messages : (k : ℕ) (m : SentMessage) → slice_get w.messages k ≡ Some m → slice_get v.messages k ≡ Some m
  summaries : (k : ℕ) (m : SentSummary) → slice_get w.summaries k ≡ Some m → slice_get v.summaries k ≡ Some m

within_itself : (w : World) → Within w w
within_itself w = record { messages = λ k m h. h; summaries = λ k m h. h }

within_both : (u v w : World) → Within u v → Within v w → Within u w
within_both u v w h l = record {
  messages = λ k m is. l.messages k m (h.messages k m is);
  summaries = λ k m is. l.summaries k m (h.summaries k m is);
}

within_after : (w : World) (e : Event) (s : Store) (r : Reply) (t : Store) → Within w (after w e s r t)
within_after w e s r t = record {
  messages = λ k m h. kept_before w.messages (message_made w e.operation s r) k m h;
  summaries = λ k m h. kept_before w.summaries (summary_made e.site e.operation s r) k m h;
}

mapped : {A : Type 0} (bytes : A → List ℕ) (make : List ℕ → Input) (o p : Option A) (i : Input)
    → ((x : A) → o ≡ Some x → p ≡ Some x) → option_map make (option_map bytes o) ≡ Some i
    → option_map make (option_map bytes p) ≡ Some i
mapped bytes make None p i sub h = absurd cc
mapped bytes make (Some x) p i sub h = ap (λ q. option_map make (option_map bytes q)) (sub x refl) ∙ h

input_kept : (w v : World) → Within w v → (d : Operation) (i : Input) → input_of w d ≡ Some i → input_of v d ≡ Some i
input_kept w v h (operation.OfferDelta k) i is =
    mapped (λ (m : SentSummary). m.bytes) input.Delta (slice_get w.summaries k) (slice_get v.summaries k) i (h.summaries k) is
input_kept w v h (operation.Deliver k) i is =
    mapped (λ (m : SentMessage). m.bytes) input.Take (slice_get w.messages k) (slice_get v.messages k) i (h.messages k) is
input_kept w v h d i is = is

module _ (law : RunLaws) (schema : StatedSchema) where
  -- ---- what an event applied
  abbrev taken_in : Option Input → EventReply → List Update
  taken_in (Some i) (Replied r) = took_by schema i r
  taken_in _ _ = []

  abbrev taken_if : {P Q : Type 0} → P ⊎ Q → List Update → List Update
  taken_if (inl p) us = us
  taken_if (inr q) us = []

  abbrev taken_at : ℕ → World → List Event → List EventReply → List Update
  taken_at k f [] rs = []
  taken_at k f (e ∷ es) [] = []
  taken_at k f (e ∷ es) (a ∷ rs) =
      taken_if (same_number e.site k) (taken_in (input_of f e.operation) a) ++ taken_at k f es rs

  if_none : {P Q : Type 0} (d : P ⊎ Q) → taken_if d [] ≡ []
  if_none (inl p) = refl
  if_none (inr q) = refl

  written_none : (i : Input) (x : Result (List ℕ) SiteFault) → took_by schema i (reply.Written x) ≡ []
  written_none (input.PutPolicy id text) x = refl
  written_none (input.DeletePolicy id) x = refl
  written_none (input.PutEntity bytes) x = refl
  written_none (input.DeleteEntity uid) x = refl
  written_none (input.Take bytes) x = refl
  written_none (input.Authorize bytes) x = refl
  written_none (input.GetPolicy id) x = refl
  written_none input.State x = refl
  written_none input.Summary x = refl
  written_none (input.Delta bytes) x = refl

  -- by the event's reply as by the site's
  taken_answer : (m n : ℕ) (d : Operation) (i : Input) (r : Reply)
      → taken_in (Some i) (answer_among m n d r) ≡ took_by schema i r
  taken_answer m n operation.Summary i (reply.Written (Ok b)) = sym (written_none i (Ok b))
  taken_answer m n operation.Summary i (reply.Written (Err f)) = sym (written_none i (Err f))
  taken_answer m n operation.Offer i (reply.Written (Ok b)) = sym (written_none i (Ok b))
  taken_answer m n operation.Offer i (reply.Written (Err f)) = sym (written_none i (Err f))
  taken_answer m n (operation.OfferDelta k) i (reply.Written (Ok b)) = sym (written_none i (Ok b))
  taken_answer m n (operation.OfferDelta k) i (reply.Written (Err f)) = sym (written_none i (Err f))
  taken_answer m n d i r = refl

  applied_answer : (m n : ℕ) (d : Operation) (i : Input) (r : Reply) → Applies schema i r (took_by schema i r)
      → AppliesIn schema (Some i) (answer_among m n d r) (taken_in (Some i) (answer_among m n d r))
  applied_answer m n operation.Summary i (reply.Written (Ok b)) h = refl
  applied_answer m n operation.Summary i (reply.Written (Err f)) h = refl
  applied_answer m n operation.Offer i (reply.Written (Ok b)) h = refl
  applied_answer m n operation.Offer i (reply.Written (Err f)) h = refl
  applied_answer m n (operation.OfferDelta k) i (reply.Written (Ok b)) h = refl
  applied_answer m n (operation.OfferDelta k) i (reply.Written (Err f)) h = refl
  applied_answer m n d i r h = h

  applied_unknown : (o : Option Input) → AppliesIn schema o Unknown (taken_in o Unknown)
  applied_unknown None = refl
  applied_unknown (Some i) = refl

  taken_unknown : (o : Option Input) → taken_in o Unknown ≡ []
  taken_unknown None = refl
  taken_unknown (Some i) = refl

  -- ---- only that
  only_in : (i : Option Input) (a : EventReply) (us : List Update) → AppliesIn schema i a us → us ≡ taken_in i a
  only_in (Some i) (Replied r) us h = only_by law schema i r us h
  only_in i a us h = h

  only_at : (k : ℕ) (f : World) (e : Event) (a : EventReply) (us : List Update)
      (d : (e.site ≡ k) ⊎ (e.site ≡ k → ⊥)) → AppliesAt schema k f e a us
      → us ≡ taken_if d (taken_in (input_of f e.operation) a)
  only_at k f e a us (inl same) (here is h) = only_in (input_of f e.operation) a us h
  only_at k f e a us (inl same) (elsewhere apart none) = absurd (apart same)
  only_at k f e a us (inr apart) (here is h) = absurd (apart is)
  only_at k f e a us (inr apart) (elsewhere other none) = none

  only_all : (k : ℕ) (f : World) (es : List Event) (rs : List EventReply) (us : List Update)
      → AppliedAt schema k f es rs us → us ≡ taken_at k f es rs
  only_all k f [] [] us h = h
  only_all k f [] (a ∷ rs) us h = absurd h
  only_all k f (e ∷ es) [] us h = absurd h
  only_all k f (e ∷ es) (a ∷ rs) us h =
      h.4
      ∙ both h.0 h.1 (taken_if (same_number e.site k) (taken_in (input_of f e.operation) a)) (taken_at k f es rs)
      (only_at k f e a h.0 (same_number e.site k) h.2) (only_all k f es rs h.1 h.3)

  -- ---- the store after a step
  own : (s : Store) → s ≡ store_of (updates s ++ [])
  own s = law.leave schema [] s [] [] s refl

  one_step : (n : SiteName) (s : Store) (i : Input) (r : Reply) (t : Store) → IsStep schema n s i r t
      → t ≡ store_of (updates s ++ took_by schema i r)
  one_step n s i r t h =
      law.leave schema n s (i ∷ []) (r ∷ []) t (run_from law schema n s (i ∷ []) (r ∷ []) t (t, h, refl))
      ∙ ap (λ (x : List Update). store_of (updates s ++ x)) (append-nil (took_by schema i r))

  both_joined : (s : Store) (us vs : List Update)
      → store_of (updates (store_of (updates s ++ us)) ++ vs) ≡ store_of (updates s ++ (us ++ vs))
  both_joined s us vs =
      store_of-append entry_order name_cmp-IsTotalOrder name_cmp-IsAntisymmetric (updates s ++ us) vs
      ∙ ap store_of (append_assoc (updates s) us vs)

  module _ (sites : List SiteName) (f : World) where
    -- what an event comes to: what it applied, and the stores after it
    record Comes (w : World) (e : Event) (a : EventReply) (v : World) : Type 0 where
      applied : AppliesIn schema (input_of f e.operation) a (taken_in (input_of f e.operation) a)
      stores : (k : ℕ) (s : Store) → numbered w.stores k ≡ Some s → numbered v.stores k
          ≡ Some (store_of (updates s ++ taken_if (same_number e.site k) (taken_in (input_of f e.operation) a)))

    unknown : (w : World) (e : Event) (a : EventReply) (v : World) → a ≡ Unknown → v ≡ w → Comes w e a v
    unknown w e a v replied same = record {
      applied = subst (λ (b : EventReply). AppliesIn schema (input_of f e.operation) b (taken_in (input_of f e.operation) b))
          (sym replied) (applied_unknown (input_of f e.operation));
      stores = λ k s h.
          let none = ap (taken_if (same_number e.site k))
          (ap (taken_in (input_of f e.operation)) replied ∙ taken_unknown (input_of f e.operation))
          ∙ if_none (same_number e.site k) in
          ap (λ (x : World). numbered x.stores k) same ∙ h
          ∙ ap (λ (x : Store). Some x) (own s ∙ ap (λ (x : List Update). store_of (updates s ++ x)) (sym none));
    }

    module _ (w : World) (e : Event) (a : EventReply) (v : World) (n : SiteName) (s : Store) (i : Input)
        (at : numbered w.stores e.site ≡ Some s) (given : input_of f e.operation ≡ Some i)
        (h : IsStepAt (IsStep schema) w e n s i a v) where
      is : taken_in (input_of f e.operation) a ≡ took_by schema i h.reply
      is =
          ap (λ (o : Option Input). taken_in o a) given ∙ ap (taken_in (Some i)) h.answer
          ∙ taken_answer (length w.messages) (length w.summaries) e.operation i h.reply

      store_at : (k : ℕ) (x : Store) (d : (e.site ≡ k) ⊎ (e.site ≡ k → ⊥)) → numbered w.stores k ≡ Some x
          → numbered (set_numbered w.stores e.site h.store) k
          ≡ Some (store_of (updates x ++ taken_if d (taken_in (input_of f e.operation) a)))
      store_at k x (inl same) there =
          let old : s ≡ x = one_store s x (sym at ∙ ap (numbered w.stores) same ∙ there) in
          ap (numbered (set_numbered w.stores e.site h.store)) (sym same)
          ∙ get_set_numbered w.stores e.site h.store s at
          ∙ ap (λ (y : Store). Some y)
          (one_step n s i h.reply h.store h.step
          ∙ ap (λ (us : List Update). store_of (updates s ++ us)) (sym is)
          ∙ ap (λ (y : Store). store_of (updates y ++ taken_in (input_of f e.operation) a)) old)
      store_at k x (inr apart) there =
          set_elsewhere w.stores e.site k h.store x apart there ∙ ap (λ (y : Store). Some y) (own x)

      stepped : Comes w e a v
      stepped = record {
        applied = subst (λ (o : Option Input). AppliesIn schema o a (taken_in o a)) (sym given)
            (subst (λ (b : EventReply). AppliesIn schema (Some i) b (taken_in (Some i) b)) (sym h.answer)
            (applied_answer (length w.messages) (length w.summaries) e.operation i h.reply (applied_by law schema n s i h.reply h.store h.step)));
        stores = λ k x there.
            ap (λ (y : World). numbered y.stores k) h.leaves ∙ store_at k x (same_number e.site k) there;
      }

    comes_by : (w : World) (e : Event) (a : EventReply) (v : World) → Within w f → (o : Option SiteName) (p : Option Store)
        (q : Option Input) → numbered w.stores e.site ≡ p → input_of w e.operation ≡ q
        → HappensAt (IsStep schema) w e o p q a v → Comes w e a v
    comes_by w e a v kept (Some n) (Some s) (Some i) at given h =
        stepped w e a v n s i at (input_kept w f kept e.operation i given) h
    comes_by w e a v kept o p q at given h = unknown w e a v h.0 h.1

    comes : (w : World) (e : Event) (a : EventReply) (v : World) → Within w f → Happens (IsStep schema) sites w e a v
        → Comes w e a v
    comes w e a v kept h =
        comes_by w e a v kept (numbered sites e.site) (numbered w.stores e.site) (input_of w e.operation) refl refl h

    grows_by : (w : World) (e : Event) (a : EventReply) (v : World) (o : Option SiteName) (p : Option Store)
        (q : Option Input) → HappensAt (IsStep schema) w e o p q a v → Within w v
    grows_by w e a v (Some n) (Some s) (Some i) h =
        subst (Within w) (sym h.leaves) (within_after w e s h.reply h.store)
    grows_by w e a v o p q h = subst (Within w) (sym h.1) (within_itself w)

    within : (w : World) (es : List Event) (rs : List EventReply) → Leads (IsStep schema) sites w es rs f → Within w f
    within w [] [] h = subst (Within w) (sym h) (within_itself w)
    within w [] (a ∷ rs) h = absurd h
    within w (e ∷ es) [] h = absurd h
    within w (e ∷ es) (a ∷ rs) h =
        within_both w h.0 f
        (grows_by w e a h.0 (numbered sites e.site) (numbered w.stores e.site) (input_of w e.operation) h.1)
        (within h.0 es rs h.2)

    applies_by : (k : ℕ) (e : Event) (a : EventReply) (d : (e.site ≡ k) ⊎ (e.site ≡ k → ⊥))
        → AppliesIn schema (input_of f e.operation) a (taken_in (input_of f e.operation) a)
        → AppliesAt schema k f e a (taken_if d (taken_in (input_of f e.operation) a))
    applies_by k e a (inl same) h = here same h
    applies_by k e a (inr apart) h = elsewhere apart refl

    applied_all : (k : ℕ) (w : World) (es : List Event) (rs : List EventReply) → Leads (IsStep schema) sites w es rs f
        → AppliedAt schema k f es rs (taken_at k f es rs)
    applied_all k w [] [] h = refl
    applied_all k w [] (a ∷ rs) h = h
    applied_all k w (e ∷ es) [] h = h
    applied_all k w (e ∷ es) (a ∷ rs) h = (
      taken_if (same_number e.site k) (taken_in (input_of f e.operation) a),
      taken_at k f es rs,
      applies_by k e a (same_number e.site k) (comes w e a h.0 (within w (e ∷ es) (a ∷ rs) h) h.1).applied,
      applied_all k h.0 es rs h.2,
      refl,
    )

    held_all : (k : ℕ) (w : World) (es : List Event) (rs : List EventReply) → Leads (IsStep schema) sites w es rs f
        → (s : Store) → numbered w.stores k ≡ Some s
        → numbered f.stores k ≡ Some (store_of (updates s ++ taken_at k f es rs))
    held_all k w [] [] h s at =
        ap (λ (x : World). numbered x.stores k) h ∙ at ∙ ap (λ (x : Store). Some x) (own s)
    held_all k w [] (a ∷ rs) h s at = absurd h
    held_all k w (e ∷ es) [] h s at = absurd h
    held_all k w (e ∷ es) (a ∷ rs) h s at =
        let us = taken_if (same_number e.site k) (taken_in (input_of f e.operation) a) in
        held_all k h.0 es rs h.2 (store_of (updates s ++ us))
        ((comes w e a h.0 (within w (e ∷ es) (a ∷ rs) h) h.1).stores k s at)
        ∙ ap (λ (x : Store). Some x) (both_joined s us (taken_at k f es rs))

    start_at : (k : ℕ) (n : SiteName) → numbered sites k ≡ Some n → numbered (start sites).stores k ≡ Some no_store
    start_at zero n h = absurd cc
    start_at (suc k) n h =
        slice_get-map (λ (x : SiteName). no_store) sites k ∙ ap (option_map (λ (x : SiteName). no_store)) h

    held_from_start : (es : List Event) (rs : List EventReply) → Leads (IsStep schema) sites (start sites) es rs f
        → (k : ℕ) (n : SiteName) → numbered sites k ≡ Some n
        → numbered f.stores k ≡ Some (store_of (taken_at k f es rs))
    held_from_start es rs h k n named =
        held_all k (start sites) es rs h no_store (start_at k n named)
        ∙ ap (λ (x : Store). Some x)
        (store_of-append entry_order name_cmp-IsTotalOrder name_cmp-IsAntisymmetric [] (taken_at k f es rs))

    holds : (es : List Event) (rs : List EventReply) → Leads (IsStep schema) sites (start sites) es rs f
        → (k : ℕ) (n : SiteName) → numbered sites k ≡ Some n → HoldsApplied schema k es rs f
    holds es rs h k n named = record {
      us = taken_at k f es rs;
      applied = applied_all k (start sites) es rs h;
      only = λ vs l. only_all k f es rs vs l;
      t = store_of (taken_at k f es rs);
      held = held_from_start es rs h k n named;
      greatest = is_store_of-store_of entry_order name_cmp-IsTotalOrder name_cmp-IsAntisymmetric (taken_at k f es rs);
      store = refl;
    }

pub sites_hold : RunLaws → SitesHoldApplied
sites_hold law schema sites es rs w h k n named = holds law schema sites w es rs h k n named
