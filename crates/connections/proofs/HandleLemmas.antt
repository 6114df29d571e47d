-- One event of one slot.
use Rattle.std.proofs.Common.{◌≡◌, ◌⊎◌, ℕ, List, [], ◌∷◌, Bool, true, false, Some, refl, sym, subst, inl, inr, take}
use Rattle.std.specs.Prelude.{slice_get}
use Rattle.connections.specs.Connections.{At, AreChanges, Change, ChangesAt, Committed, Connection, Entry, Gone, Took, Uncommitted}
use Rattle.connections.specs.Made.{IsMade, IsNoneAt, MayTakeSome}
use Rattle.connections.specs.Ready.{TablesAreReady}
use Rattle.connections.specs.Rounds.{AreAll, AreReady, IsATurn}
use Rattle.connections.specs.Runs.{IsOneOrNone}
use Rattle.connections.specs.Steps.{AreLogged, Answering, IsChain, IsLoggedAt, Leads, LineRelation, Notes, Steps}
use Rattle.connections.specs.declared.slot.Reason.{Reason}

pub made_ready : (is_unfinished : List ℕ → Type 0) → TablesAreReady is_unfinished → (done : Bool) (at : ℕ) (change : Change)
    (P : Connection → Type 0) (old new : List Connection) → (IsATurn change → ⊥) → IsMade done at change P old new
    → AreReady is_unfinished old → AreReady is_unfinished new
made_ready is_unfinished law true at change P old new no_turn h ready = law.stay at change old new no_turn h ready
made_ready is_unfinished law false at change P old new no_turn h ready = subst (AreReady is_unfinished) (sym h.0) ready

module _ {S L : Type 0} (steps : S → Entry → S → Type 0) (notes : L → Entry → L → Type 0)
    (table table2 : List Connection) (s : S) (l : L) where
  pub leads_one : (at : ℕ) (change : Change) → steps s (At at change) s → notes l (At at change) l → IsLoggedAt at change [] []
      → ChangesAt at change table table2 → Leads steps notes (At at change ∷ []) table s l table2 s l
  leads_one at change still quiet none move = record {
    changes = (table2, move, refl);
    chain = (s, still, refl);
    log = (l, quiet, refl);
    logged = ([], none, refl);
  }

  pub leads_none : table2 ≡ table → Leads steps notes [] table s l table2 s l
  leads_none same = record { changes = same; chain = refl; log = refl; logged = refl }

  -- the entry that a call made, if it made one
  pub made : (at : ℕ) (change : Change) (P : Connection → Type 0) (done : Bool) → steps s (At at change) s → notes l (At at change) l
      → IsLoggedAt at change [] [] → IsMade done at change P table table2
      → (entries : List Entry) × Leads steps notes entries table s l table2 s l × IsOneOrNone P table at change entries
  made at change P true still quiet none h = (At at change ∷ [], leads_one at change still quiet none h, inl refl)
  made at change P false still quiet none h = ([], leads_none h.0, inr (refl, h.1))

  pub took : (at count now : ℕ) (done : Bool) → ((bytes : List ℕ) → steps s (At at (Took bytes now)) s) → ((bytes : List ℕ) → notes l (At at (Took bytes now)) l)
      → (done ≡ true → (c : Connection) × (slice_get table at ≡ Some c) × ChangesAt at (Took (take count c.output) now) table table2)
      → (done ≡ false → (table2 ≡ table) × IsNoneAt at (MayTakeSome count) table)
      → (entries : List Entry) × Leads steps notes entries table s l table2 s l
      × (((c : Connection) × (slice_get table at ≡ Some c) × (entries ≡ At at (Took (take count c.output) now) ∷ [])) ⊎ ((entries ≡ []) × IsNoneAt at (MayTakeSome count) table))
  took at count now true still quiet h g =
      let x = h refl in
      let bytes = take count x.0.output in
      (At at (Took bytes now) ∷ [], leads_one at (Took bytes now) (still bytes) (quiet bytes) refl x.2, inl (x.0, x.1, refl))
  took at count now false still quiet h g = let x = g refl in ([], leads_none x.0, inr (refl, x.1))

pub took_ready : (is_unfinished : List ℕ → Type 0) → TablesAreReady is_unfinished → (at count now : ℕ) (done : Bool)
    (table table2 : List Connection)
    → (done ≡ true → (c : Connection) × (slice_get table at ≡ Some c) × ChangesAt at (Took (take count c.output) now) table table2)
    → (done ≡ false → (table2 ≡ table) × IsNoneAt at (MayTakeSome count) table) → AreReady is_unfinished table → AreReady is_unfinished table2
took_ready is_unfinished law at count now true table table2 h g ready =
    let x = h refl in law.stay at (Took (take count x.0.output) now) table table2 (λ n. n) x.2 ready
took_ready is_unfinished law at count now false table table2 h g ready = subst (AreReady is_unfinished) (sym (g refl).0) ready

-- connections that are closed: neither the service nor the log has a part in it
module _ {S L : Type 0} (answers : Answering S) (lines : LineRelation) (commits commit_fails : S → S → Type 0)
    (writes cuts : L → List ℕ → L → Type 0) (why : Reason) where
  gone_step : (s : S) (at : ℕ) (change : Change) → change ≡ Gone why → Steps answers lines commits commit_fails s (At at change) s
  gone_step s at change is = subst (λ (c : Change). Steps answers lines commits commit_fails s (At at c) s) (sym is) refl

  gone_note : (l : L) (at : ℕ) (change : Change) → change ≡ Gone why → Notes writes cuts l (At at change) l
  gone_note l at change is = subst (λ (c : Change). Notes writes cuts l (At at c) l) (sym is) refl

  gone_chain : (entries : List Entry) (s : S) → AreAll (λ change. change ≡ Gone why) entries
      → IsChain (Steps answers lines commits commit_fails) entries s s
  gone_chain [] s all = refl
  gone_chain (At at change ∷ entries) s all = (s, gone_step s at change all.0, gone_chain entries s all.1)
  gone_chain (Committed ∷ entries) s all = absurd all
  gone_chain (Uncommitted ∷ entries) s all = absurd all

  gone_log : (entries : List Entry) (l : L) → AreAll (λ change. change ≡ Gone why) entries → IsChain (Notes writes cuts) entries l l
  gone_log [] l all = refl
  gone_log (At at change ∷ entries) l all = (l, gone_note l at change all.0, gone_log entries l all.1)
  gone_log (Committed ∷ entries) l all = absurd all
  gone_log (Uncommitted ∷ entries) l all = absurd all

  gone_logged : (entries : List Entry) → AreAll (λ change. change ≡ Gone why) entries → AreLogged entries [] []
  gone_logged [] all = refl
  gone_logged (At at change ∷ entries) all =
      ([], subst (λ (c : Change). IsLoggedAt at c [] []) (sym all.0) refl, gone_logged entries all.1)
  gone_logged (Committed ∷ entries) all = absurd all
  gone_logged (Uncommitted ∷ entries) all = absurd all

  pub gone_leads : (entries : List Entry) (table table2 : List Connection) (s : S) (l : L) → AreChanges entries table table2
      → AreAll (λ change. change ≡ Gone why) entries
      → Leads (Steps answers lines commits commit_fails) (Notes writes cuts) entries table s l table2 s l
  gone_leads entries table table2 s l changes all =
      record { changes = changes; chain = gone_chain entries s all; log = gone_log entries l all; logged = gone_logged entries all }

no_turn : (why : Reason) (change : Change) → change ≡ Gone why → IsATurn change → ⊥
no_turn why change is turn = subst (λ (c : Change). IsATurn c) is turn

pub gone_ready : (is_unfinished : List ℕ → Type 0) → TablesAreReady is_unfinished → (why : Reason) (entries : List Entry)
    (table table2 : List Connection) → AreChanges entries table table2 → AreAll (λ change. change ≡ Gone why) entries
    → AreReady is_unfinished table → AreReady is_unfinished table2
gone_ready is_unfinished law why [] table table2 changes all ready = subst (AreReady is_unfinished) (sym changes) ready
gone_ready is_unfinished law why (At at change ∷ entries) table table2 changes all ready =
    gone_ready is_unfinished law why entries changes.0 table2 changes.2 all.1
    (law.stay at change table changes.0 (no_turn why change all.0) changes.1 ready)
gone_ready is_unfinished law why (Committed ∷ entries) table table2 changes all ready = absurd all
gone_ready is_unfinished law why (Uncommitted ∷ entries) table table2 changes all ready = absurd all
