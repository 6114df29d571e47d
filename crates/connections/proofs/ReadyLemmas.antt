-- Tables that are ready for a round.
use Rattle.std.proofs.Common.{◌≡◌, ◌<◌, ℕ, List, [], ◌∷◌, ◌++◌, length, map, zero, suc, Some, sym, ap, ◌∙◌, subst, inl, inr, append_assoc, arith}
use Rattle.std.specs.Prelude.{slice_get, slice_set}
use Rattle.connections.specs.Connections.{AreChanges, Change, ChangesAt, Connection, Entry, IsChange, committed, committed_at, uncommitted, uncommitted_at}
use Rattle.connections.specs.Connections.{At, Committed, Uncommitted}
use Rattle.connections.specs.Connections.{Opened, Reserved, Came, Ended, Asked, Lacked, Answered, Logged, CutOff, Took, Gone}
use Rattle.connections.specs.Framing.{StaysUnfinished}
use Rattle.connections.specs.Ready.{TablesAreReady}
use Rattle.connections.specs.Rounds.{AreAll, AreNeeded, AreSettled, IsALine, IsATurn, IsSettledAt}
use Rattle.connections.specs.Stories.{AreFree}
use Rattle.connections.specs.declared.slot.Stage.{Stage}
use Rattle.connections.specs.declared.slot.Stage.TheVariants as Stages
use Rattle.connections.proofs.TableLemmas.{eq_or_not, get_set_other, get_set_same, get_unmap, some_is}

-- a change but a turn keeps a settled reply settled
keeps_settled : (change : Change) (a b : Connection) → (IsATurn change → ⊥) → IsChange change a b → IsSettledAt a.stage → IsSettledAt b.stage
keeps_settled (Opened now) a b no_turn h s = subst (λ (c : Connection). IsSettledAt c.stage) (sym h.1) tt
keeps_settled (Reserved now) a b no_turn h s = subst (λ (c : Connection). IsSettledAt c.stage) (sym h.1) s
keeps_settled (Came bytes now) a b no_turn h s = subst (λ (c : Connection). IsSettledAt c.stage) (sym h.3) s
keeps_settled Ended a b no_turn h s = subst (λ (c : Connection). IsSettledAt c.stage) (sym h.1) s
keeps_settled (Asked now) a b no_turn h s = subst (λ (c : Connection). IsSettledAt c.stage) (sym h.1) s
keeps_settled (Lacked needed) a b no_turn h s = absurd (no_turn tt)
keeps_settled (Answered request closes reply line) a b no_turn h s = absurd (no_turn tt)
keeps_settled (Logged line) a b no_turn h s = subst (λ (c : Connection). IsSettledAt c.stage) (sym h.2) tt
keeps_settled (CutOff line) a b no_turn h s = subst (λ (c : Connection). IsSettledAt c.stage) (sym h.2) tt
keeps_settled (Took bytes now) a b no_turn h s = subst (λ (c : Connection). IsSettledAt c.stage) (sym h.4) s
keeps_settled (Gone why) a b no_turn h s = subst (λ (c : Connection). IsSettledAt c.stage) (sym h.2) tt

-- a property of connections that a change keeps holds of the table that it leaves
kept_at : (P : Connection → Type 0) (at : ℕ) (change : Change) (old new : List Connection) → (move : ChangesAt at change old new)
    → (P move.before → P move.after) → ((k : ℕ) (c : Connection) → slice_get old k ≡ Some c → P c)
    → (k : ℕ) (c : Connection) → slice_get new k ≡ Some c → P c
kept_at P at change old new move keeps all k c found = elim (eq_or_not at k) [
  | inl here ↦
      let is : move.after ≡ c =
      some_is (sym (ap (λ (t : List Connection). slice_get t k) move.is ∙ ap (λ (i : ℕ). slice_get (slice_set old i move.after) k) here
      ∙ get_set_same old k move.before move.after (ap (slice_get old) (sym here) ∙ move.found)) ∙ found) in
      subst P is (keeps (all at move.before move.found))
  | inr differ ↦ all k c (sym (get_set_other old at k move.after differ) ∙ ap (λ (t : List Connection). slice_get t k) (sym move.is) ∙ found)
]

module _ (is_unfinished : List ℕ → Type 0) where
  abbrev Needs : Connection → Type 0
  Needs c = StaysUnfinished is_unfinished c.input c.needed

  needs_none : (bytes : List ℕ) → StaysUnfinished is_unfinished bytes 0
  needs_none bytes more h = absurd (omega (arith, h))

  needs_with : (bytes more : List ℕ) (needed : ℕ) → StaysUnfinished is_unfinished bytes needed
      → StaysUnfinished is_unfinished (bytes ++ more) needed
  needs_with bytes more needed stays rest h =
      subst is_unfinished (sym (append_assoc bytes more rest))
      (stays (more ++ rest) (subst (λ (t : List ℕ). length t < needed) (append_assoc bytes more rest) h))

  -- a change but a turn keeps the number of bytes that a connection needs
  keeps_need : (change : Change) (a b : Connection) → (IsATurn change → ⊥) → IsChange change a b → Needs a → Needs b
  keeps_need (Opened now) a b no_turn h s = subst Needs (sym h.1) (needs_none [])
  keeps_need (Reserved now) a b no_turn h s = subst Needs (sym h.1) s
  keeps_need (Came bytes now) a b no_turn h s = subst Needs (sym h.3) (needs_with a.input bytes a.needed s)
  keeps_need Ended a b no_turn h s = subst Needs (sym h.1) s
  keeps_need (Asked now) a b no_turn h s = subst Needs (sym h.1) s
  keeps_need (Lacked needed) a b no_turn h s = absurd (no_turn tt)
  keeps_need (Answered request closes reply line) a b no_turn h s = absurd (no_turn tt)
  keeps_need (Logged line) a b no_turn h s = subst Needs (sym h.2) s
  keeps_need (CutOff line) a b no_turn h s = subst Needs (sym h.2) s
  keeps_need (Took bytes now) a b no_turn h s = subst Needs (sym h.4) s
  keeps_need (Gone why) a b no_turn h s = subst Needs (sym h.2) (needs_none [])

  free_settled : (table : List Connection) → AreFree table → AreSettled table
  free_settled [] free at c found = cc
  free_settled (x ∷ table) free zero c found =
      subst (λ (t : Connection). IsSettledAt t.stage) (sym free.0 ∙ some_is found) tt
  free_settled (x ∷ table) free (suc at) c found = free_settled table free.1 at c found

  free_needs : (table : List Connection) → AreFree table → AreNeeded is_unfinished table
  free_needs [] free at c found = cc
  free_needs (x ∷ table) free zero c found = subst Needs (sym free.0 ∙ some_is found) (needs_none [])
  free_needs (x ∷ table) free (suc at) c found = free_needs table free.1 at c found

  pub tables_are_ready : TablesAreReady is_unfinished
  tables_are_ready = record {
    free = λ table free. record { settled = free_settled table free; needs = free_needs table free };
    stay = λ at change old new no_turn move ready. record {
      settled = kept_at (λ c. IsSettledAt c.stage) at change old new move
          (λ s. keeps_settled change move.before move.after no_turn move.changed s) ready.settled;
      needs = kept_at Needs at change old new move
          (λ s. keeps_need change move.before move.after no_turn move.changed s) ready.needs;
    };
  }

  -- the same of commits, and of lines
  committed_needs : (s : Stage) (c : Connection) → Needs c → Needs (committed_at s c)
  committed_needs Stages.Made c h = h
  committed_needs Stages.Committed c h = h
  committed_needs Stages.Logged c h = h
  committed_needs Stages.Uncommitted c h = h
  committed_needs Stages.Unlogged c h = h

  uncommitted_needs : (s : Stage) (c : Connection) → Needs c → Needs (uncommitted_at s c)
  uncommitted_needs Stages.Made c h = h
  uncommitted_needs Stages.Committed c h = h
  uncommitted_needs Stages.Logged c h = h
  uncommitted_needs Stages.Uncommitted c h = h
  uncommitted_needs Stages.Unlogged c h = h

  pub needed_after_commit : (table : List Connection) → AreNeeded is_unfinished table → AreNeeded is_unfinished (map committed table)
  needed_after_commit table needs at c found =
      let was = get_unmap committed table at c found in
      subst Needs was.2 (committed_needs was.0.stage was.0 (needs at was.0 was.1))

  pub needed_after_failure : (table : List Connection) → AreNeeded is_unfinished table → AreNeeded is_unfinished (map uncommitted table)
  needed_after_failure table needs at c found =
      let was = get_unmap uncommitted table at c found in
      subst Needs was.2 (uncommitted_needs was.0.stage was.0 (needs at was.0 was.1))

  line_is_no_turn : (change : Change) → IsALine change → IsATurn change → ⊥
  line_is_no_turn (Opened now) h g = h
  line_is_no_turn (Reserved now) h g = h
  line_is_no_turn (Came bytes now) h g = h
  line_is_no_turn Ended h g = h
  line_is_no_turn (Asked now) h g = h
  line_is_no_turn (Lacked needed) h g = h
  line_is_no_turn (Answered request closes reply line) h g = h
  line_is_no_turn (Logged line) h g = g
  line_is_no_turn (CutOff line) h g = g
  line_is_no_turn (Took bytes now) h g = h
  line_is_no_turn (Gone why) h g = h

  pub needed_after_lines : (entries : List Entry) (old new : List Connection) → AreAll IsALine entries → AreChanges entries old new
      → AreNeeded is_unfinished old → AreNeeded is_unfinished new
  needed_after_lines [] old new all h needs = subst (AreNeeded is_unfinished) (sym h) needs
  needed_after_lines (At at change ∷ entries) old new all h needs =
      needed_after_lines entries h.0 new all.1 h.2
      (kept_at Needs at change old h.0 h.1
      (λ s. keeps_need change h.1.before h.1.after (line_is_no_turn change all.0) h.1.changed s) needs)
  needed_after_lines (Committed ∷ entries) old new all h needs = absurd all
  needed_after_lines (Uncommitted ∷ entries) old new all h needs = absurd all
