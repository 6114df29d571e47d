-- The lines of a round as far as the log has got them.
use Rattle.std.proofs.Common.{◌≡◌, ◌≢◌, ◌≤◌, ◌<◌, ◌+◌, ℕ, List, [], ◌∷◌, ◌++◌, length, Some, refl, sym, ap, ◌∙◌, subst, inl, inr, arith}
use Rattle.std.specs.Prelude.{slice_get, slice_set}
use Rattle.std.proofs.lemmas.Option.{slice_get_within}
use Rattle.connections.specs.Connections.{AreChanges, At, Change, ChangesAt, Connection, CutOff, Entry, Logged}
use Rattle.connections.specs.Rounds.{AreAll, AreSettled, IsALine, IsSettledAt}
use Rattle.connections.specs.Steps.{AreLogged, IsChain, IsLoggedAt, Line, Notes, NotesAt}
use Rattle.connections.specs.declared.slot.Stage.{Stage}
use Rattle.connections.specs.declared.slot.Stage.TheVariants as Stages
use Rattle.connections.specs.inner.Waiting.{AreAllCommitted, IsNoted, IsPastCommit, waiting}
use Rattle.connections.proofs.JoinLemmas.{all_join, chain_join, changes_join, lengths, logged_join}
use Rattle.connections.proofs.TableLemmas.{eq_or_not, get_set_other, get_set_same, some_is}
use Rattle.connections.proofs.WaitingLemmas.{none_waiting, past_and_not, waiting_next}

settled_is_past : (s : Stage) → IsSettledAt s → IsPastCommit s
settled_is_past Stages.Made h = absurd h
settled_is_past Stages.Committed h = absurd h
settled_is_past Stages.Logged h = tt
settled_is_past Stages.Uncommitted h = tt
settled_is_past Stages.Unlogged h = tt

module _ {L : Type 0} (writes cuts : L → List ℕ → L → Type 0) (table : List Connection) (first : L) where
  -- the log got what it was to get for the slots below `at`
  pub record SoFar (at : ℕ) (now : List Connection) (last : L) : Type 0 where
    pub entries : List Entry
    pub changes : AreChanges entries table now
    pub chain : IsChain (Notes writes cuts) entries first last
    pub all : AreAll IsALine entries
    pub logged : AreLogged entries (waiting 0 table) (waiting 0 now)
    pub past : AreAllCommitted now
    pub settled : (k : ℕ) (c : Connection) → k < at → slice_get now k ≡ Some c → IsSettledAt c.stage

  pub start : AreAllCommitted table → SoFar 0 table first
  start past = record {
    entries = [];
    changes = refl;
    chain = refl;
    all = tt;
    logged = refl;
    past = past;
    settled = λ k c less found. absurd (omega arith);
  }

  -- one more line, or a proper prefix of it
  line_more : (at : ℕ) (change : Change) (now next : List Connection) (last l : L) (a : Connection) → SoFar at now last
      → slice_get now at ≡ Some a → a.stage ≡ Stages.Committed → (move : ChangesAt at change now next) → NotesAt writes cuts last change l
      → IsALine change → ((more : List Line) → waiting 0 now ≡ record { at = at; text = a.line } ∷ more → IsLoggedAt at change (waiting 0 now) more)
      → IsSettledAt move.after.stage → SoFar (at + 1) next l
  line_more at change now next last l a so found was move note is_line logs then =
      let e : Entry = At at change in
      let taken : waiting 0 now ≡ record { at = at; text = a.line } ∷ waiting 0 next =
      waiting_next 0 now at at a move.after (omega arith) found was so.settled then
      ∙ ap (λ (t : List Connection). record { at = at; text = a.line } ∷ waiting 0 t) (sym move.is) in
      let here : (k : ℕ) (c : Connection) → at ≡ k → slice_get next k ≡ Some c → IsSettledAt c.stage =
      λ k c same f.
      let is : move.after ≡ c =
      some_is (sym (ap (λ (t : List Connection). slice_get t k) move.is ∙ ap (λ (i : ℕ). slice_get (slice_set now i move.after) k) same
      ∙ get_set_same now k a move.after (ap (slice_get now) (sym same) ∙ found)) ∙ f) in
      subst (λ (t : Connection). IsSettledAt t.stage) is then in
      let there : (k : ℕ) (c : Connection) → at ≢ k → slice_get next k ≡ Some c → slice_get now k ≡ Some c =
      λ k c differ f. sym (get_set_other now at k move.after differ) ∙ ap (λ (t : List Connection). slice_get t k) (sym move.is) ∙ f in
      record {
        entries = so.entries ++ e ∷ [];
        changes = changes_join so.entries (e ∷ []) table now next so.changes (next, move, refl);
        chain = chain_join (Notes writes cuts) so.entries (e ∷ []) first last l so.chain (l, note, refl);
        all = all_join IsALine so.entries (e ∷ []) so.all (is_line, tt);
        logged = logged_join so.entries (e ∷ []) (waiting 0 table) (waiting 0 now) (waiting 0 next) so.logged
            (waiting 0 next, logs (waiting 0 next) taken, refl);
        past = λ k c f. elim (eq_or_not at k) [
          | inl same ↦ settled_is_past c.stage (here k c same f)
          | inr differ ↦ so.past k c (there k c differ f)
        ];
        settled = λ k c less f. elim (eq_or_not at k) [
          | inl same ↦ here k c same f
          | inr differ ↦ so.settled k c (omega arith) (there k c differ f)
        ];
      }

  pub noted : (at : ℕ) (now next : List Connection) (last l : L) → SoFar at now last → IsNoted writes cuts at now last next l
      → SoFar (at + 1) next l
  noted at now next last l so is = elim is [
    | inl some ↦ elim some.2.1 [
      | inl whole ↦ line_more at (Logged some.0.line) now next last l some.0 so some.1 some.2.0 whole.0 whole.1 tt (λ more eq. eq)
          (subst (λ (t : Connection). IsSettledAt t.stage) (sym whole.0.changed.2) tt)
      | inr part ↦ line_more at (CutOff some.0.line) now next last l some.0 so some.1 some.2.0 part.0 part.1 tt (λ more eq. eq)
          (subst (λ (t : Connection). IsSettledAt t.stage) (sym part.0.changed.2) tt)
    ]
    | inr none ↦
        subst (λ (t : L). SoFar (at + 1) next t) (sym none.1) (subst (λ (t : List Connection). SoFar (at + 1) t last) (sym none.0) (record {
          entries = so.entries;
          changes = so.changes;
          chain = so.chain;
          all = so.all;
          logged = so.logged;
          past = so.past;
          settled = λ k c less f. elim (eq_or_not at k) [
            | inl same ↦ past_and_not c.stage (so.past k c f) (λ committed. none.2 c (ap (slice_get now) same ∙ f) committed)
            | inr differ ↦ so.settled k c (omega arith) f
          ];
        }))
  ]

  pub ended : (at : ℕ) (now : List Connection) (last : L) → SoFar at now last → length table ≤ at → AreSettled now
  ended at now last so whole k c found =
      let less = slice_get_within now k c found in
      so.settled k c (omega (arith, less, lengths so.entries table now so.changes)) found

  pub all_logged : (at : ℕ) (now : List Connection) (last : L) → (so : SoFar at now last) → length table ≤ at
      → AreLogged so.entries (waiting 0 table) []
  all_logged at now last so whole =
      subst (λ (t : List Line). AreLogged so.entries (waiting 0 table) t) (none_waiting 0 now (ended at now last so whole)) so.logged
