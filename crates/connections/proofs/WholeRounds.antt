-- A whole round.
use Rattle.std.proofs.Common.{◌≡◌, ◌<◌, ◌+◌, ◌⊎◌, ◌∙◌, ℕ, List, [], ◌∷◌, ◌++◌, length, map, refl, sym, subst, inl, inr, arith}
use Rattle.connections.specs.Connections.{AreChanges, Committed, Connection, Entry, MayAnswer, Uncommitted, committed, uncommitted, unsent}
use Rattle.connections.specs.Rounds.{AreAll, IsALack, IsALine, IsATurn, IsOrdered, IsRound, answers_at, replied}
use Rattle.connections.specs.Steps.{AreLogged, Answering, IsChain, Leads, Line, LineRelation, Notes, Steps}
use Rattle.connections.specs.declared.TheConstants.{MAX_UNSENT}
use Rattle.connections.specs.declared.table.Outcome.{Outcome}
use Rattle.connections.specs.declared.table.Outcome.TheVariants as did
use Rattle.connections.specs.inner.Waiting.{waiting}
use Rattle.connections.proofs.JoinLemmas.{answers_join, turns_keep_log, chain_join, changes_join, lines_answer_none, lines_keep_service, lines_reply_none, logged_join, replied_join}
use Rattle.connections.proofs.WaitingLemmas.{waiting_committed}

module _ {S L : Type 0} (answers : Answering S) (lines : LineRelation) (commits commit_fails : S → S → Type 0)
    (writes cuts : L → List ℕ → L → Type 0) (is_unfinished : List ℕ → Type 0)
    (from end : ℕ) (table : List Connection) (old : S) (first : L) where
  abbrev steps : S → Entry → S → Type 0
  steps = Steps answers lines commits commit_fails

  abbrev notes : L → Entry → L → Type 0
  notes = Notes writes cuts

  -- a round was made
  abbrev pub IsDone : Outcome → List Connection → S → L → Type 0
  IsDone outcome table2 new last =
      (entries : List Entry) × Leads (Steps answers lines commits commit_fails) (Notes writes cuts) entries table old first table2 new last
      × IsOrdered outcome entries × IsRound is_unfinished from end table entries

  pub quiet_round : (es : List Entry) (table2 : List Connection) (new : S) → AreChanges es table table2
      → IsChain (Steps answers lines commits commit_fails) es old new → AreAll IsATurn es → IsRound is_unfinished from end table es
      → AreLogged es [] [] → AreAll IsALack es → IsDone did.Quiet table2 new first
  quiet_round es table2 new changes chain all turns logged lacks =
      (es, record { changes = changes; chain = chain; log = turns_keep_log writes cuts first es all; logged = logged }, lacks, turns)

  -- entries without an answer behind the answers leave a round one
  still_turns : (es more : List Entry) → ((at : ℕ) → answers_at at more ≡ 0) → replied more ≡ 0
      → IsRound is_unfinished from end table es → IsRound is_unfinished from end table (es ++ more)
  still_turns es more none nothing round =
      let same : (at : ℕ) → answers_at at es ≡ answers_at at (es ++ more) =
      λ at. omega (arith, answers_join at es more, none at) in
      record {
        turns = λ at c begun less found.
            subst (λ (n : ℕ). (n ≡ 1) ⊎ ((n ≡ 0) × (MayAnswer c → is_unfinished c.input))) (same at) (round.turns at c begun less found);
        others = λ at h. sym (same at) ∙ round.others at h;
        first = round.first;
        stop = elim round.stop as (λ _. (end ≡ length table) ⊎ ((end < length table) × (MAX_UNSENT < unsent table + replied (es ++ more)))) [
          | inl whole ↦ inl whole
          | inr full ↦ inr (full.0, omega (arith, full.1, replied_join es more, nothing))
        ];
      }

  pub failed_round : (es : List Entry) (table1 table2 : List Connection) (mid new : S) (held : List Line) → AreChanges es table table1
      → IsChain (Steps answers lines commits commit_fails) es old mid → AreAll IsATurn es → IsRound is_unfinished from end table es
      → AreLogged es [] held → (AreAll IsALack es → ⊥) → commit_fails mid new → table2 ≡ map uncommitted table1 → IsDone did.Uncommitted table2 new first
  failed_round es table1 table2 mid new held changes chain all turns logged busy fails is = (
    es ++ Uncommitted ∷ [],
    record {
      changes = changes_join es (Uncommitted ∷ []) table table1 table2 changes (table2, is, refl);
      chain = chain_join steps es (Uncommitted ∷ []) old mid new chain (new, fails, refl);
      log = chain_join notes es (Uncommitted ∷ []) first first first (turns_keep_log writes cuts first es all) (first, refl, refl);
      logged = logged_join es (Uncommitted ∷ []) [] held [] logged ([], refl, refl);
    },
    (es, (all, busy), refl),
    still_turns es (Uncommitted ∷ []) (λ at. refl) refl turns,
  )

  pub whole_round : (es ls : List Entry) (table1 table2 table3 : List Connection) (mid new : S) (last : L) → AreChanges es table table1
      → IsChain (Steps answers lines commits commit_fails) es old mid → AreAll IsATurn es → IsRound is_unfinished from end table es
      → AreLogged es [] (waiting 0 table1) → (AreAll IsALack es → ⊥) → commits mid new → table2 ≡ map committed table1
      → AreChanges ls table2 table3 → IsChain (Notes writes cuts) ls first last → AreAll IsALine ls
      → AreLogged ls (waiting 0 table2) [] → IsDone did.Answered table3 new last
  whole_round es ls table1 table2 table3 mid new last changes chain all turns logged busy done is changes2 chain2 all2 logged2 = (
    es ++ Committed ∷ ls,
    record {
      changes = changes_join es (Committed ∷ ls) table table1 table3 changes (table2, is, changes2);
      chain = chain_join steps es (Committed ∷ ls) old mid new chain
          (new, done, lines_keep_service answers lines commits commit_fails new ls all2);
      log = chain_join notes es (Committed ∷ ls) first first last (turns_keep_log writes cuts first es all) (first, refl, chain2);
      logged = logged_join es (Committed ∷ ls) [] (waiting 0 table1) [] logged (
        waiting 0 table1,
        refl,
        subst (λ (t : List Line). AreLogged ls t []) (waiting_committed 0 table1)
            (subst (λ (t : List Connection). AreLogged ls (waiting 0 t) []) is logged2),
      );
    },
    (es, ls, (all, busy), all2, refl),
    still_turns es (Committed ∷ ls) (λ at. lines_answer_none at ls all2) (lines_reply_none ls all2) turns,
  )
