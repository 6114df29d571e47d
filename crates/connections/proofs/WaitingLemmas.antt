-- The lines that a table holds for the log.
use Rattle.std.proofs.Common.{◌≡◌, ◌<◌, ◌+◌, ℕ, List, [], ◌∷◌, ◌++◌, map, zero, suc, Some, refl, sym, ap, ◌∙◌, subst, append_assoc, arith}
use Rattle.std.specs.Prelude.{slice_get, slice_set}
use Rattle.connections.specs.Connections.{Connection, committed, committed_at, uncommitted, uncommitted_at}
use Rattle.connections.specs.Rounds.{AreSettled, IsSettledAt}
use Rattle.connections.specs.Steps.{Line}
use Rattle.connections.specs.declared.slot.Stage.{Stage}
use Rattle.connections.specs.declared.slot.Stage.TheVariants as Stages
use Rattle.connections.specs.inner.Waiting.{AreAllCommitted, AreMadeOrSettled, IsMadeOrSettled, IsPastCommit, held, waiting}
use Rattle.connections.proofs.TableLemmas.{get_unmap, some_is}

pub holds_none : (at : ℕ) (s : Stage) (line : List ℕ) → IsSettledAt s → held at s line ≡ []
holds_none at Stages.Made line h = absurd h
holds_none at Stages.Committed line h = absurd h
holds_none at Stages.Logged line h = refl
holds_none at Stages.Uncommitted line h = refl
holds_none at Stages.Unlogged line h = refl

-- the same of two lists, the first of them empty
both : (xs ys : List Line) (zs : List Line) → xs ≡ [] → ys ≡ zs → xs ++ ys ≡ zs
both xs ys zs h g = ap (λ (t : List Line). t ++ ys) h ∙ g

pub none_waiting : (at : ℕ) (table : List Connection) → AreSettled table → waiting at table ≡ []
none_waiting at [] h = refl
none_waiting at (c ∷ table) h =
    both (held at c.stage c.line) (waiting (suc at) table) [] (holds_none at c.stage c.line (h 0 c refl))
    (none_waiting (suc at) table (λ k d found. h (suc k) d found))

-- a reply is made behind all that wait
pub waiting_more : (n : ℕ) (table : List Connection) (i m : ℕ) (a b : Connection) → m ≡ n + i → slice_get table i ≡ Some a
    → IsSettledAt a.stage → ((k : ℕ) (c : Connection) → i < k → slice_get table k ≡ Some c → IsSettledAt c.stage)
    → b.stage ≡ Stages.Made → waiting n (slice_set table i b) ≡ waiting n table ++ record { at = m; text = b.line } ∷ []
waiting_more n [] i m a b where_is found was later made = cc
waiting_more n (c ∷ table) zero m a b where_is found was later made =
    let rest : waiting (suc n) table ≡ [] = none_waiting (suc n) table (λ k d f. later (suc k) d (omega arith) f) in
    let none : held n c.stage c.line ≡ [] = holds_none n c.stage c.line (subst (λ (t : Connection). IsSettledAt t.stage) (sym (some_is found)) was) in
    let here : m ≡ n = omega (arith, where_is) in
    let line : Line = record { at = m; text = b.line } in
    ap (λ (s : Stage). held n s b.line ++ waiting (suc n) table) made
    ∙ ap (λ (t : List Line). record { at = n; text = b.line } ∷ t) rest
    ∙ ap (λ (k : ℕ). record { at = k; text = b.line } ∷ []) (sym here)
    ∙ ap (λ (t : List Line). t ++ line ∷ []) (sym (both (held n c.stage c.line) (waiting (suc n) table) [] none rest))
waiting_more n (c ∷ table) (suc i) m a b where_is found was later made =
    let line : Line = record { at = m; text = b.line } in
    ap (λ (t : List Line). held n c.stage c.line ++ t)
    (waiting_more (suc n) table i m a b (omega (arith, where_is)) found was (λ k d less f. later (suc k) d (omega arith) f) made)
    ∙ sym (append_assoc (held n c.stage c.line) (waiting (suc n) table) (line ∷ []))

-- the log gets the line of the first slot that waits
pub waiting_next : (n : ℕ) (table : List Connection) (i m : ℕ) (a b : Connection) → m ≡ n + i → slice_get table i ≡ Some a
    → a.stage ≡ Stages.Committed → ((k : ℕ) (c : Connection) → k < i → slice_get table k ≡ Some c → IsSettledAt c.stage)
    → IsSettledAt b.stage → waiting n table ≡ record { at = m; text = a.line } ∷ waiting n (slice_set table i b)
waiting_next n [] i m a b where_is found was before then = cc
waiting_next n (c ∷ table) zero m a b where_is found was before then =
    let here : n ≡ m = omega (arith, where_is) in
    let same : c ≡ a = some_is found in
    let none : held n b.stage b.line ≡ [] = holds_none n b.stage b.line then in
    ap (λ (t : Connection). held n t.stage t.line ++ waiting (suc n) table) same
    ∙ ap (λ (s : Stage). held n s a.line ++ waiting (suc n) table) was
    ∙ ap (λ (k : ℕ). record { at = k; text = a.line } ∷ waiting (suc n) table) here
    ∙ ap (λ (t : List Line). record { at = m; text = a.line } ∷ (t ++ waiting (suc n) table)) (sym none)
waiting_next n (c ∷ table) (suc i) m a b where_is found was before then =
    let none : held n c.stage c.line ≡ [] = holds_none n c.stage c.line (before 0 c (omega arith) refl) in
    both (held n c.stage c.line) (waiting (suc n) table) (waiting (suc n) table) none refl
    ∙ waiting_next (suc n) table i m a b (omega (arith, where_is)) found was (λ k d less f. before (suc k) d (omega arith) f) then
    ∙ ap (λ (t : List Line). record { at = m; text = a.line } ∷ t)
    (sym (both (held n c.stage c.line) (waiting (suc n) (slice_set table i b)) (waiting (suc n) (slice_set table i b)) none refl))

-- a commit moves no line
held_committed : (at : ℕ) (s : Stage) (c : Connection) → c.stage ≡ s
    → held at (committed_at s c).stage (committed_at s c).line ≡ held at s c.line
held_committed at Stages.Made c h = refl
held_committed at Stages.Committed c h = ap (λ (s : Stage). held at s c.line) h
held_committed at Stages.Logged c h = ap (λ (s : Stage). held at s c.line) h
held_committed at Stages.Uncommitted c h = ap (λ (s : Stage). held at s c.line) h
held_committed at Stages.Unlogged c h = ap (λ (s : Stage). held at s c.line) h

pub waiting_committed : (at : ℕ) (table : List Connection) → waiting at (map committed table) ≡ waiting at table
waiting_committed at [] = refl
waiting_committed at (c ∷ table) =
    ap (λ (t : List Line). t ++ waiting (suc at) (map committed table)) (held_committed at c.stage c refl)
    ∙ ap (λ (t : List Line). held at c.stage c.line ++ t) (waiting_committed (suc at) table)

past_commit : (s : Stage) (c : Connection) → c.stage ≡ s → IsPastCommit (committed_at s c).stage
past_commit Stages.Made c h = tt
past_commit Stages.Committed c h = subst IsPastCommit (sym h) tt
past_commit Stages.Logged c h = subst IsPastCommit (sym h) tt
past_commit Stages.Uncommitted c h = subst IsPastCommit (sym h) tt
past_commit Stages.Unlogged c h = subst IsPastCommit (sym h) tt

pub all_committed : (table : List Connection) → AreAllCommitted (map committed table)
all_committed table at c found =
    let was = get_unmap committed table at c found in
    subst (λ (t : Connection). IsPastCommit t.stage) was.2 (past_commit was.0.stage was.0 refl)

-- after a commit that failed
settled_then : (s : Stage) (c : Connection) → c.stage ≡ s → IsMadeOrSettled s → IsSettledAt (uncommitted_at s c).stage
settled_then Stages.Made c h g = tt
settled_then Stages.Committed c h g = absurd g
settled_then Stages.Logged c h g = subst IsSettledAt (sym h) tt
settled_then Stages.Uncommitted c h g = subst IsSettledAt (sym h) tt
settled_then Stages.Unlogged c h g = subst IsSettledAt (sym h) tt

pub failed_are_settled : (table : List Connection) → AreMadeOrSettled table → AreSettled (map uncommitted table)
failed_are_settled table made at c found =
    let was = get_unmap uncommitted table at c found in
    subst (λ (t : Connection). IsSettledAt t.stage) was.2 (settled_then was.0.stage was.0 refl (made at was.0 was.1))

pub made_or_settled : (s : Stage) → IsSettledAt s → IsMadeOrSettled s
made_or_settled Stages.Made h = absurd h
made_or_settled Stages.Committed h = absurd h
made_or_settled Stages.Logged h = tt
made_or_settled Stages.Uncommitted h = tt
made_or_settled Stages.Unlogged h = tt

pub past_and_not : (s : Stage) → IsPastCommit s → (s ≡ Stages.Committed → ⊥) → IsSettledAt s
past_and_not Stages.Made h g = absurd h
past_and_not Stages.Committed h g = absurd (g refl)
past_and_not Stages.Logged h g = tt
past_and_not Stages.Uncommitted h g = tt
past_and_not Stages.Unlogged h g = tt

-- a change that leaves the last reply moves no line
pub waiting_same : (n : ℕ) (table : List Connection) (i : ℕ) (a b : Connection) → slice_get table i ≡ Some a
    → b.stage ≡ a.stage → b.line ≡ a.line → waiting n (slice_set table i b) ≡ waiting n table
waiting_same n [] i a b found stage line = refl
waiting_same n (c ∷ table) zero a b found stage line =
    ap (λ (s : Stage). held n s b.line ++ waiting (suc n) table) stage
    ∙ ap (λ (l : List ℕ). held n a.stage l ++ waiting (suc n) table) line
    ∙ ap (λ (t : Connection). held n t.stage t.line ++ waiting (suc n) table) (sym (some_is found))
waiting_same n (c ∷ table) (suc i) a b found stage line =
    ap (λ (t : List Line). held n c.stage c.line ++ t) (waiting_same (suc n) table i a b found stage line)
