-- Two lists of entries, one after the other.
use Rattle.std.proofs.Common.{◌≡◌, ◌+◌, ℕ, Bool, true, false, List, [], ◌∷◌, ◌++◌, length, refl, ap, ◌∙◌, subst, arith}
use Rattle.std.specs.Prelude.{if◌then◌else◌, ◌==◌}
use Rattle.std.proofs.lemmas.List.{length-set, length-map}
use Rattle.connections.specs.Connections.{AreChanges, Change, Changes, Connection, Entry, committed, uncommitted}
use Rattle.connections.specs.Connections.{At, Committed, Uncommitted}
use Rattle.connections.specs.Connections.{Opened, Reserved, Came, Ended, Asked, Lacked, Answered, Logged, CutOff, Took, Gone}
use Rattle.connections.specs.Rounds.{AreAll, IsALine, IsATurn, answers_at, answers_in, replied, reply_in}
use Rattle.connections.specs.Steps.{AreLogged, Answering, IsChain, Leads, Line, LineRelation, Notes, Steps}

pub changes_join : (first later : List Entry) (old mid new : List Connection) → AreChanges first old mid
    → AreChanges later mid new → AreChanges (first ++ later) old new
changes_join [] later old mid new h g = subst (λ (t : List Connection). AreChanges later t new) h g
changes_join (e ∷ first) later old mid new h g = (h.0, h.1, changes_join first later h.0 mid new h.2 g)

pub chain_join : {X : Type 0} (step : X → Entry → X → Type 0) (first later : List Entry) (old mid new : X)
    → IsChain step first old mid → IsChain step later mid new → IsChain step (first ++ later) old new
chain_join {X} step [] later old mid new h g = subst (λ (t : X). IsChain step later t new) h g
chain_join step (e ∷ first) later old mid new h g = (h.0, h.1, chain_join step first later h.0 mid new h.2 g)

pub logged_join : (first later : List Entry) (old mid new : List Line) → AreLogged first old mid
    → AreLogged later mid new → AreLogged (first ++ later) old new
logged_join [] later old mid new h g = subst (λ (t : List Line). AreLogged later t new) h g
logged_join (e ∷ first) later old mid new h g = (h.0, h.1, logged_join first later h.0 mid new h.2 g)

pub leads_join : {S L : Type 0} (steps : S → Entry → S → Type 0) (notes : L → Entry → L → Type 0)
    (now later : List Entry) (table : List Connection) (old : S) (first : L) (table2 : List Connection) (mid : S) (log : L)
    (table3 : List Connection) (new : S) (last : L)
    → Leads steps notes now table old first table2 mid log → Leads steps notes later table2 mid log table3 new last
    → Leads steps notes (now ++ later) table old first table3 new last
leads_join steps notes now later table old first table2 mid log table3 new last h g = record {
  changes = changes_join now later table table2 table3 h.changes g.changes;
  chain = chain_join steps now later old mid new h.chain g.chain;
  log = chain_join notes now later first log last h.log g.log;
  logged = logged_join now later [] [] [] h.logged g.logged;
}

pub all_join : (P : Change → Type 0) (first later : List Entry) → AreAll P first → AreAll P later → AreAll P (first ++ later)
all_join P [] later h g = g
all_join P (At at change ∷ first) later h g = (h.0, all_join P first later h.1 g)
all_join P (Committed ∷ first) later h g = absurd h
all_join P (Uncommitted ∷ first) later h g = absurd h

pub all_split : (P : Change → Type 0) (first later : List Entry) → AreAll P (first ++ later) → AreAll P first × AreAll P later
all_split P [] later h = (tt, h)
all_split P (At at change ∷ first) later h = let rest = all_split P first later h.1 in ((h.0, rest.0), rest.1)
all_split P (Committed ∷ first) later h = absurd h
all_split P (Uncommitted ∷ first) later h = absurd h

pub answers_join : (at : ℕ) (first later : List Entry)
    → answers_at at (first ++ later) ≡ answers_at at first + answers_at at later
answers_join at [] later = omega arith
answers_join at (At slot change ∷ first) later = omega (arith, answers_join at first later)
answers_join at (Committed ∷ first) later = answers_join at first later
answers_join at (Uncommitted ∷ first) later = answers_join at first later

-- lines are no answers
line_answers : (change : Change) → IsALine change → answers_in change ≡ 0
line_answers (Opened now) h = absurd h
line_answers (Reserved now) h = absurd h
line_answers (Came bytes now) h = absurd h
line_answers Ended h = absurd h
line_answers (Asked now) h = absurd h
line_answers (Lacked needed) h = absurd h
line_answers (Answered request closes reply line) h = absurd h
line_answers (Logged line) h = refl
line_answers (CutOff line) h = refl
line_answers (Took bytes now) h = absurd h
line_answers (Gone why) h = absurd h

pub if_zero : (b : Bool) (n : ℕ) → n ≡ 0 → (if b then n else 0) ≡ 0
if_zero true n h = h
if_zero false n h = refl

pub lines_answer_none : (at : ℕ) (entries : List Entry) → AreAll IsALine entries → answers_at at entries ≡ 0
lines_answer_none at [] h = refl
lines_answer_none at (At slot change ∷ entries) h =
    omega (arith, if_zero (slot == at) (answers_in change) (line_answers change h.0), lines_answer_none at entries h.1)
lines_answer_none at (Committed ∷ entries) h = absurd h
lines_answer_none at (Uncommitted ∷ entries) h = absurd h

pub replied_join : (first later : List Entry) → replied (first ++ later) ≡ replied first + replied later
replied_join [] later = omega arith
replied_join (At slot change ∷ first) later = omega (arith, replied_join first later)
replied_join (Committed ∷ first) later = replied_join first later
replied_join (Uncommitted ∷ first) later = replied_join first later

line_replies : (change : Change) → IsALine change → reply_in change ≡ 0
line_replies (Opened now) h = absurd h
line_replies (Reserved now) h = absurd h
line_replies (Came bytes now) h = absurd h
line_replies Ended h = absurd h
line_replies (Asked now) h = absurd h
line_replies (Lacked needed) h = absurd h
line_replies (Answered request closes reply line) h = absurd h
line_replies (Logged line) h = refl
line_replies (CutOff line) h = refl
line_replies (Took bytes now) h = absurd h
line_replies (Gone why) h = absurd h

pub lines_reply_none : (entries : List Entry) → AreAll IsALine entries → replied entries ≡ 0
lines_reply_none [] h = refl
lines_reply_none (At slot change ∷ entries) h = omega (arith, line_replies change h.0, lines_reply_none entries h.1)
lines_reply_none (Committed ∷ entries) h = absurd h
lines_reply_none (Uncommitted ∷ entries) h = absurd h

module _ {S : Type 0} (answers : Answering S) (lines : LineRelation) (commits commit_fails : S → S → Type 0) where
  -- the service stays while the log gets lines
  line_step : (s : S) (at : ℕ) (change : Change) → IsALine change → Steps answers lines commits commit_fails s (At at change) s
  line_step s at (Opened now) h = absurd h
  line_step s at (Reserved now) h = absurd h
  line_step s at (Came bytes now) h = absurd h
  line_step s at Ended h = absurd h
  line_step s at (Asked now) h = absurd h
  line_step s at (Lacked needed) h = absurd h
  line_step s at (Answered request closes reply line) h = absurd h
  line_step s at (Logged line) h = refl
  line_step s at (CutOff line) h = refl
  line_step s at (Took bytes now) h = absurd h
  line_step s at (Gone why) h = absurd h

  pub lines_keep_service : (s : S) (entries : List Entry) → AreAll IsALine entries
      → IsChain (Steps answers lines commits commit_fails) entries s s
  lines_keep_service s [] h = refl
  lines_keep_service s (At at change ∷ entries) h = (s, line_step s at change h.0, lines_keep_service s entries h.1)
  lines_keep_service s (Committed ∷ entries) h = absurd h
  lines_keep_service s (Uncommitted ∷ entries) h = absurd h

module _ {L : Type 0} (writes cuts : L → List ℕ → L → Type 0) where
  -- the log stays while requests are answered
  turn_note : (l : L) (at : ℕ) (change : Change) → IsATurn change → Notes writes cuts l (At at change) l
  turn_note l at (Opened now) h = absurd h
  turn_note l at (Reserved now) h = absurd h
  turn_note l at (Came bytes now) h = absurd h
  turn_note l at Ended h = absurd h
  turn_note l at (Asked now) h = absurd h
  turn_note l at (Lacked needed) h = refl
  turn_note l at (Answered request closes reply line) h = refl
  turn_note l at (Logged line) h = absurd h
  turn_note l at (CutOff line) h = absurd h
  turn_note l at (Took bytes now) h = absurd h
  turn_note l at (Gone why) h = absurd h

  pub turns_keep_log : (l : L) (entries : List Entry) → AreAll IsATurn entries → IsChain (Notes writes cuts) entries l l
  turns_keep_log l [] h = refl
  turns_keep_log l (At at change ∷ entries) h = (l, turn_note l at change h.0, turns_keep_log l entries h.1)
  turns_keep_log l (Committed ∷ entries) h = absurd h
  turns_keep_log l (Uncommitted ∷ entries) h = absurd h

-- no entry adds a slot
length_next : (e : Entry) (old new : List Connection) → Changes e old new → length new ≡ length old
length_next (At at change) old new h = ap length h.is ∙ length-set old at h.after
length_next Committed old new h = ap length h ∙ length-map old committed
length_next Uncommitted old new h = ap length h ∙ length-map old uncommitted

pub lengths : (entries : List Entry) (old new : List Connection) → AreChanges entries old new → length new ≡ length old
lengths [] old new h = ap length h
lengths (e ∷ entries) old new h = lengths entries h.0 new h.2 ∙ length_next e old h.0 h.1
