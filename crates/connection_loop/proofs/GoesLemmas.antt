-- Phases with the service and the log.
use Rattle.std.proofs.Common.{◌≡◌, ◌+◌, ℕ, Bool, true, List, [], ◌∷◌, ◌++◌, add-one, refl, sym, ap, ◌∙◌, subst, length}
use Rattle.connections.specs.Connections.{At, AreChanges, Change, Committed, Connection, Entry, Uncommitted}
use Rattle.connections.specs.Connections.{Opened, Reserved, Came, Ended, Asked, Lacked, Answered, Logged, CutOff, Took, Gone}
use Rattle.connections.specs.Ready.{TablesAreReady}
use Rattle.connections.specs.Rounds.{AreAll, AreReady, IsALine, IsATurn, IsOrdered, IsRound, next_slot}
use Rattle.connections.specs.Steps.{AreLogged, Answering, IsChain, IsLoggedAt, Leads, LineRelation, Notes, NotesAt, Steps, StepsAt}
use Rattle.connections.specs.declared.table.Outcome.{Outcome}
use Rattle.connections.specs.declared.table.Outcome.TheVariants as did
use Rattle.connections.proofs.JoinLemmas.{leads_join}
use Rattle.connection_loop.specs.Acts.{Act, AreDone}
use Rattle.connection_loop.specs.Happenings.{Happening, Did, Rounded, AreInner, IsInner, after, after_all, calls_of, entries_of}
use Rattle.connection_loop.specs.Phases.{AtEach, Goes, IsOuter, Moves, Phase, State, Then}
use Rattle.connection_loop.specs.Turns.{IsAnswering, IsAnsweredThen, IsIncoming, IsWaiting, dids, is_lost}
use Rattle.connection_loop.specs.declared.course.Course.{Course}
use Rattle.connection_loop.specs.declared.limits.Limits.{Limits}
use Rattle.connection_loop.proofs.LoopLemmas.{after_join, calls_join, done_join, entries_join, inner_join}

no_turn : (change : Change) → IsOuter change → IsATurn change → ⊥
no_turn (Opened now) h n = n
no_turn (Reserved now) h n = n
no_turn (Came bytes now) h n = n
no_turn Ended h n = n
no_turn (Asked now) h n = n
no_turn (Lacked needed) h n = h
no_turn (Answered request closes reply line) h n = h
no_turn (Logged line) h n = h
no_turn (CutOff line) h n = h
no_turn (Took bytes now) h n = n
no_turn (Gone why) h n = n

pub outer_ready : (is_unfinished : List ℕ → Type 0) → TablesAreReady is_unfinished → (entries : List Entry) (old new : List Connection)
    → AreAll IsOuter entries → AreChanges entries old new → AreReady is_unfinished old → AreReady is_unfinished new
outer_ready is_unfinished law [] old new all changes ready = subst (AreReady is_unfinished) (sym changes) ready
outer_ready is_unfinished law (At at change ∷ entries) old new all changes ready =
    outer_ready is_unfinished law entries changes.0 new all.1 changes.2
    (law.stay at change old changes.0 (no_turn change all.0) changes.1 ready)
outer_ready is_unfinished law (Committed ∷ entries) old new all changes ready = absurd all
outer_ready is_unfinished law (Uncommitted ∷ entries) old new all changes ready = absurd all

unlogged : (at : ℕ) (change : Change) → IsOuter change → IsLoggedAt at change [] []
unlogged at (Opened now) h = refl
unlogged at (Reserved now) h = refl
unlogged at (Came bytes now) h = refl
unlogged at Ended h = refl
unlogged at (Asked now) h = refl
unlogged at (Lacked needed) h = absurd h
unlogged at (Answered request closes reply line) h = absurd h
unlogged at (Logged line) h = absurd h
unlogged at (CutOff line) h = absurd h
unlogged at (Took bytes now) h = refl
unlogged at (Gone why) h = refl

outer_logged : (entries : List Entry) → AreAll IsOuter entries → AreLogged entries [] []
outer_logged [] all = refl
outer_logged (At at change ∷ entries) all = ([], unlogged at change all.0, outer_logged entries all.1)
outer_logged (Committed ∷ entries) all = absurd all
outer_logged (Uncommitted ∷ entries) all = absurd all

module _ {S L : Type 0} (answers : Answering S) (lines : LineRelation) (commits commit_fails : S → S → Type 0)
    (writes cuts : L → List ℕ → L → Type 0) where
  still : (s : S) (change : Change) → IsOuter change → StepsAt answers lines commits commit_fails s change s
  still s (Opened now) h = refl
  still s (Reserved now) h = refl
  still s (Came bytes now) h = refl
  still s Ended h = refl
  still s (Asked now) h = refl
  still s (Lacked needed) h = refl
  still s (Answered request closes reply line) h = absurd h
  still s (Logged line) h = refl
  still s (CutOff line) h = refl
  still s (Took bytes now) h = refl
  still s (Gone why) h = refl

  quiet : (l : L) (change : Change) → IsOuter change → NotesAt writes cuts l change l
  quiet l (Opened now) h = refl
  quiet l (Reserved now) h = refl
  quiet l (Came bytes now) h = refl
  quiet l Ended h = refl
  quiet l (Asked now) h = refl
  quiet l (Lacked needed) h = refl
  quiet l (Answered request closes reply line) h = refl
  quiet l (Logged line) h = absurd h
  quiet l (CutOff line) h = absurd h
  quiet l (Took bytes now) h = refl
  quiet l (Gone why) h = refl

  outer_chain : (entries : List Entry) (s : S) → AreAll IsOuter entries → IsChain (Steps answers lines commits commit_fails) entries s s
  outer_chain [] s all = refl
  outer_chain (At at change ∷ entries) s all = (s, still s change all.0, outer_chain entries s all.1)
  outer_chain (Committed ∷ entries) s all = absurd all
  outer_chain (Uncommitted ∷ entries) s all = absurd all

  outer_notes : (entries : List Entry) (l : L) → AreAll IsOuter entries → IsChain (Notes writes cuts) entries l l
  outer_notes [] l all = refl
  outer_notes (At at change ∷ entries) l all = (l, quiet l change all.0, outer_notes entries l all.1)
  outer_notes (Committed ∷ entries) l all = absurd all
  outer_notes (Uncommitted ∷ entries) l all = absurd all

  -- a phase without the service and the log
  pub goes_outer : {N : Type 0} (does : N → Act → N → Type 0) (P : Phase) (old new : Course) (table table2 : List Connection) (first last : N)
      (s : S) (l : L) → Moves does P old table first new table2 last
      → Goes (Steps answers lines commits commit_fails) (Notes writes cuts) does P
      (record { course = old; table = table; service = s; log = l; sockets = first })
      (record { course = new; table = table2; service = s; log = l; sockets = last })
  goes_outer does P old new table table2 first last s l h =
      let es = entries_of old h.happenings in
      record {
        happenings = h.happenings;
        course = h.course;
        leads = record {
          changes = h.changes;
          chain = outer_chain es s h.outer;
          log = outer_notes es l h.outer;
          logged = outer_logged es h.outer;
        };
        calls = h.calls;
        inner = h.inner;
        are = h.are;
      }

module _ {S L N : Type 0} (steps : S → Entry → S → Type 0) (notes : L → Entry → L → Type 0) (does : N → Act → N → Type 0) where
  pub goes_then : (P Q : Phase) (old mid new : State S L N) → Goes steps notes does P old mid → Goes steps notes does Q mid new
      → Goes steps notes does (Then P Q) old new
  goes_then P Q old mid new h g =
      let hs = h.happenings in
      let gs = g.happenings in
      let between : Course = after_all old.course hs in
      let es = entries_of old.course hs in
      let fs = entries_of between gs in
      let joined : entries_of old.course (hs ++ gs) ≡ es ++ fs = entries_join old.course hs gs in
      let leads : Leads steps notes fs mid.table mid.service mid.log new.table new.service new.log =
      subst (λ (c : Course). Leads steps notes (entries_of c gs) mid.table mid.service mid.log new.table new.service new.log) h.course g.leads in
      record {
        happenings = hs ++ gs;
        course = g.course ∙ ap (λ (c : Course). after_all c gs) h.course ∙ sym (after_join old.course hs gs);
        leads = subst (λ (t : List Entry). Leads steps notes t old.table old.service old.log new.table new.service new.log) (sym joined)
            (leads_join steps notes es fs old.table old.service old.log mid.table mid.service mid.log new.table new.service new.log h.leads leads);
        calls = subst (λ (t : List Act). AreDone does t old.sockets new.sockets) (sym (calls_join hs gs))
            (done_join does (calls_of hs) (calls_of gs) old.sockets mid.sockets new.sockets h.calls g.calls);
        inner = inner_join hs gs h.inner g.inner;
        are = record {
          first = hs;
          later = gs;
          mid = mid.table;
          is = refl;
          is_first = h.are;
          changes = h.leads.changes;
          is_later = subst (λ (c : Course). Q c mid.table gs) h.course g.are;
        };
      }

  pub goes_more : (P : ℕ → Phase) (n : ℕ) (old mid new : State S L N) → Goes steps notes does (AtEach P n) old mid
      → Goes steps notes does (P n) mid new → Goes steps notes does (AtEach P (n + 1)) old new
  goes_more P n old mid new h g =
      subst (λ (k : ℕ). Goes steps notes does (AtEach P k) old new) (sym (add-one n)) (goes_then (AtEach P n) (P n) old mid new h g)

  pub goes_answered : (limits : Limits) (is_unfinished : List ℕ → Type 0) (lost : Bool) (P : Phase) (one two three four five : State S L N)
      → Goes steps notes does (IsWaiting limits true) one two → Goes steps notes does (IsIncoming limits) two three
      → Goes steps notes does (IsAnswering is_unfinished lost) three four → Goes steps notes does P four five
      → Goes steps notes does (IsAnsweredThen limits is_unfinished lost P) one five
  goes_answered limits is_unfinished lost P one two three four five waits comes answers last =
      goes_then (IsWaiting limits true) (Then (IsIncoming limits) (Then (IsAnswering is_unfinished lost) P)) one two five waits
      (goes_then (IsIncoming limits) (Then (IsAnswering is_unfinished lost) P) two three five comes
      (goes_then (IsAnswering is_unfinished lost) P three four five answers last))

-- the happenings of a round
pub dids_entries : (c : Course) (entries : List Entry) (outcome : Outcome) (next : ℕ)
    → entries_of c (dids entries ++ Rounded outcome next ∷ []) ≡ entries
dids_entries c [] outcome next = refl
dids_entries c (e ∷ entries) outcome next = ap (λ (es : List Entry). e ∷ es) (dids_entries c entries outcome next)

pub dids_calls : (entries : List Entry) (outcome : Outcome) (next : ℕ) → calls_of (dids entries ++ Rounded outcome next ∷ []) ≡ []
dids_calls [] outcome next = refl
dids_calls (e ∷ entries) outcome next = dids_calls entries outcome next

pub dids_remember : (c : Course) (entries : List Entry) (outcome : Outcome) (next : ℕ)
    → after_all c (dids entries ++ Rounded outcome next ∷ []) ≡ after c (Rounded outcome next)
dids_remember c [] outcome next = refl
dids_remember c (e ∷ entries) outcome next = dids_remember c entries outcome next

turn_inner : (change : Change) → IsATurn change → IsInner change
turn_inner (Opened now) h = absurd h
turn_inner (Reserved now) h = absurd h
turn_inner (Came bytes now) h = absurd h
turn_inner Ended h = absurd h
turn_inner (Asked now) h = absurd h
turn_inner (Lacked needed) h = tt
turn_inner (Answered request closes reply line) h = tt
turn_inner (Logged line) h = absurd h
turn_inner (CutOff line) h = absurd h
turn_inner (Took bytes now) h = absurd h
turn_inner (Gone why) h = absurd h

line_inner : (change : Change) → IsALine change → IsInner change
line_inner (Opened now) h = absurd h
line_inner (Reserved now) h = absurd h
line_inner (Came bytes now) h = absurd h
line_inner Ended h = absurd h
line_inner (Asked now) h = absurd h
line_inner (Lacked needed) h = absurd h
line_inner (Answered request closes reply line) h = absurd h
line_inner (Logged line) h = tt
line_inner (CutOff line) h = tt
line_inner (Took bytes now) h = absurd h
line_inner (Gone why) h = absurd h

all_inner : (P : Change → Type 0) → ((change : Change) → P change → IsInner change) → (entries : List Entry) → AreAll P entries
    → AreInner (dids entries)
all_inner P is [] h = tt
all_inner P is (At at change ∷ entries) h = (is change h.0, all_inner P is entries h.1)
all_inner P is (Committed ∷ entries) h = absurd h
all_inner P is (Uncommitted ∷ entries) h = absurd h

dids_join : (first later : List Entry) → dids (first ++ later) ≡ dids first ++ dids later
dids_join [] later = refl
dids_join (e ∷ first) later = ap (λ (hs : List Happening). Did e ∷ hs) (dids_join first later)

lack_turns : (entries : List Entry) → IsOrdered did.Quiet entries → AreAll IsATurn entries
lack_turns [] h = tt
lack_turns (At at (Lacked needed) ∷ entries) h = (tt, lack_turns entries h.1)
lack_turns (At at (Opened now) ∷ entries) h = absurd h.0
lack_turns (At at (Reserved now) ∷ entries) h = absurd h.0
lack_turns (At at (Came bytes now) ∷ entries) h = absurd h.0
lack_turns (At at Ended ∷ entries) h = absurd h.0
lack_turns (At at (Asked now) ∷ entries) h = absurd h.0
lack_turns (At at (Answered request closes reply line) ∷ entries) h = absurd h.0
lack_turns (At at (Logged line) ∷ entries) h = absurd h.0
lack_turns (At at (CutOff line) ∷ entries) h = absurd h.0
lack_turns (At at (Took bytes now) ∷ entries) h = absurd h.0
lack_turns (At at (Gone why) ∷ entries) h = absurd h.0
lack_turns (Committed ∷ entries) h = absurd h
lack_turns (Uncommitted ∷ entries) h = absurd h

ordered_inner : (outcome : Outcome) (entries : List Entry) → IsOrdered outcome entries → AreInner (dids entries)
ordered_inner did.Quiet entries h = all_inner IsATurn turn_inner entries (lack_turns entries h)
ordered_inner did.Answered entries h =
    subst (λ (es : List Entry). AreInner (dids es)) (sym h.4)
    (subst AreInner (sym (dids_join h.0 (Committed ∷ h.1)))
    (inner_join (dids h.0) (dids (Committed ∷ h.1)) (all_inner IsATurn turn_inner h.0 h.2.0) (all_inner IsALine line_inner h.1 h.3)))
ordered_inner did.Uncommitted entries h =
    subst (λ (es : List Entry). AreInner (dids es)) (sym h.2)
    (subst AreInner (sym (dids_join h.0 (Uncommitted ∷ [])))
    (inner_join (dids h.0) (dids (Uncommitted ∷ [])) (all_inner IsATurn turn_inner h.0 h.1.0) tt))

pub round_inner : (outcome : Outcome) (next : ℕ) (entries : List Entry) → IsOrdered outcome entries
    → AreInner (dids entries ++ Rounded outcome next ∷ [])
round_inner outcome next entries h = inner_join (dids entries) (Rounded outcome next ∷ []) (ordered_inner outcome entries h) tt

module _ {S L N : Type 0} (steps : S → Entry → S → Type 0) (notes : L → Entry → L → Type 0) (does : N → Act → N → Type 0) where
  pub goes_round : (is_unfinished : List ℕ → Type 0) (outcome : Outcome) (end next : ℕ) (entries : List Entry)
      (old new : Course) (table table2 : List Connection) (s t : S) (l m : L) (sockets : N)
      → Leads steps notes entries table s l table2 t m → IsOrdered outcome entries → IsRound is_unfinished old.from end table entries
      → next ≡ next_slot end (length table) → new ≡ after old (Rounded outcome next) → (lost : Bool) → lost ≡ is_lost outcome
      → Goes steps notes does (IsAnswering is_unfinished lost)
      (record { course = old; table = table; service = s; log = l; sockets = sockets })
      (record { course = new; table = table2; service = t; log = m; sockets = sockets })
  goes_round is_unfinished outcome end next entries old new table table2 s t l m sockets leads ordered round is remembers lost is_lost_so = record {
    happenings = dids entries ++ Rounded outcome next ∷ [];
    course = remembers ∙ sym (dids_remember old entries outcome next);
    leads = subst (λ (es : List Entry). Leads steps notes es table s l table2 t m) (sym (dids_entries old entries outcome next)) leads;
    calls = subst (λ (acts : List Act). AreDone does acts sockets sockets) (sym (dids_calls entries outcome next)) refl;
    inner = round_inner outcome next entries ordered;
    are = (outcome, end, entries, is_lost_so, ordered, round, ap (λ (n : ℕ). dids entries ++ Rounded outcome n ∷ []) is);
  }
