-- Phases, one after another.
use Rattle.std.proofs.Common.{◌≡◌, ◌+◌, ℕ, List, [], ◌∷◌, ◌++◌, add-one, append_assoc, refl, sym, ap, ◌∙◌, subst}
use Rattle.connections.specs.Connections.{AreChanges, Connection, Entry}
use Rattle.connections.specs.Connections.{At, Committed, Uncommitted}
use Rattle.connections.specs.Rounds.{AreAll}
use Rattle.connections.proofs.JoinLemmas.{all_join, changes_join}
use Rattle.connection_loop.specs.Acts.{Act, AreDone}
use Rattle.connection_loop.specs.Happenings.{Happening, Call, Did, Rounded, AreInner, after, after_act, after_all}
use Rattle.connection_loop.specs.Happenings.{calls_of, entries_of, entry_of}
use Rattle.connection_loop.specs.Phases.{AtEach, IsOuter, Moves, Phase, Then}
use Rattle.std.specs.Prelude.{Bool, Option, false}
use Rattle.connection_loop.specs.Acts.{Told, Waited}
use Rattle.connection_loop.specs.Turns.{IsTold, IsWaiting, IsWait}
use Rattle.connection_loop.specs.declared.course.Course.{Course}
use Rattle.connection_loop.specs.declared.limits.Limits.{Limits}

pub after_join : (c : Course) (first later : List Happening)
    → after_all c (first ++ later) ≡ after_all (after_all c first) later
after_join c [] later = refl
after_join c (h ∷ first) later = after_join (after c h) first later

pub entries_join : (c : Course) (first later : List Happening)
    → entries_of c (first ++ later) ≡ entries_of c first ++ entries_of (after_all c first) later
entries_join c [] later = refl
entries_join c (Call act ∷ first) later =
    ap (λ (es : List Entry). entry_of c.clock act ++ es) (entries_join (after_act c act) first later)
    ∙ sym (append_assoc (entry_of c.clock act) (entries_of (after_act c act) first) (entries_of (after_all (after_act c act) first) later))
entries_join c (Did entry ∷ first) later = ap (λ (es : List Entry). entry ∷ es) (entries_join c first later)
entries_join c (Rounded outcome next ∷ first) later = entries_join (after c (Rounded outcome next)) first later

pub calls_join : (first later : List Happening) → calls_of (first ++ later) ≡ calls_of first ++ calls_of later
calls_join [] later = refl
calls_join (Call act ∷ first) later = ap (λ (acts : List Act). act ∷ acts) (calls_join first later)
calls_join (Did entry ∷ first) later = calls_join first later
calls_join (Rounded outcome next ∷ first) later = calls_join first later

pub inner_join : (first later : List Happening) → AreInner first → AreInner later → AreInner (first ++ later)
inner_join [] later h g = g
inner_join (Call act ∷ first) later h g = inner_join first later h g
inner_join (Did (At at change) ∷ first) later h g = (h.0, inner_join first later h.1 g)
inner_join (Did Committed ∷ first) later h g = inner_join first later h g
inner_join (Did Uncommitted ∷ first) later h g = inner_join first later h g
inner_join (Rounded outcome next ∷ first) later h g = inner_join first later h g

module _ {N : Type 0} (does : N → Act → N → Type 0) where
  pub done_join : (first later : List Act) (old mid new : N) → AreDone does first old mid → AreDone does later mid new
      → AreDone does (first ++ later) old new
  done_join [] later old mid new h g = subst (λ (t : N). AreDone does later t new) h g
  done_join (a ∷ first) later old mid new h g = (h.0, h.1, done_join first later h.0 mid new h.2 g)

  pub moves_then : (P Q : Phase) (old mid new : Course) (table table2 table3 : List Connection) (first next last : N)
      → Moves does P old table first mid table2 next → Moves does Q mid table2 next new table3 last
      → Moves does (Then P Q) old table first new table3 last
  moves_then P Q old mid new table table2 table3 first next last h g =
      let hs = h.happenings in
      let gs = g.happenings in
      let between : Course = after_all old hs in
      let es = entries_of old hs in
      let fs = entries_of between gs in
      let joined : entries_of old (hs ++ gs) ≡ es ++ fs = entries_join old hs gs in
      let changes : AreChanges fs table2 table3 =
      subst (λ (c : Course). AreChanges (entries_of c gs) table2 table3) h.course g.changes in
      let outer : AreAll IsOuter fs = subst (λ (c : Course). AreAll IsOuter (entries_of c gs)) h.course g.outer in
      record {
        happenings = hs ++ gs;
        course = g.course ∙ ap (λ (c : Course). after_all c gs) h.course ∙ sym (after_join old hs gs);
        changes = subst (λ (t : List Entry). AreChanges t table table3) (sym joined)
            (changes_join es fs table table2 table3 h.changes changes);
        calls = subst (λ (t : List Act). AreDone does t first last) (sym (calls_join hs gs))
            (done_join (calls_of hs) (calls_of gs) first next last h.calls g.calls);
        inner = inner_join hs gs h.inner g.inner;
        outer = subst (AreAll IsOuter) (sym joined) (all_join IsOuter es fs h.outer outer);
        are = record {
          first = hs;
          later = gs;
          mid = table2;
          is = refl;
          is_first = h.are;
          changes = h.changes;
          is_later = subst (λ (c : Course). Q c table2 gs) h.course g.are;
        };
      }

  pub moves_as : (P Q : Phase) (old new : Course) (table table2 : List Connection) (first last : N)
      → ((hs : List Happening) → P old table hs → Q old table hs) → Moves does P old table first new table2 last
      → Moves does Q old table first new table2 last
  moves_as P Q old new table table2 first last change h = record {
    happenings = h.happenings;
    course = h.course;
    changes = h.changes;
    calls = h.calls;
    inner = h.inner;
    outer = h.outer;
    are = change h.happenings h.are;
  }

  pub moves_none : (P : Phase) (old : Course) (table table2 : List Connection) (first : N) → table2 ≡ table → P old table []
      → Moves does P old table first old table2 first
  moves_none P old table table2 first same are =
      record { happenings = []; course = refl; changes = same; calls = refl; inner = tt; outer = tt; are = are }

  pub each_none : (P : ℕ → Phase) (old : Course) (table : List Connection) (first : N)
      → Moves does (AtEach P 0) old table first old table first
  each_none P old table first = moves_none (AtEach P 0) old table table first refl refl

  pub each_more : (P : ℕ → Phase) (n : ℕ) (old mid new : Course) (table table2 table3 : List Connection) (first next last : N)
      → Moves does (AtEach P n) old table first mid table2 next → Moves does (P n) mid table2 next new table3 last
      → Moves does (AtEach P (n + 1)) old table first new table3 last
  each_more P n old mid new table table2 table3 first next last h g =
      subst (λ (k : ℕ). Moves does (AtEach P k) old table first new table3 last) (sym (add-one n))
      (moves_then (AtEach P n) (P n) old mid new table table2 table3 first next last h g)

  -- a reading of the clock
  pub told : (now : ℕ) (c : Course) (table : List Connection) (first last : N) → does first (Told now) last
      → Moves does IsTold c table first (record c { clock = now }) table last
  told now c table first last did = record {
    happenings = Call (Told now) ∷ [];
    course = refl;
    changes = refl;
    calls = (last, did, refl);
    inner = tt;
    outer = tt;
    are = (now, refl);
  }

  -- a wait
  pub waited : (limits : Limits) (millis : Option ℕ) (went : Bool) (c : Course) (table : List Connection) (first last : N)
      → IsWait limits c table millis → does first (Waited millis went) last
      → Moves does (IsWaiting limits went) c table first (record c { busy = false; nobody = false; failed = false; sought = false }) table last
  waited limits millis went c table first last is did = record {
    happenings = Call (Waited millis went) ∷ [];
    course = refl;
    changes = refl;
    calls = (last, did, refl);
    inner = tt;
    outer = tt;
    are = (millis, is, refl);
  }
