-- What happens at one slot.
use Rattle.std.proofs.Common.{◌≡◌, ◌≤◌, ◌<◌, ◌+◌, ℕ, zero, suc, List, [], ◌∷◌, Bool, true, false, Some, None, length, length-take, arith, refl, sym, ap, ◌∙◌, subst, inl, inr, take}
use Rattle.std.specs.Prelude.{slice_get}
use Rattle.connections.specs.Connections.{At, AreChanges, Change, ChangesAt, Connection, Entry, IsChange, MayRead, MayAsk, MayOffer, Reserved, Asked, Came, Ended, Gone, Opened, Took}
use Rattle.connections.specs.Made.{IsMade, IsNoneAt, MayEnd, MayReadBytes, MayTakeSome}
use Rattle.connections.specs.declared.TheConstants.{MAX_READ}
use Rattle.connections.specs.declared.slot.Reason.{Reason}
use Rattle.connections.specs.declared.slot.Reason.TheVariants as Reasons
use Rattle.connections.proofs.TableLemmas.{get_set_same, some_is}
use Rattle.connection_loop.specs.Acts.{Act}
use Rattle.connection_loop.specs.Acts.{Accepted, Closed, NoneWaits, NotAccepted, Read, ReadEnd, ReadNothing, ReadFailed, Warned, Wrote, WroteNothing, WriteFailed}
use Rattle.connections.specs.Limits.{IsVictim}
use Rattle.connections.specs.Rounds.{AreAll}
use Rattle.connection_loop.specs.Acts.{Queued}
use Rattle.connection_loop.specs.Happenings.{Call, Did, Happening, AreInner, after_act, after_all, entries_of}
use Rattle.connection_loop.specs.Phases.{IsOuter, Moves}
use Rattle.connection_loop.specs.Turns.{IsClosedAt, IsReadAt, IsRoom, IsSentAt, IsSomeAt, IsWarning, MakesRoom}
use Rattle.connection_loop.specs.declared.limits.Limits.{Limits}
use Rattle.connection_loop.specs.inner.Tries.{IsAFailure, IsARead, IsATry, IsReserved}
use Rattle.connection_loop.specs.declared.course.Course.{Course}

-- a call that made its change
pub made : (done : Bool) (at : ℕ) (change : Change) (P : Connection → Type 0) (old new : List Connection)
    → done ≡ true → IsMade done at change P old new → ChangesAt at change old new
made true at change P old new is h = h
made false at change P old new is h = cc

-- a call made its change, since the connection was ready for it
pub must : (done : Bool) (at : ℕ) (change : Change) (P : Connection → Type 0) (old new : List Connection)
    → IsSomeAt at P old → IsMade done at change P old new → ChangesAt at change old new
must true at change P old new some h = h
must false at change P old new some h = absurd (h.1 some.0 some.1 some.2)

-- a connection that was there before a change
pub before : (at : ℕ) (change : Change) (old new : List Connection) (P : Connection → Type 0)
    → ((a b : Connection) → IsChange change a b → P a) → ChangesAt at change old new → IsSomeAt at P old
before at change old new P has h = (h.before, h.found, has h.before h.after h.changed)

-- a connection that is there after a change
pub later : (at : ℕ) (change : Change) (old new : List Connection) (P : Connection → Type 0)
    → ((a b : Connection) → IsChange change a b → P b) → ChangesAt at change old new → IsSomeAt at P new
later at change old new P has h = (
  h.after,
  ap (λ (t : List Connection). slice_get t at) h.is ∙ get_set_same old at h.before h.after h.found,
  has h.before h.after h.changed,
)

may_still : (now : ℕ) (a b : Connection) → IsChange (Reserved now) a b → MayRead b × (b.spare ≡ MAX_READ)
may_still now a b h = subst (λ (c : Connection). MayRead c × (c.spare ≡ MAX_READ)) (sym h.1) (
  record {
    answers = record { is_open = h.0.answers.is_open; drained = h.0.answers.drained; lasts = h.0.answers.lasts; logged = h.0.answers.logged };
    goes_on = h.0.goes_on;
    lacks = h.0.lacks;
    small = h.0.small;
  },
  refl,
)

pub reserved : (at now : ℕ) (old new : List Connection) → ChangesAt at (Reserved now) old new → IsReserved at new
reserved at now old new h = later at (Reserved now) old new (λ c. MayRead c × (c.spare ≡ MAX_READ)) (may_still now) h

pub may_break : (at : ℕ) (table : List Connection) → IsReserved at table → IsSomeAt at (MayEnd Reasons.Broken table) table
may_break at table h = (h.0, h.1, ((h.2.0.answers.is_open, inl h.2.0), tt))

pub may_ask_reader : (at : ℕ) (table : List Connection) → IsReserved at table → IsSomeAt at MayAsk table
may_ask_reader at table h = (h.0, h.1, inl h.2.0)

pub may_ask_writer : (at : ℕ) (table : List Connection) → IsSomeAt at MayOffer table → IsSomeAt at MayAsk table
may_ask_writer at table h = (h.0, h.1, inr h.2)

pub may_fail : (at : ℕ) (table : List Connection) → IsSomeAt at MayOffer table → IsSomeAt at (MayEnd Reasons.Broken table) table
may_fail at table h = (h.0, h.1, ((h.2.0, inr h.2), tt))

pub some_taken : (n : ℕ) (bytes : List ℕ) → 0 < n → n ≤ length bytes → 0 < length (take n bytes)
some_taken n bytes some less = rw (length-take n bytes) (grind arith)

pub most_taken : (n : ℕ) (bytes : List ℕ) → n ≤ length bytes → length bytes ≤ MAX_READ → length (take n bytes) ≤ MAX_READ
most_taken n bytes less most = rw (length-take n bytes) (grind arith)

-- a writer took some of the reply
pub must_take : (at n now : ℕ) (done : Bool) (old new : List Connection) (may : IsSomeAt at MayOffer old) → 0 < length (take n may.0.output)
    → (done ≡ true → (c : Connection) × (slice_get old at ≡ Some c) × ChangesAt at (Took (take n c.output) now) old new)
    → (done ≡ false → (new ≡ old) × IsNoneAt at (MayTakeSome n) old)
    → ChangesAt at (Took (take n may.0.output) now) old new
must_take at n now true old new may some h g =
    let x = h refl in
    subst (λ (c : Connection). ChangesAt at (Took (take n c.output) now) old new) (some_is (sym x.1 ∙ may.1)) x.2
must_take at n now false old new may some h g = absurd ((g refl).1 may.0 may.1 ((may.2.0, may.2.1), some))

pub may_end : (at : ℕ) (table : List Connection) → IsReserved at table → IsSomeAt at MayRead table
may_end at table h = (h.0, h.1, h.2.0)

pub may_come : (at : ℕ) (table : List Connection) (bytes : List ℕ) → 0 < length bytes → length bytes ≤ MAX_READ
    → IsReserved at table → IsSomeAt at (MayReadBytes bytes) table
may_come at table bytes some most h = (h.0, h.1, (h.2.0, some, subst (λ (n : ℕ). length bytes ≤ n) (sym h.2.1) most))

module _ {N : Type 0} (does : N → Act → N → Type 0) (c : Course) (at : ℕ) (table table2 : List Connection) (first last : N) where
  ended_so : (why : Reason) → ChangesAt at (Gone why) table table2 → IsSomeAt at (MayEnd why table) table
  ended_so why h = (h.before, h.found, ((h.changed.0, h.changed.1), h.room))

  pub closed : (why : Reason) → ChangesAt at (Gone why) table table2 → does first (Closed at why) last
      → Moves does (IsClosedAt why at) c table first (record c { busy = true }) table2 last
  closed why change did = record {
    happenings = Call (Closed at why) ∷ [];
    course = refl;
    changes = (table2, change, refl);
    calls = (last, did, refl);
    inner = tt;
    outer = (tt, tt);
    are = inl (refl, ended_so why change);
  }

  pub came : (bytes : List ℕ) → ChangesAt at (Came bytes c.clock) table table2 → does first (Read at bytes) last
      → Moves does (IsARead at) c table first (record c { busy = true }) table2 last
  came bytes change did = record {
    happenings = Call (Read at bytes) ∷ [];
    course = refl;
    changes = (table2, change, refl);
    calls = (last, did, refl);
    inner = tt;
    outer = (tt, tt);
    are = inl (inl (bytes, refl));
  }

  pub ended : ChangesAt at Ended table table2 → does first (ReadEnd at) last
      → Moves does (IsARead at) c table first (record c { busy = true }) table2 last
  ended change did = record {
    happenings = Call (ReadEnd at) ∷ [];
    course = refl;
    changes = (table2, change, refl);
    calls = (last, did, refl);
    inner = tt;
    outer = (tt, tt);
    are = inl (inr refl);
  }

  pub none_came : ChangesAt at (Asked c.clock) table table2 → does first (ReadNothing at) last → Moves does (IsARead at) c table first c table2 last
  none_came change did = record {
    happenings = Call (ReadNothing at) ∷ [];
    course = refl;
    changes = (table2, change, refl);
    calls = (last, did, refl);
    inner = tt;
    outer = (tt, tt);
    are = inr (inl refl);
  }

  pub read_failed : (next : N) → ChangesAt at (Gone Reasons.Broken) table table2 → does first (ReadFailed at) next
      → does next (Closed at Reasons.Broken) last → Moves does (IsARead at) c table first (record c { busy = true }) table2 last
  read_failed next change failed did = record {
    happenings = Call (ReadFailed at) ∷ Call (Closed at Reasons.Broken) ∷ [];
    course = refl;
    changes = (table2, change, refl);
    calls = (next, failed, (last, did, refl));
    inner = tt;
    outer = (tt, tt);
    are = inr (inr refl);
  }

  pub wrote : (bytes : List ℕ) → IsSomeAt at MayOffer table → ChangesAt at (Took bytes c.clock) table table2
      → does first (Wrote at bytes) last → Moves does (IsSentAt at) c table first (record c { busy = true }) table2 last
  wrote bytes may change did = record {
    happenings = Call (Wrote at bytes) ∷ [];
    course = refl;
    changes = (table2, change, refl);
    calls = (last, did, refl);
    inner = tt;
    outer = (tt, tt);
    are = inl (may, inl (bytes, refl));
  }

  pub none_wrote : IsSomeAt at MayOffer table → ChangesAt at (Asked c.clock) table table2 → does first (WroteNothing at) last
      → Moves does (IsSentAt at) c table first c table2 last
  none_wrote may change did = record {
    happenings = Call (WroteNothing at) ∷ [];
    course = refl;
    changes = (table2, change, refl);
    calls = (last, did, refl);
    inner = tt;
    outer = (tt, tt);
    are = inl (may, inr (inl refl));
  }

  pub write_failed : (next : N) → IsSomeAt at MayOffer table → ChangesAt at (Gone Reasons.Broken) table table2
      → does first (WriteFailed at) next → does next (Closed at Reasons.Broken) last
      → Moves does (IsSentAt at) c table first (record c { busy = true }) table2 last
  write_failed next may change failed did = record {
    happenings = Call (WriteFailed at) ∷ Call (Closed at Reasons.Broken) ∷ [];
    course = refl;
    changes = (table2, change, refl);
    calls = (next, failed, (last, did, refl));
    inner = tt;
    outer = (tt, tt);
    are = inl (may, inr (inr refl));
  }

  -- a read after memory was reserved for it
  pub read : (mid : List Connection) (new : Course) → ChangesAt at (Reserved c.clock) table mid → Moves does (IsARead at) c mid first new table2 last
      → Moves does (IsReadAt at) c table first new table2 last
  read mid new change h = record {
    happenings = Did (At at (Reserved c.clock)) ∷ h.happenings;
    course = h.course;
    changes = (mid, change, h.changes);
    calls = h.calls;
    inner = (tt, h.inner);
    outer = (tt, h.outer);
    are = inl (h.happenings, refl, h.are);
  }

-- the warning after the first of consecutive failures
pub first_warning : (pause : ℕ) (done : Bool) → pause ≡ 0 → IsWarning pause (Call (Warned done) ∷ [])
first_warning pause done is = subst (λ (n : ℕ). IsWarning n (Call (Warned done) ∷ [])) (sym is) (done, refl)

-- a warning changes nothing
warned_after : (c : Course) (pause : ℕ) (hs : List Happening) → IsWarning pause hs → after_all c hs ≡ c
warned_after c zero hs h = ap (after_all c) h.1
warned_after c (suc n) hs h = ap (after_all c) h

warned_entries : (c : Course) (pause : ℕ) (hs : List Happening) → IsWarning pause hs → entries_of c hs ≡ []
warned_entries c zero hs h = ap (entries_of c) h.1
warned_entries c (suc n) hs h = ap (entries_of c) h

warned_inner : (pause : ℕ) (hs : List Happening) → IsWarning pause hs → AreInner hs
warned_inner zero hs h = subst AreInner (sym h.1) tt
warned_inner (suc n) hs h = subst AreInner (sym h) tt

-- attempts to accept
module _ {N : Type 0} (does : N → Act → N → Type 0) (c : Course) (at : ℕ) (table : List Connection) (first last : N) where
  pub accepted : (table2 : List Connection) → ChangesAt at (Opened c.clock) table table2 → does first (Accepted at) last
      → Moves does (IsATry at) c table first (record c { busy = true; accepted = c.accepted + 1; pause = 0 }) table2 last
  accepted table2 change did = record {
    happenings = Call (Accepted at) ∷ [];
    course = refl;
    changes = (table2, change, refl);
    calls = (last, did, refl);
    inner = tt;
    outer = (tt, tt);
    are = inl (inl refl);
  }

  pub none_waits : does first NoneWaits last → Moves does (IsATry at) c table first (record c { nobody = true }) table last
  none_waits did = record {
    happenings = Call NoneWaits ∷ [];
    course = refl;
    changes = refl;
    calls = (last, did, refl);
    inner = tt;
    outer = tt;
    are = inl (inr refl);
  }

  pub not_accepted : (next : N) (new : Course) → does first NotAccepted next → IsAFailure does c next new last
      → Moves does (IsATry at) c table first new table last
  not_accepted next new failed h =
      let none : entries_of (after_act c NotAccepted) h.0 ≡ [] = warned_entries (after_act c NotAccepted) c.pause h.0 h.2 in
      record {
        happenings = Call NotAccepted ∷ h.0;
        course = h.1 ∙ sym (warned_after (after_act c NotAccepted) c.pause h.0 h.2);
        changes = subst (λ (es : List Entry). AreChanges es table table) (sym none) refl;
        calls = (next, failed, h.3);
        inner = warned_inner c.pause h.0 h.2;
        outer = subst (AreAll IsOuter) (sym none) tt;
        are = inr (h.0, refl, h.2);
      }

-- room for a client that waits
victim_may : (at : ℕ) (table : List Connection) → IsVictim table (Some at) → IsSomeAt at (MayEnd Reasons.MadeRoom table) table
victim_may at table h = elim h [
  | inl idle ↦ (idle.2.0, idle.2.1, (idle.2.2.0, tt))
  | inr rest ↦ elim rest.1 [
    | inl late ↦ (late.2.0, late.2.1, (late.2.2.0, tt))
    | inr slow ↦ (slow.1.0, slow.1.1, (slow.1.2.0, tt))
  ]
]

module _ {N : Type 0} (does : N → Act → N → Type 0) (limits : Limits) (c : Course) (table : List Connection) (first mid : N)
    (makes : MakesRoom limits c table) (waits : Bool) (asked : does first (Queued waits) mid) where
  pub none_asks : waits ≡ false → Moves does (IsRoom limits) c table first (record c { sought = waits }) table mid
  none_asks is = record {
    happenings = Call (Queued waits) ∷ [];
    course = refl;
    changes = refl;
    calls = (mid, asked, refl);
    inner = tt;
    outer = tt;
    are = inr (makes, inl (ap (λ (b : Bool). Call (Queued b) ∷ []) is));
  }

  pub no_room : waits ≡ true → IsVictim table None → Moves does (IsRoom limits) c table first (record c { sought = waits }) table mid
  no_room is victim = record {
    happenings = Call (Queued waits) ∷ [];
    course = refl;
    changes = refl;
    calls = (mid, asked, refl);
    inner = tt;
    outer = tt;
    are = inr (makes, inr (None, victim, ap (λ (b : Bool). Call (Queued b) ∷ []) is));
  }

  pub room : (at : ℕ) (table2 : List Connection) (last : N) (done : Bool) → waits ≡ true → IsVictim table (Some at)
      → IsMade done at (Gone Reasons.MadeRoom) (MayEnd Reasons.MadeRoom table) table table2
      → does mid (Closed at Reasons.MadeRoom) last
      → Moves does (IsRoom limits) c table first (record c { sought = waits; busy = true }) table2 last
  room at table2 last done is victim change did =
      let why : Reason = Reasons.MadeRoom in
      record {
        happenings = Call (Queued waits) ∷ Call (Closed at why) ∷ [];
        course = refl;
        changes = (table2, must done at (Gone why) (MayEnd why table) table table2 (victim_may at table victim) change, refl);
        calls = (mid, asked, (last, did, refl));
        inner = tt;
        outer = (tt, tt);
        are = inr (makes, inr (Some at, victim, ap (λ (b : Bool). Call (Queued b) ∷ Call (Closed at why) ∷ []) is));
      }
