-- A table holds a bounded number of bytes.
use Rattle.std.proofs.Common.{◌≡◌, ◌≤◌, ◌<◌, ◌+◌, ◌*◌, ◌⊎◌, ℕ, suc, List, [], ◌∷◌, Bool, true, false, cond, length, map, Some, refl, sym, ap, ◌∙◌, subst, inl, inr, length-append, arith}
use Rattle.std.specs.Prelude.{nat_lt, slice_get}
use Rattle.std.specs.List.{sum_by}
use Rattle.std.proofs.lemmas.Bool.{cases_lt}
use Rattle.std.proofs.lemmas.Bool.Decides.{nat_tests}
use Rattle.std.proofs.lemmas.List.Sums.{sum_by-cons}
use Rattle.connections.specs.Bounds.{AreAtMost, TablesAreBounded}
use Rattle.connections.specs.Connections.{AreChanges, Change, ChangesAt, Connection, Entry, HasRoom, IsChange, fresh, held, is_long, longs, unsent, unsent_of}
use Rattle.connections.specs.Connections.{committed, committed_at, uncommitted, uncommitted_at}
use Rattle.connections.specs.Connections.{At, Committed, Uncommitted}
use Rattle.connections.specs.Connections.{Opened, Reserved, Came, Ended, Asked, Lacked, Answered, Logged, CutOff, Took, Gone}
use Rattle.connections.specs.Rounds.{reply_in}
use Rattle.connections.specs.Stories.{AreFree}
use Rattle.connections.specs.declared.TheConstants.{MAX_INPUT, MAX_LONG, MAX_READ, MAX_SHORT, MAX_UNSENT}
use Rattle.connections.specs.declared.slot.Stage.{Stage}
use Rattle.connections.specs.declared.slot.Stage.TheVariants as Stages
use Rattle.connections.proofs.StoryLemmas.{stories_fit}
use Rattle.connections.proofs.TableLemmas.{sum_map_le, sum_set}

-- 1 for a connection that holds many bytes
abbrev one : Connection → ℕ
one c = cond (is_long c) 1 0

abbrev size : Connection → ℕ
size c = unsent_of c

lt_true : {m n : ℕ} → m < n → nat_lt m n ≡ true
lt_true h = grind (arith, nat_tests)

lt_false : {m n : ℕ} → n ≤ m → nat_lt m n ≡ false
lt_false h = grind (arith, nat_tests)

-- 1 for a number above the limit
abbrev above : ℕ → ℕ
above m = cond (nat_lt MAX_SHORT m) 1 0

one_at : (m : ℕ) → ((above m ≡ 0) × (m ≤ MAX_SHORT)) ⊎ ((above m ≡ 1) × (MAX_SHORT < m))
one_at m = elim (cases_lt MAX_SHORT m) [
  | inl more ↦ inr (ap (λ (b : Bool). let n : ℕ = cond b 1 0 in n) (lt_true more), more)
  | inr less ↦ inl (ap (λ (b : Bool). let n : ℕ = cond b 1 0 in n) (lt_false less), less)
]

one_mono : (a b : Connection) → held b ≤ held a → one b ≤ one a
one_mono a b less = elim (one_at (held a)) [
  | inl x ↦ elim (one_at (held b)) [ inl y ↦ omega arith | inr y ↦ absurd (omega arith) ]
  | inr x ↦ elim (one_at (held b)) [ inl y ↦ omega arith | inr y ↦ omega arith ]
]

came_held : (a b : Connection) (bytes : List ℕ) (now : ℕ) → IsChange (Came bytes now) a b → held b ≤ held a
came_held a b bytes now h = omega (arith, ap (λ (c : Connection). held c) h.3, length-append a.input bytes, h.2)

answered_held : (a b : Connection) (request : List ℕ) (closes : Bool) (reply line : List ℕ)
    → IsChange (Answered request closes reply line) a b → held b ≤ held a
answered_held a b request closes reply line h =
    omega (arith, ap (λ (c : Connection). c.spare) h.3, ap (λ (t : List ℕ). length t) h.2, length-append request b.input)

-- a change for which there is room makes no connection hold many bytes where `MAX_LONG` others do
few : (change : Change) (a b : Connection) (table : List Connection) → IsChange change a b → HasRoom change a table
    → longs table ≤ MAX_LONG → longs table + one b ≤ MAX_LONG + one a
few (Opened now) a b table h room less = subst (λ (c : Connection). longs table + one c ≤ MAX_LONG + one a) (sym h.1) (omega arith)
few (Reserved now) a b table h room less = subst (λ (c : Connection). longs table + one c ≤ MAX_LONG + one a) (sym h.1) (elim room [
  | inl short ↦ elim (one_at (length a.input + MAX_READ)) [ inl x ↦ omega arith | inr x ↦ absurd (omega arith) ]
  | inr other ↦ elim other [
    | inl long ↦ elim (one_at (length a.input + MAX_READ)) [
      | inl x ↦ omega (arith, ap (λ (b : Bool). let n : ℕ = cond b 1 0 in n) long)
      | inr x ↦ omega (arith, ap (λ (b : Bool). let n : ℕ = cond b 1 0 in n) long)
    ]
    | inr rare ↦ elim (one_at (length a.input + MAX_READ)) [ inl x ↦ omega arith | inr x ↦ omega arith ]
  ]
])
few (Came bytes now) a b table h room less = omega (arith, one_mono a b (came_held a b bytes now h))
few Ended a b table h room less = omega (arith, one_mono a b (omega (arith, ap (λ (c : Connection). held c) h.1)))
few (Asked now) a b table h room less = omega (arith, one_mono a b (omega (arith, ap (λ (c : Connection). held c) h.1)))
few (Lacked needed) a b table h room less = omega (arith, one_mono a b (omega (arith, ap (λ (c : Connection). held c) h.2)))
few (Answered request closes reply line) a b table h room less = omega (arith, one_mono a b (answered_held a b request closes reply line h))
few (Logged line) a b table h room less = omega (arith, one_mono a b (omega (arith, ap (λ (c : Connection). held c) h.2)))
few (CutOff line) a b table h room less = omega (arith, one_mono a b (omega (arith, ap (λ (c : Connection). held c) h.2)))
few (Took bytes now) a b table h room less = omega (arith, one_mono a b (omega (arith, ap (λ (c : Connection). held c) h.4)))
few (Gone why) a b table h room less = subst (λ (c : Connection). longs table + one c ≤ MAX_LONG + one a) (sym h.2) (omega arith)

-- the same of unsent bytes, where no reply has more than `most`
sent : (change : Change) (a b : Connection) (table : List Connection) (most : ℕ) → IsChange change a b → HasRoom change a table
    → reply_in change ≤ most → unsent table ≤ MAX_UNSENT + most → unsent table + size b ≤ MAX_UNSENT + most + size a
sent (Opened now) a b table most h room small less = omega (arith, ap (λ (c : Connection). size c) h.1)
sent (Reserved now) a b table most h room small less = omega (arith, ap (λ (c : Connection). size c) h.1)
sent (Came bytes now) a b table most h room small less = omega (arith, ap (λ (c : Connection). size c) h.3)
sent Ended a b table most h room small less = omega (arith, ap (λ (c : Connection). size c) h.1)
sent (Asked now) a b table most h room small less = omega (arith, ap (λ (c : Connection). size c) h.1)
sent (Lacked needed) a b table most h room small less = omega (arith, ap (λ (c : Connection). size c) h.2)
sent (Answered request closes reply line) a b table most h room small less =
    omega (arith, room, small, ap (λ (c : Connection). size c) h.3)
sent (Logged line) a b table most h room small less = omega (arith, ap (λ (c : Connection). size c) h.2)
sent (CutOff line) a b table most h room small less = omega (arith, ap (λ (c : Connection). size c) h.2)
sent (Took bytes now) a b table most h room small less =
    omega (arith, ap (λ (t : List ℕ). length t) h.3, length-append bytes b.output, ap (λ (c : Connection). size c) h.4)
sent (Gone why) a b table most h room small less = omega (arith, ap (λ (c : Connection). size c) h.2)

record IsWithin (most : ℕ) (table : List Connection) : Type 0 where
  few : longs table ≤ MAX_LONG
  output : unsent table ≤ MAX_UNSENT + most

change_within : (most at : ℕ) (change : Change) (old new : List Connection) → ChangesAt at change old new → reply_in change ≤ most
    → IsWithin most old → IsWithin most new
change_within most at change old new move small was =
    let many : longs new + one move.before ≡ longs old + one move.after =
    ap (λ (t : List Connection). longs t + one move.before) move.is ∙ sum_set (λ c. one c) old at move.before move.after move.found in
    let bytes : unsent new + size move.before ≡ unsent old + size move.after =
    ap (λ (t : List Connection). unsent t + size move.before) move.is ∙ sum_set (λ c. size c) old at move.before move.after move.found in
    record {
      few = omega (arith, many, few change move.before move.after old move.changed move.room was.few);
      output = omega (arith, bytes, sent change move.before move.after old most move.changed move.room small was.output);
    }

-- a commit, also one that fails, makes no connection hold more bytes
abbrev HoldsNoMore : Connection → Connection → Type 0
HoldsNoMore a b = (one b ≤ one a) × (size b ≤ size a)

less_committed : (s : Stage) (c : Connection) → HoldsNoMore c (committed_at s c)
less_committed Stages.Made c = (omega arith, omega arith)
less_committed Stages.Committed c = (omega arith, omega arith)
less_committed Stages.Logged c = (omega arith, omega arith)
less_committed Stages.Uncommitted c = (omega arith, omega arith)
less_committed Stages.Unlogged c = (omega arith, omega arith)

less_uncommitted : (s : Stage) (c : Connection) → HoldsNoMore c (uncommitted_at s c)
less_uncommitted Stages.Made c = (omega arith, omega arith)
less_uncommitted Stages.Committed c = (omega arith, omega arith)
less_uncommitted Stages.Logged c = (omega arith, omega arith)
less_uncommitted Stages.Uncommitted c = (omega arith, omega arith)
less_uncommitted Stages.Unlogged c = (omega arith, omega arith)

all_within : (most : ℕ) (f : Connection → Connection) (old new : List Connection) → new ≡ map f old
    → ((c : Connection) → HoldsNoMore c (f c)) → IsWithin most old → IsWithin most new
all_within most f old new is less was =
    let many : longs (map f old) ≤ longs old = sum_map_le (λ c. one c) f old (λ c. (less c).0) in
    let bytes : unsent (map f old) ≤ unsent old = sum_map_le (λ c. size c) f old (λ c. (less c).1) in
    record {
      few = omega (arith, ap (λ (t : List Connection). longs t) is, many, was.few);
      output = omega (arith, ap (λ (t : List Connection). unsent t) is, bytes, was.output);
    }

all : (entries : List Entry) (most : ℕ) (old new : List Connection) → AreChanges entries old new → AreAtMost most entries
    → IsWithin most old → IsWithin most new
all [] most old new h small was = subst (IsWithin most) (sym h) was
all (At at change ∷ entries) most old new h small was =
    all entries most h.0 new h.2 small.1 (change_within most at change old h.0 h.1 small.0 was)
all (Committed ∷ entries) most old new h small was =
    all entries most h.0 new h.2 small (all_within most committed old h.0 h.1 (λ c. less_committed c.stage c) was)
all (Uncommitted ∷ entries) most old new h small was =
    all entries most h.0 new h.2 small (all_within most uncommitted old h.0 h.1 (λ c. less_uncommitted c.stage c) was)

none_free : (f : Connection → ℕ) → f (fresh false 0) ≡ 0 → (table : List Connection) → AreFree table → sum_by f table ≡ 0
none_free f zero_at [] free = refl
none_free f zero_at (c ∷ table) free = omega (arith, sum_by-cons f c table, ap f free.0, zero_at, none_free f zero_at table free.1)

-- what all connections hold
in_all : (table : List Connection) → ((at : ℕ) (c : Connection) → slice_get table at ≡ Some c → held c ≤ MAX_INPUT)
    → sum_by held table ≤ length table * MAX_SHORT + longs table * MAX_INPUT
in_all [] small = omega arith
in_all (c ∷ table) small =
    let rest : sum_by held table ≤ length table * MAX_SHORT + longs table * MAX_INPUT =
    in_all table (λ at d found. small (suc at) d found) in
    let many : longs (c ∷ table) ≡ one c + longs table = sum_by-cons (λ c. one c) c table in
    let bytes : sum_by held (c ∷ table) ≡ held c + sum_by held table = sum_by-cons held c table in
    let here : held c ≤ MAX_INPUT = small 0 c refl in
    elim (one_at (held c)) [
      | inl x ↦ omega (arith, rest, many, bytes, x.0, x.1)
      | inr x ↦ omega (arith, rest, many, bytes, x.0, here)
    ]

pub tables_are_bounded : TablesAreBounded
tables_are_bounded entries old new most free changes small =
    let none : longs old ≡ 0 = none_free (λ c. one c) refl old free in
    let nothing : unsent old ≡ 0 = none_free (λ c. size c) refl old free in
    let start : IsWithin most old = record { few = omega (arith, none); output = omega (arith, nothing) } in
    let end = all entries most old new changes small start in
    let total = in_all new (λ at c found. omega (arith, (stories_fit entries old new free changes at c found).small)) in
    record { few = end.few; input = omega (arith, total, end.few); output = end.output }
