-- Limits of time over a table.
use Rattle.std.proofs.Common.{◌≡◌, ◌≢◌, ◌≤◌, ◌<◌, ◌+◌, ◌-◌, ◌⊎◌, min, ℕ, List, [], ◌∷◌, ◌++◌, Bool, true, false, length, Some, None, refl, sym, ap, ◌∙◌, subst, inl, inr, arith}
use Rattle.std.specs.Prelude.{Option, if◌then◌else◌, nat_lt, slice_get, slice_set}
use Rattle.std.proofs.lemmas.Bool.{cases_lt}
use Rattle.std.proofs.lemmas.Bool.Decides.{nat_tests}
use Rattle.std.proofs.lemmas.Option.{slice_get_within}
use Rattle.connections.specs.Connections.{At, AreChanges, AwaitsAnswer, ChangesAt, Connection, Entry, Gone, HasOne, IsCalledFor, fresh, unsent, unsent_of}
use Rattle.connections.specs.Limits.{AreClosed, HasClaim, IsDue, IsEarliest, IsFirstAfter, IsOneOver, IsOverLimit, claimed}
use Rattle.connections.specs.Made.{IsMade, MayClose, MayEnd}
use Rattle.connections.specs.Rounds.{AreAll}
use Rattle.connections.specs.declared.TheConstants.{MAX_WAIT}
use Rattle.connections.specs.declared.slot.Claim.{Claim}
use Rattle.connections.specs.declared.slot.Limit.{Limit}
use Rattle.connections.specs.declared.slot.Reason.{Reason}
use Rattle.connections.specs.declared.slot.Reason.TheVariants as Reasons
use Rattle.connections.specs.declared.slot.Stage.TheVariants as Stages
use Rattle.connections.specs.inner.Earliest.{Claimant, first_claim}
use Rattle.connections.specs.Times.{first_of_both}
use Rattle.connections.proofs.JoinLemmas.{all_join, changes_join}
use Rattle.connections.proofs.TableLemmas.{eq_or_not, get_set_other, get_set_same, some_is, sum_set}

-- a connection that awaits an answer after another is closed awaited one before
free_awaits_none : AwaitsAnswer (fresh false 0) → ⊥
free_awaits_none h = let both : false ≡ true = h.0.is_open in cc

awaited_before : (why : Reason) (at : ℕ) (now next : List Connection) → ChangesAt at (Gone why) now next
    → HasOne AwaitsAnswer next → HasOne AwaitsAnswer now
awaited_before why at now next move one =
    let found : slice_get (slice_set now at move.after) one.0 ≡ Some one.1 = ap (λ (t : List Connection). slice_get t one.0) (sym move.is) ∙ one.2 in
    elim (eq_or_not at one.0) [
      | inl here ↦
          let set : slice_get (slice_set now at move.after) at ≡ Some move.after = get_set_same now at move.before move.after move.found in
          let is : one.1 ≡ fresh false 0 =
          some_is (sym found ∙ ap (slice_get (slice_set now at move.after)) (sym here) ∙ set) ∙ move.changed.2 in
          absurd (free_awaits_none (subst AwaitsAnswer is one.3))
      | inr differ ↦ (one.0, one.1, sym (get_set_other now at one.0 move.after differ) ∙ found, one.3)
    ]

-- what a table calls for after a connection is closed, it called for before
called_before : (why : Reason) (at : ℕ) (now next : List Connection) → ChangesAt at (Gone why) now next → IsCalledFor why next
    → IsCalledFor why now
called_before Reasons.Over at now next move calls = tt
called_before Reasons.Broken at now next move calls = tt
called_before Reasons.NoMemory at now next move calls = tt
called_before Reasons.Unlogged at now next move calls = tt
called_before Reasons.Uncommitted at now next move calls = tt
called_before (Reasons.Expired idle) at now next move calls = tt
called_before Reasons.MadeRoom at now next move calls = tt
called_before Reasons.Crowded at now next move calls = (
  omega (
    arith,
    calls.0,
    ap (λ (t : List Connection). unsent t) move.is,
    sum_set (λ c. unsent_of c) now at move.before move.after move.found,
    ap (λ (c : Connection). unsent_of c) move.changed.2,
  ),
  awaited_before Reasons.Crowded at now next move calls.1,
)

-- the connections below `at` are closed that may be
module _ (why : Reason) (table : List Connection) where
  abbrev IsClosedOrKept : ℕ → Connection → List Connection → Type 0
  IsClosedOrKept k c now =
      (MayClose why c × (slice_get now k ≡ Some (fresh false 0)))
      ⊎ ((MayClose why c → IsCalledFor why now → ⊥) × (slice_get now k ≡ Some c))

  pub record SoFar (at : ℕ) (now : List Connection) : Type 0 where
    pub entries : List Entry
    pub changes : AreChanges entries table now
    pub all : AreAll (λ change. change ≡ Gone why) entries
    pub before : (k : ℕ) (c : Connection) → k < at → slice_get table k ≡ Some c → IsClosedOrKept k c now
    pub same : (k : ℕ) → at ≤ k → slice_get now k ≡ slice_get table k

  pub start : SoFar 0 table
  start = record {
    entries = [];
    changes = refl;
    all = tt;
    before = λ k c less found. absurd (omega arith);
    same = λ k h. refl;
  }

  pub closed : (at : ℕ) (done : Bool) (now next : List Connection) → SoFar at now → IsMade done at (Gone why) (MayEnd why now) now next
      → SoFar (at + 1) next
  closed at true now next so move =
      let e : Entry = At at (Gone why) in
      let there : (k : ℕ) → at ≢ k → slice_get next k ≡ slice_get now k =
      λ k differ. ap (λ (t : List Connection). slice_get t k) move.is ∙ get_set_other now at k move.after differ in
      record {
        entries = so.entries ++ e ∷ [];
        changes = changes_join so.entries (e ∷ []) table now next so.changes (next, move, refl);
        all = all_join (λ change. change ≡ Gone why) so.entries (e ∷ []) so.all (refl, tt);
        before = λ k c less found. elim (eq_or_not at k) [
          | inl here ↦
              let is : c ≡ move.before = some_is (sym found ∙ sym (so.same k (omega arith)) ∙ ap (slice_get now) (sym here) ∙ move.found) in
              inl (
                subst (MayClose why) (sym is) (move.changed.0, move.changed.1),
                ap (λ (t : List Connection). slice_get t k) move.is ∙ ap (λ (i : ℕ). slice_get (slice_set now i move.after) k) here
                    ∙ get_set_same now k move.before move.after (ap (slice_get now) (sym here) ∙ move.found) ∙ ap Some move.changed.2,
              )
          | inr differ ↦ elim (so.before k c (omega arith) found) [
            | inl gone ↦ inl (gone.0, there k differ ∙ gone.1)
            | inr kept ↦ inr (λ may calls. kept.0 may (called_before why at now next move calls), there k differ ∙ kept.1)
          ]
        ];
        same = λ k h. there k (λ e. omega arith) ∙ so.same k (omega arith);
      }
  closed at false now next so h =
      subst (λ (t : List Connection). SoFar (at + 1) t) (sym h.0) (record {
        entries = so.entries;
        changes = so.changes;
        all = so.all;
        before = λ k c less found. elim (eq_or_not at k) [
          | inl here ↦
              let is : slice_get now k ≡ Some c = so.same k (omega arith) ∙ found in
              inr (λ may calls. h.1 c (ap (slice_get now) here ∙ is) (may, calls), is)
          | inr differ ↦ so.before k c (omega arith) found
        ];
        same = λ k h. so.same k (omega arith);
      })

  pub all_closed : (at : ℕ) (now : List Connection) → (so : SoFar at now) → length table ≤ at → AreClosed why table so.entries now
  all_closed at now so whole = record {
    all = so.all;
    each = λ k c found. let less = slice_get_within table k c found in so.before k c (omega (arith, less)) found;
  }

-- the first of two times
pub first_of_either : (now : ℕ) (P Q : ℕ → Type 0) (one other : Option ℕ) → IsFirstAfter now P one → IsFirstAfter now Q other
    → IsFirstAfter now (λ t. P t ⊎ Q t) (first_of_both one other)
first_of_either now P Q None None h g = λ t either. elim either [ inl p ↦ h t p | inr q ↦ g t q ]
first_of_either now P Q None (Some b) h g = (
  λ t begun less either. elim either [ inl p ↦ h t p | inr q ↦ g.0 t begun less q ],
  elim g.1 [ inl most ↦ inl most | inr q ↦ inr (inr q) ],
)
first_of_either now P Q (Some a) None h g = (
  λ t begun less either. elim either [ inl p ↦ h.0 t begun less p | inr q ↦ g t q ],
  elim h.1 [ inl most ↦ inl most | inr p ↦ inr (inl p) ],
)
first_of_either now P Q (Some a) (Some b) h g = (
  λ t begun less either. elim either [ inl p ↦ h.0 t begun (omega arith) p | inr q ↦ g.0 t begun (omega arith) q ],
  elim (cases_lt b a) [
    | inr less ↦
        let is : min a b ≡ a = omega arith in
        elim h.1 [ inl most ↦ inl (is ∙ most) | inr p ↦ inr (inl (subst (λ (w : ℕ). P (now + w)) (sym is) p)) ]
    | inl more ↦
        let is : min a b ≡ b = omega arith in
        elim g.1 [ inl most ↦ inl (is ∙ most) | inr q ↦ inr (inr (subst (λ (w : ℕ). Q (now + w)) (sym is) q)) ]
  ],
)

-- the same of equivalent properties
pub first_of_same : (now : ℕ) (P Q : ℕ → Type 0) (wait : Option ℕ) → ((t : ℕ) → P t → Q t) → ((t : ℕ) → Q t → P t)
    → IsFirstAfter now P wait → IsFirstAfter now Q wait
first_of_same now P Q None to back h = λ t q. h t (back t q)
first_of_same now P Q (Some w) to back h =
    (λ t begun less q. h.0 t begun less (back t q), elim h.1 [ inl most ↦ inl most | inr p ↦ inr (to (now + w) p) ])

pub first_over : (now start millis : ℕ) → IsFirstAfter now (λ t. start + millis ≤ t) (Some (min (start + millis - now) MAX_WAIT))
first_over now start millis = (
  λ t begun less over. omega arith,
  elim (cases_lt MAX_WAIT (start + millis - now)) [ inl more ↦ inl (omega arith) | inr less ↦ inr (omega arith) ],
)

-- a connection that is awaited is due when it is over the limit
pub due_of_over : (now : ℕ) (limit : Limit) (c : Connection) (wait : Option ℕ) → c.is_open ≡ true
    → (c.stage ≡ Stages.Logged) × (c.asked ≡ true) → IsFirstAfter now (λ t. IsOverLimit limit t c) wait
    → IsFirstAfter now (λ t. IsDue limit t c) wait
due_of_over now limit c wait open_now awaited h =
    first_of_same now (λ t. IsOverLimit limit t c) (λ t. IsDue limit t c) wait
    (λ t p. (open_now, awaited.0, awaited.1, p)) (λ t q. q.3) h

-- a connection below `i` is over the limit
pub record IsOneBelow (limit : Limit) (table : List Connection) (i : ℕ) (t : ℕ) : Type 0 where
  pub at : ℕ
  pub connection : Connection
  pub less : at < i
  pub found : slice_get table at ≡ Some connection
  pub over : IsDue limit t connection

pub none_below : (limit : Limit) (table : List Connection) (now : ℕ) → IsFirstAfter now (IsOneBelow limit table 0) None
none_below limit table now = λ t one. let less = one.less in omega arith

pub one_more : (limit : Limit) (table : List Connection) (now i : ℕ) (c : Connection) (wait here : Option ℕ)
    → slice_get table i ≡ Some c → IsFirstAfter now (IsOneBelow limit table i) wait
    → IsFirstAfter now (λ t. IsDue limit t c) here
    → IsFirstAfter now (IsOneBelow limit table (i + 1)) (first_of_both wait here)
one_more limit table now i c wait here found h g =
    first_of_same now (λ t. IsOneBelow limit table i t ⊎ IsDue limit t c) (IsOneBelow limit table (i + 1)) (first_of_both wait here)
    (λ t either. elim either [
      | inl one ↦
          let less = one.less in
          record { at = one.at; connection = one.connection; less = omega arith; found = one.found; over = one.over }
      | inr over ↦ record { at = i; connection = c; less = omega arith; found = found; over = over }
    ])
    (λ t one. elim (eq_or_not one.at i) [
      | inl same ↦ inr (subst (IsDue limit t) (some_is (sym one.found ∙ ap (slice_get table) same ∙ found)) one.over)
      | inr differ ↦
          let less = one.less in
          inl (record { at = one.at; connection = one.connection; less = omega arith; found = one.found; over = one.over })
    ])
    (first_of_either now (IsOneBelow limit table i) (λ t. IsDue limit t c) wait here h g)

pub all_below : (limit : Limit) (table : List Connection) (now i : ℕ) (wait : Option ℕ) → length table ≤ i
    → IsFirstAfter now (IsOneBelow limit table i) wait → IsFirstAfter now (IsOneOver limit table) wait
all_below limit table now i wait whole h =
    first_of_same now (IsOneBelow limit table i) (IsOneOver limit table) wait
    (λ t one. record { at = one.at; connection = one.connection; found = one.found; over = one.over })
    (λ t one.
    let less = slice_get_within table one.at one.connection one.found in
    record { at = one.at; connection = one.connection; less = omega arith; found = one.found; over = one.over }) h

-- the claimant that comes first of the slots below `at`
abbrev pub IsBest : Claim → List Connection → ℕ → Option Claimant → Type 0
IsBest claim table at None = (k : ℕ) (c : Connection) → k < at → slice_get table k ≡ Some c → HasClaim claim c → ⊥
IsBest claim table at (Some best) =
    (best.0 < at) × ((c : Connection) × (slice_get table best.0 ≡ Some c) × HasClaim claim c × (best.1 ≡ claimed claim c))
    × ((k : ℕ) (d : Connection) → k < at → slice_get table k ≡ Some d → HasClaim claim d
    → (best.1 < claimed claim d) ⊎ ((best.1 ≡ claimed claim d) × (best.0 ≤ k)))

lt_true : {m n : ℕ} → m < n → nat_lt m n ≡ true
lt_true h = grind (arith, nat_tests)

lt_false : {m n : ℕ} → n ≤ m → nat_lt m n ≡ false
lt_false h = grind (arith, nat_tests)

chosen : (b v : Bool) (x y : Option Claimant) → b ≡ v → (if b then x else y) ≡ (if v then x else y)
chosen b v x y h = ap (λ (t : Bool). if t then x else y) h

not_later : (m n i k : ℕ) → m ≤ n → i ≤ k → (m < n) ⊎ ((m ≡ n) × (i ≤ k))
not_later m n i k less below = elim (cases_lt m n) [ inl h ↦ inl h | inr h ↦ inr (omega arith, below) ]

abbrev pub HasClaimSince : Claim → Connection → Option ℕ → Type 0
HasClaimSince claim c None = HasClaim claim c → ⊥
HasClaimSince claim c (Some time) = HasClaim claim c × (time ≡ claimed claim c)

pub none_best : (claim : Claim) (table : List Connection) → IsBest claim table 0 None
none_best claim table = λ k c less found has. absurd (omega arith)

-- one more slot
pub best_more : (claim : Claim) (table : List Connection) (at : ℕ) (c : Connection) (best : Option Claimant) (time : Option ℕ)
    → slice_get table at ≡ Some c → HasClaimSince claim c time → IsBest claim table at best
    → IsBest claim table (at + 1) (first_claim best at time)
best_more claim table at c None None found h was = λ k d less f has. elim (eq_or_not k at) [
  | inl same ↦ h (subst (HasClaim claim) (some_is (sym f ∙ ap (slice_get table) same ∙ found)) has)
  | inr differ ↦ was k d (omega arith) f has
]
best_more claim table at c (Some best) None found h was = (
  omega (arith, was.0),
  was.1,
  λ k d less f has. elim (eq_or_not k at) [
    | inl same ↦ absurd (h (subst (HasClaim claim) (some_is (sym f ∙ ap (slice_get table) same ∙ found)) has))
    | inr differ ↦ was.2 k d (omega arith) f has
  ],
)
best_more claim table at c None (Some time) found h was = (
  omega arith,
  (c, found, h.0, h.1),
  λ k d less f has. elim (eq_or_not k at) [
    | inl same ↦ inr (h.1 ∙ ap (claimed claim) (some_is (sym found ∙ ap (slice_get table) (sym same) ∙ f)), omega arith)
    | inr differ ↦ absurd (was k d (omega arith) f has)
  ],
)
best_more claim table at c (Some best) (Some time) found h was = elim (cases_lt time best.1) [
  | inl less ↦ subst (IsBest claim table (at + 1)) (sym (chosen (nat_lt time best.1) true (Some (at, time)) (Some best) (lt_true less))) (
    omega arith,
    (c, found, h.0, h.1),
    λ k d below f has. elim (eq_or_not k at) [
      | inl same ↦ inr (h.1 ∙ ap (claimed claim) (some_is (sym found ∙ ap (slice_get table) (sym same) ∙ f)), omega arith)
      | inr differ ↦ inl (elim (was.2 k d (omega arith) f has) [ inl more ↦ omega (arith, more, less) | inr equal ↦ omega (arith, equal.0, less) ])
    ],
  )
  | inr more ↦ subst (IsBest claim table (at + 1)) (sym (chosen (nat_lt time best.1) false (Some (at, time)) (Some best) (lt_false more))) (
    omega (arith, was.0),
    was.1,
    λ k d below f has. elim (eq_or_not k at) [
      | inl same ↦
          let is : time ≡ claimed claim d = h.1 ∙ ap (claimed claim) (some_is (sym found ∙ ap (slice_get table) (sym same) ∙ f)) in
          not_later best.1 (claimed claim d) best.0 k (omega arith) (omega (arith, was.0))
      | inr differ ↦ was.2 k d (omega arith) f has
    ],
  )
]

pub best_is_earliest : (claim : Claim) (table : List Connection) (at : ℕ) (best : Claimant) → length table ≤ at
    → IsBest claim table at (Some best) → IsEarliest claim table (Some best.0)
best_is_earliest claim table at best whole h = (
  h.1.0,
  h.1.1,
  h.1.2,
  λ k d found has.
      let less = slice_get_within table k d found in
      subst (λ (t : ℕ). (t < claimed claim d) ⊎ ((t ≡ claimed claim d) × (best.0 ≤ k))) h.1.3 (h.2 k d (omega arith) found has),
)

pub none_is_earliest : (claim : Claim) (table : List Connection) (at : ℕ) → length table ≤ at
    → IsBest claim table at None → IsEarliest claim table None
none_is_earliest claim table at whole h = λ k c found has.
    let less = slice_get_within table k c found in h k c (omega arith) found has
