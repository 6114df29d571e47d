-- The answers of a round as far as it has gone.
use Rattle.std.proofs.Common.{◌≡◌, ◌≢◌, ◌≤◌, ◌<◌, ◌+◌, ◌==◌, ◌⊎◌, ℕ, List, [], ◌∷◌, ◌++◌, length, Bool, true, false, Some, refl, sym, ap, ◌∙◌, subst, inl, inr, arith}
use Rattle.std.specs.Prelude.{slice_get, slice_set, if◌then◌else◌, IsTrue, IsFalse}
use Rattle.std.proofs.lemmas.Option.{slice_get_within}
use Rattle.connections.specs.Connections.{Answered, AreChanges, At, Change, ChangesAt, Connection, Entry, Lacked, MayAnswer, unsent, unsent_of}
use Rattle.connections.specs.Framing.{StaysUnfinished}
use Rattle.connections.specs.Rounds.{AreAll, AreLacking, AreNeeded, AreReady, AreSettled, HasItsTurn, IsALack, IsATurn, IsQuiet, IsRound, IsSettledAt, answers_at, replied}
use Rattle.connections.specs.Steps.{AreLogged, Answering, IsChain, LineRelation, Steps, StepsAt}
use Rattle.connections.specs.declared.TheConstants.{MAX_UNSENT}
use Rattle.connections.specs.declared.slot.Stage.{Stage}
use Rattle.connections.specs.declared.slot.Stage.TheVariants as Stages
use Rattle.connections.specs.inner.Turns.{IsIdleAt}
use Rattle.connections.specs.inner.Waiting.{AreMadeOrSettled, IsMadeOrSettled, waiting}
use Rattle.connections.proofs.JoinLemmas.{all_join, all_split, answers_join, chain_join, changes_join, if_zero, logged_join, replied_join}
use Rattle.connections.proofs.TableLemmas.{eq_or_not, eqb_differs, eqb_same, get_set_other, get_set_same, some_is, sum_set}
use Rattle.connections.proofs.WaitingLemmas.{made_or_settled, none_waiting, waiting_more, waiting_same}

true_not_false : IsFalse true → ⊥
true_not_false h = cc

false_not_true : IsTrue false → ⊥
false_not_true h = cc

-- what is at a slot after a change at a slot
here_after : (at k : ℕ) (change : Change) (now next : List Connection) (c : Connection) → (move : ChangesAt at change now next) → at ≡ k
    → slice_get next k ≡ Some c → move.after ≡ c
here_after at k change now next c move same found =
    some_is (sym (ap (λ (t : List Connection). slice_get t k) move.is ∙ ap (λ (i : ℕ). slice_get (slice_set now i move.after) k) same
    ∙ get_set_same now k move.before move.after (ap (slice_get now) (sym same) ∙ move.found)) ∙ found)

there_after : (at k : ℕ) (change : Change) (now next : List Connection) → (move : ChangesAt at change now next) → at ≢ k
    → slice_get next k ≡ slice_get now k
there_after at k change now next move differ =
    ap (λ (t : List Connection). slice_get t k) move.is ∙ get_set_other now at k move.after differ

pub lacked_unsent : (at needed : ℕ) (now next : List Connection) → ChangesAt at (Lacked needed) now next → unsent next ≡ unsent now
lacked_unsent at needed now next change =
    omega (
      arith,
      ap (λ (t : List Connection). unsent t) change.is,
      sum_set (λ c. unsent_of c) now at change.before change.after change.found,
      ap (λ (c : Connection). unsent_of c) change.changed.2,
    )

pub answered_unsent : (at : ℕ) (request : List ℕ) (closes : Bool) (reply line : List ℕ) (now next : List Connection)
    → ChangesAt at (Answered request closes reply line) now next → unsent next ≤ unsent now + length reply + length line
answered_unsent at request closes reply line now next change =
    omega (
      arith,
      ap (λ (t : List Connection). unsent t) change.is,
      sum_set (λ c. unsent_of c) now at change.before change.after change.found,
      ap (λ (c : Connection). unsent_of c) change.changed.3,
    )

pub idle_unsent : (is_unfinished : List ℕ → Type 0) (at : ℕ) (now next : List Connection) (a : Connection)
    → IsIdleAt is_unfinished a at now next → unsent next ≡ unsent now
idle_unsent is_unfinished at now next a is = elim is.2 [
  | inl same ↦ ap (λ (t : List Connection). unsent t) same.0
  | inr less ↦ lacked_unsent at less.0 now next less.1
]

module _ {S : Type 0} (answers : Answering S) (lines : LineRelation) (commits commit_fails : S → S → Type 0)
    (is_unfinished : List ℕ → Type 0) (from : ℕ) (table : List Connection) (old : S) where
  abbrev steps : S → Entry → S → Type 0
  steps = Steps answers lines commits commit_fails

  -- no slot from `from` on and below `at` has a whole request that may be answered
  abbrev AreQuietBelow : ℕ → List Connection → Type 0
  AreQuietBelow at now = (k : ℕ) (c : Connection) → from ≤ k → k < at → slice_get now k ≡ Some c → MayAnswer c
      → is_unfinished c.input × (length c.input < c.needed)

  -- the slots from `from` on and below `at` have had their turns
  pub record SoFar (at : ℕ) (any : Bool) (now : List Connection) (new : S) : Type 0 where
    pub entries : List Entry
    pub changes : AreChanges entries table now
    pub chain : IsChain (Steps answers lines commits commit_fails) entries old new
    pub all : AreAll IsATurn entries
    pub before : (k : ℕ) (c : Connection) → from ≤ k → k < at → slice_get table k ≡ Some c → HasItsTurn is_unfinished k c entries
    pub none : (k : ℕ) → (k < from) ⊎ (at ≤ k) → answers_at k entries ≡ 0
    pub same : (k : ℕ) → at ≤ k → slice_get now k ≡ slice_get table k
    pub first : (from < at) ⊎ (now ≡ table)
    pub made : AreMadeOrSettled now
    pub needs : AreNeeded is_unfinished now
    pub logged : AreLogged entries [] (waiting 0 now)
    pub sent : unsent now ≤ unsent table + replied entries
    pub idle : IsFalse any → AreAll IsALack entries × AreSettled now × AreQuietBelow at now
    pub busy : IsTrue any → AreAll IsALack entries → ⊥

  pub start : AreReady is_unfinished table → SoFar from false table old
  start ready = record {
    entries = [];
    changes = refl;
    chain = refl;
    all = tt;
    before = λ k c begun less found. absurd (omega arith);
    none = λ k h. refl;
    same = λ k h. refl;
    first = inr refl;
    made = λ k c found. made_or_settled c.stage (ready.settled k c found);
    needs = ready.needs;
    logged = none_waiting 0 table ready.settled;
    sent = omega arith;
    idle = λ h. (tt, ready.settled, λ k c begun less found. absurd (omega arith));
    busy = λ h. absurd (false_not_true h);
  }

  still : (k at : ℕ) → (k < from) ⊎ (at + 1 ≤ k) → (k < from) ⊎ (at ≤ k)
  still k at h = elim h [ inl less ↦ inl less | inr more ↦ inr (omega arith) ]

  apart : (k at : ℕ) → from ≤ at → (k < from) ⊎ (at + 1 ≤ k) → at ≢ k
  apart k at begun h = elim h [ inl less ↦ λ e. omega arith | inr more ↦ λ e. omega arith ]

  -- a turn without an entry
  unchanged : (at : ℕ) → from ≤ at → (any : Bool) (now : List Connection) (new : S) (a : Connection) → SoFar at any now new
      → slice_get now at ≡ Some a → (MayAnswer a → is_unfinished a.input) → (MayAnswer a → length a.input < a.needed)
      → SoFar (at + 1) any now new
  unchanged at begun any now new a so here unfinished lacks =
      let none : (c : Connection) → slice_get now at ≡ Some c → MayAnswer c → is_unfinished c.input =
      λ c found. subst (λ (t : Connection). MayAnswer t → is_unfinished t.input) (some_is (sym here ∙ found)) unfinished in
      record {
        entries = so.entries;
        changes = so.changes;
        chain = so.chain;
        all = so.all;
        before = λ k c begun less found. elim (eq_or_not k at) [
          | inl same ↦ inr (so.none k (inr (omega arith)), λ may. none c (sym (ap (slice_get now) same) ∙ so.same k (omega arith) ∙ found) may)
          | inr other ↦ so.before k c begun (omega arith) found
        ];
        none = λ k h. so.none k (still k at h);
        same = λ k h. so.same k (omega arith);
        first = inl (omega arith);
        made = so.made;
        needs = so.needs;
        logged = so.logged;
        sent = so.sent;
        busy = so.busy;
        idle = λ h. (
          (so.idle h).0,
          (so.idle h).1,
          λ k c begun less found may. elim (eq_or_not k at) [
            | inl same ↦
                let is : a ≡ c = some_is (sym here ∙ sym (ap (slice_get now) same) ∙ found) in (
                  none c (sym (ap (slice_get now) same) ∙ found) may,
                  subst (λ (t : Connection). MayAnswer t → length t.input < t.needed) is lacks may,
                )
            | inr other ↦ (so.idle h).2 k c begun (omega arith) found may
          ],
        );
      }

  -- a turn in which the service found how many bytes the connection needs
  lacked : (at : ℕ) → from ≤ at → (any : Bool) (now next : List Connection) (new : S) (a : Connection) (needed : ℕ) → SoFar at any now new
      → slice_get now at ≡ Some a → (MayAnswer a → is_unfinished a.input) → ChangesAt at (Lacked needed) now next
      → StaysUnfinished is_unfinished a.input needed → SoFar (at + 1) any next new
  lacked at begun any now next new a needed so here unfinished change stays =
      let e : Entry = At at (Lacked needed) in
      let is_a : a ≡ change.before = some_is (sym here ∙ change.found) in
      let input : a.input ≡ change.after.input = ap (λ (c : Connection). c.input) is_a ∙ sym (ap (λ (c : Connection). c.input) change.changed.2) in
      let count : (k : ℕ) → answers_at k (so.entries ++ e ∷ []) ≡ answers_at k so.entries =
      λ k. answers_join k so.entries (e ∷ []) ∙ omega (arith, if_zero (at == k) 0 refl) in
      let whole : is_unfinished change.after.input =
      subst is_unfinished input (unfinished (subst MayAnswer (sym is_a) change.changed.0)) in
      let less : length change.after.input < change.after.needed =
      subst (λ (t : Connection). length t.input < t.needed) (sym change.changed.2) change.changed.1 in
      let quiet : (k : ℕ) (c : Connection) → at ≡ k → slice_get next k ≡ Some c → is_unfinished c.input × (length c.input < c.needed) =
      λ k c same found. subst (λ (t : Connection). is_unfinished t.input × (length t.input < t.needed))
      (here_after at k (Lacked needed) now next c change same found) (whole, less) in
      record {
        entries = so.entries ++ e ∷ [];
        changes = changes_join so.entries (e ∷ []) table now next so.changes (next, change, refl);
        chain = chain_join steps so.entries (e ∷ []) old new new so.chain (new, refl, refl);
        all = all_join IsATurn so.entries (e ∷ []) so.all (tt, tt);
        before = λ k c begun less found. elim (eq_or_not k at) [
          | inl same ↦ inr (
            count k ∙ so.none k (inr (omega arith)),
            λ may. subst (λ (t : Connection). MayAnswer t → is_unfinished t.input)
                (some_is (sym here ∙ sym (ap (slice_get now) same) ∙ so.same k (omega arith) ∙ found)) unfinished may,
          )
          | inr other ↦ elim (so.before k c begun (omega arith) found) [
            | inl once ↦ inl (count k ∙ once)
            | inr never ↦ inr (count k ∙ never.0, never.1)
          ]
        ];
        none = λ k h. count k ∙ so.none k (still k at h);
        same = λ k h. there_after at k (Lacked needed) now next change (λ e. omega arith) ∙ so.same k (omega arith);
        first = inl (omega arith);
        made = λ k c found. elim (eq_or_not at k) [
          | inl same ↦
              subst (λ (t : Connection). IsMadeOrSettled t.stage) (here_after at k (Lacked needed) now next c change same found)
              (subst (λ (t : Connection). IsMadeOrSettled t.stage) (sym change.changed.2) (so.made at change.before change.found))
          | inr differ ↦ so.made k c (sym (there_after at k (Lacked needed) now next change differ) ∙ found)
        ];
        needs = λ k c found. elim (eq_or_not at k) [
          | inl same ↦
              subst (λ (t : Connection). StaysUnfinished is_unfinished t.input t.needed) (here_after at k (Lacked needed) now next c change same found)
              (subst (λ (t : Connection). StaysUnfinished is_unfinished t.input t.needed) (sym change.changed.2)
              (subst (λ (t : Connection). StaysUnfinished is_unfinished t.input needed) is_a stays))
          | inr differ ↦ so.needs k c (sym (there_after at k (Lacked needed) now next change differ) ∙ found)
        ];
        logged = logged_join so.entries (e ∷ []) [] (waiting 0 now) (waiting 0 next) so.logged (
          waiting 0 now,
          refl,
          ap (λ (t : List Connection). waiting 0 t) change.is
              ∙ waiting_same 0 now at change.before change.after change.found (ap (λ (c : Connection). c.stage) change.changed.2)
              (ap (λ (c : Connection). c.line) change.changed.2),
        );
        busy = λ h lacks. so.busy h (all_split IsALack so.entries (e ∷ []) lacks).0;
        sent = omega (arith, so.sent, lacked_unsent at needed now next change, replied_join so.entries (e ∷ []));
        idle = λ h. (
          all_join IsALack so.entries (e ∷ []) (so.idle h).0 (tt, tt),
          λ k c found. elim (eq_or_not at k) [
            | inl same ↦
                subst (λ (t : Connection). IsSettledAt t.stage) (here_after at k (Lacked needed) now next c change same found)
                (subst (λ (t : Connection). IsSettledAt t.stage) (sym change.changed.2) ((so.idle h).1 at change.before change.found))
            | inr differ ↦ (so.idle h).1 k c (sym (there_after at k (Lacked needed) now next change differ) ∙ found)
          ],
          λ k c begun less found may. elim (eq_or_not at k) [
            | inl same ↦ quiet k c same found
            | inr differ ↦ (so.idle h).2 k c begun (omega arith) (sym (there_after at k (Lacked needed) now next change differ) ∙ found) may
          ],
        );
      }

  pub idle_turn : (at : ℕ) → from ≤ at → (any : Bool) (now next : List Connection) (new : S) (a : Connection) → SoFar at any now new
      → IsIdleAt is_unfinished a at now next → SoFar (at + 1) any next new
  idle_turn at begun any now next new a so is = elim is.2 [
    | inl same ↦ subst (λ (t : List Connection). SoFar (at + 1) any t new) (sym same.0) (unchanged at begun any now new a so is.0 is.1 same.1)
    | inr less ↦ lacked at begun any now next new a less.0 so is.0 is.1 less.1 less.2
  ]

  pub answered : AreSettled table → (at : ℕ) → from ≤ at → (any : Bool) (now next : List Connection) (new last : S)
      (request : List ℕ) (closes : Bool) (reply line : List ℕ) → SoFar at any now new
      → ChangesAt at (Answered request closes reply line) now next
      → StepsAt answers lines commits commit_fails new (Answered request closes reply line) last → SoFar (at + 1) true next last
  answered settled at begun any now next new last request closes reply line so change done =
      let e : Entry = At at (Answered request closes reply line) in
      let count : (k : ℕ) → answers_at k (so.entries ++ e ∷ []) ≡ answers_at k so.entries + ((if at == k then 1 else 0) + 0) =
      λ k. answers_join k so.entries (e ∷ []) in
      let other : (k : ℕ) → at ≢ k → answers_at k (so.entries ++ e ∷ []) ≡ answers_at k so.entries =
      λ k differ. count k ∙ ap (λ (b : Bool). answers_at k so.entries + ((if b then 1 else 0) + 0)) (eqb_differs differ) ∙ omega arith in
      let later : (k : ℕ) (c : Connection) → at ≤ k → slice_get now k ≡ Some c → IsSettledAt c.stage =
      λ k c less found. settled k c (sym (so.same k less) ∙ found) in
      let is_made : change.after.stage ≡ Stages.Made = ap (λ (c : Connection). c.stage) change.changed.3 in
      let has_line : change.after.line ≡ line = ap (λ (c : Connection). c.line) change.changed.3 in
      let needs_none : change.after.needed ≡ 0 = ap (λ (c : Connection). c.needed) change.changed.3 in
      let grown : waiting 0 next ≡ waiting 0 now ++ record { at = at; text = line } ∷ [] =
      ap (λ (t : List Connection). waiting 0 t) change.is
      ∙ waiting_more 0 now at at change.before change.after (omega arith) change.found (later at change.before (omega arith) change.found)
      (λ k c less found. later k c (omega arith) found) is_made
      ∙ ap (λ (t : List ℕ). waiting 0 now ++ record { at = at; text = t } ∷ []) has_line in
      record {
        entries = so.entries ++ e ∷ [];
        changes = changes_join so.entries (e ∷ []) table now next so.changes (next, change, refl);
        chain = chain_join steps so.entries (e ∷ []) old new last so.chain (last, done, refl);
        all = all_join IsATurn so.entries (e ∷ []) so.all (tt, tt);
        before = λ k c begun less found. elim (eq_or_not at k) [
          | inl here ↦ inl (count k ∙ ap (λ (b : Bool). answers_at k so.entries + ((if b then 1 else 0) + 0)) (eqb_same here)
              ∙ ap (λ (n : ℕ). n + 1) (so.none k (inr (omega arith))))
          | inr differ ↦ elim (so.before k c begun (omega arith) found) [
            | inl once ↦ inl (other k differ ∙ once)
            | inr never ↦ inr (other k differ ∙ never.0, never.1)
          ]
        ];
        none = λ k h. other k (apart k at begun h) ∙ so.none k (still k at h);
        same = λ k h. there_after at k (Answered request closes reply line) now next change (λ e. omega arith) ∙ so.same k (omega arith);
        first = inl (omega arith);
        made = λ k c found. elim (eq_or_not at k) [
          | inl here ↦
              let is = here_after at k (Answered request closes reply line) now next c change here found in
              subst (λ (s : Stage). IsMadeOrSettled s) (sym (ap (λ (t : Connection). t.stage) (sym is) ∙ is_made)) tt
          | inr differ ↦ so.made k c (sym (there_after at k (Answered request closes reply line) now next change differ) ∙ found)
        ];
        needs = λ k c found. elim (eq_or_not at k) [
          | inl here ↦
              subst (λ (t : Connection). StaysUnfinished is_unfinished t.input t.needed)
              (here_after at k (Answered request closes reply line) now next c change here found)
              (λ more less. absurd (omega (arith, needs_none, less)))
          | inr differ ↦ so.needs k c (sym (there_after at k (Answered request closes reply line) now next change differ) ∙ found)
        ];
        logged = logged_join so.entries (e ∷ []) [] (waiting 0 now) (waiting 0 next) so.logged (waiting 0 next, grown, refl);
        sent = omega (
          arith,
          so.sent,
          answered_unsent at request closes reply line now next change,
          replied_join so.entries (e ∷ []),
        );
        idle = λ h. absurd (true_not_false h);
        busy = λ h lacks. (all_split IsALack so.entries (e ∷ []) lacks).1.0;
      }

  pub quiet : (at : ℕ) (any : Bool) (now : List Connection) (new : S) → SoFar at any now new → IsFalse any → from ≡ 0
      → length now ≤ at → IsQuiet is_unfinished now × AreLacking now
  quiet at any now new so idle zero whole =
      let each : (k : ℕ) (c : Connection) → slice_get now k ≡ Some c → MayAnswer c → is_unfinished c.input × (length c.input < c.needed) =
      λ k c found may. let less = slice_get_within now k c found in (so.idle idle).2 k c (omega (arith, zero)) (omega arith) found may in
      (λ k c found may. (each k c found may).0, λ k c found may. (each k c found may).1)

  -- the entries are a round if it ends here
  pub rounded : (at end : ℕ) (any : Bool) (now : List Connection) (new : S) → (so : SoFar at any now new) → end ≤ at
      → ((k : ℕ) → end ≤ k → (k < from) ⊎ (at ≤ k)) → (end ≡ length table) ⊎ ((end ≡ at) × (end < length table) × (MAX_UNSENT < unsent now))
      → IsRound is_unfinished from end table so.entries
  rounded at end any now new so within beyond stop = record {
    turns = λ k c begun less found. so.before k c begun (omega arith) found;
    others = λ k h. so.none k (elim h as (λ _. (k < from) ⊎ (at ≤ k)) [ inl less ↦ inl less | inr more ↦ beyond k more ]);
    stop = elim stop as (λ _. (end ≡ length table) ⊎ ((end < length table) × (MAX_UNSENT < unsent table + replied so.entries))) [
      | inl whole ↦ inl whole
      | inr full ↦ inr (full.1, omega (arith, so.sent, full.2))
    ];
    first = λ inside few. elim stop [
      | inl whole ↦ omega arith
      | inr full ↦ elim so.first [
        | inl less ↦ omega (arith, full.0, less)
        | inr same ↦ absurd (omega (arith, full.2, few, ap (λ (t : List Connection). unsent t) same))
      ]
    ];
  }
