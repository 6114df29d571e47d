-- A file with a fault does not hold updates: no crash left it.
use Rattle.std.proofs.Common.{◌≡◌, ◌⊎◌, inl, inr, ℕ, Bool, true, false, List, [], ◌∷◌, ◌++◌, sym, ◌∙◌, ap, subst}
use Rattle.std.specs.List.{AllByRecursion}
use Rattle.stamped_store.specs.Store.{Update}
use Rattle.journal.specs.Lines.{whole_lines}
use Rattle.journal.specs.Moments.{IsUnchecked}
use Rattle.journal.specs.Records.{AreStated, Holds}
use Rattle.journal.specs.Recovery.{HasChecked, IsFaultAt}
use Rattle.journal.proofs.Lists.{all_last}
use Rattle.journal.proofs.WholeLines.{through, whole_written}

module _ (states : List ℕ → List Update → Type 0) (checked : List ℕ → Bool) where
  lines_of : (file : List ℕ) (at : ℕ) (line after : List ℕ) (us : List Update) → (is : IsFaultAt states checked file at line after) → (holds : Holds states checked file us)
      → is.records ++ line ∷ whole_lines after ≡ holds.records ++ holds.others
  lines_of file at line after us is holds =
      sym (ap whole_lines is.split ∙ whole_written is.records (line ++ 10 ∷ after) is.clean
      ∙ ap (λ (ls : List (List ℕ)). is.records ++ ls) (through [] line after is.is_line)) ∙ holds.lines

  -- a line of a file is a record, or has no right checksum
  record_or_other : (before : List (List ℕ)) (line : List ℕ) (after good bad : List (List ℕ)) (us : List Update) → before ++ line ∷ after ≡ good ++ bad
      → AreStated states good us → AllByRecursion (IsUnchecked checked) bad → ((vs : List Update) × states line vs) ⊎ (checked line ≡ false)
  record_or_other before line after [] bad us e stated none =
      inr ((all_last (IsUnchecked checked) before (line ∷ after) (subst (λ (ls : List (List ℕ)). AllByRecursion (IsUnchecked checked) ls) (sym e) none)).0)
  record_or_other [] line after (g ∷ good) bad us e stated none =
      let is : g ≡ line = cc in inl (stated.0, subst (λ (l : List ℕ). states l stated.0) is stated.2)
  record_or_other (b ∷ before) line after (g ∷ good) bad us e stated none =
      let tails : before ++ line ∷ after ≡ good ++ bad = cc in record_or_other before line after good bad stated.1 tails stated.3 none

  pub unread_is_not_held : (file : List ℕ) (at : ℕ) (line after : List ℕ) (us : List Update) → IsFaultAt states checked file at line after → checked line ≡ true
      → ((vs : List Update) → states line vs → ⊥) → Holds states checked file us → ⊥
  unread_is_not_held file at line after us is right none holds =
      elim (record_or_other is.records line (whole_lines after) holds.records holds.others us (lines_of file at line after us is holds) holds.stated holds.unchecked) [
        | inl says ↦ none says.0 says.1
        | inr wrong ↦ absurd (cc (right, wrong))
      ]

  module _ (right : (line : List ℕ) (us : List Update) → states line us → checked line ≡ true) where
    -- behind a line with no right checksum no line has one
    other_behind : (before : List (List ℕ)) (line : List ℕ) (after good bad : List (List ℕ)) (us : List Update) → before ++ line ∷ after ≡ good ++ bad
        → checked line ≡ false → AreStated states good us → AllByRecursion (IsUnchecked checked) bad → AllByRecursion (IsUnchecked checked) after
    other_behind before line after [] bad us e wrong stated none =
        (all_last (IsUnchecked checked) before (line ∷ after) (subst (λ (ls : List (List ℕ)). AllByRecursion (IsUnchecked checked) ls) (sym e) none)).1
    other_behind [] line after (g ∷ good) bad us e wrong stated none =
        let is : g ≡ line = cc in
        let says : checked line ≡ true = ap checked (sym is) ∙ right g stated.0 stated.2 in
        absurd (cc (wrong, says))
    other_behind (b ∷ before) line after (g ∷ good) bad us e wrong stated none =
        let tails : before ++ line ∷ after ≡ good ++ bad = cc in other_behind before line after good bad stated.1 tails wrong stated.3 none

    pub damaged_is_not_held : (file : List ℕ) (at : ℕ) (line after : List ℕ) (us : List Update) → IsFaultAt states checked file at line after → checked line ≡ false
        → HasChecked checked (whole_lines after) → Holds states checked file us → ⊥
    damaged_is_not_held file at line after us is wrong has holds =
        let none = other_behind is.records line (whole_lines after) holds.records holds.others us (lines_of file at line after us is holds) wrong holds.stated holds.unchecked in
        let there = all_last (IsUnchecked checked) has.0 (has.2 ∷ has.1) (subst (λ (ls : List (List ℕ)). AllByRecursion (IsUnchecked checked) ls) has.3 none) in
        let no : checked has.2 ≡ false = there.0 in
        let yes : checked has.2 ≡ true = has.4 in
        absurd (cc (no, yes))
