-- The updates of the whole lines so far, and the faults of a line.
use Rattle.std.proofs.Common.{◌≡◌, ℕ, Bool, true, false, ◌-◌, List, [], ◌∷◌, ◌++◌, length, take, refl, sym, ◌∙◌, ap, subst, arith, append_assoc, length-append, Result, Ok, Err, IfOk, IfErr, OnOk}
use Rattle.std.proofs.lemmas.List.{append-nil, take_at}
use Rattle.std.specs.List.{AllByRecursion}
use Rattle.values.specs.Names.{name_cmp-IsTotalOrder, name_cmp-IsAntisymmetric}
use Rattle.stamped_store.specs.Store.{Store, Update, store_of, updates}
use Rattle.stamped_store.proofs.Greatests.{entry_order}
use Rattle.stamped_store.proofs.GreatestsBy.{store_of-append, store_of-entries}
use Rattle.journal.specs.declared.fault.RecoveryFault.{RecoveryFault}
use Rattle.journal.specs.declared.fault.RecoveryFault.TheVariants.{NoMemory, NoRecord, Damaged, Failed}
use Rattle.journal.specs.Lines.{whole_lines, written, IsLine, AreLines}
use Rattle.journal.specs.Moments.{IsUnchecked}
use Rattle.journal.specs.Records.{AreStated}
use Rattle.journal.specs.Recovery.{HasChecked, IsFaultAt, IsRecovered, IsRecoveryFault}
use Rattle.journal.specs.inner.LineFaults.{IsLineFault}
use Rattle.journal.proofs.Crashes.{AreStated-push}
use Rattle.journal.proofs.Lists.{all_append}
use Rattle.journal.proofs.WholeLines.{through, unended, whole_written, written-push, AreLines-push}

joined_twice : (s : Store) (us vs : List Update) → store_of (updates (store_of (updates s ++ us)) ++ vs) ≡ store_of (updates s ++ (us ++ vs))
joined_twice s us vs =
    store_of-append entry_order name_cmp-IsTotalOrder name_cmp-IsAntisymmetric (updates s ++ us) vs ∙ ap store_of (append_assoc (updates s) us vs)

joined_none : (s : Store) → s ≡ store_of (updates s ++ [])
joined_none s =
    sym (ap store_of (append-nil (updates s)) ∙ store_of-entries entry_order name_cmp-IsTotalOrder name_cmp-IsAntisymmetric s)

lines_at : (rest line after : List ℕ) → IsLine line → rest ≡ line ++ 10 ∷ after → whole_lines rest ≡ line ∷ whole_lines after
lines_at rest line after is rest_is = ap whole_lines rest_is ∙ through [] line after is

module _ (states : List ℕ → List Update → Type 0) (checked : List ℕ → Bool) where
  -- the updates of the lines before `rest` led from `s` to `m`
  pub record IsSoFar (s m : Store) (file rest : List ℕ) : Type 0 where
    pub lines : List (List ℕ)
    pub found : List Update
    pub clean : AreLines lines
    pub split : file ≡ written lines ++ rest
    pub stated : AreStated states lines found
    pub store : m ≡ store_of (updates s ++ found)

  pub none_so_far : (s : Store) (file : List ℕ) → IsSoFar s s file file
  none_so_far s file = record { lines = []; found = []; clean = tt; split = refl; stated = refl; store = joined_none s }

  pub one_so_far : (s m t : Store) (file rest line after : List ℕ) (us : List Update) → IsSoFar s m file rest → IsLine line → rest ≡ line ++ 10 ∷ after
      → states line us → t ≡ store_of (updates m ++ us) → IsSoFar s t file after
  one_so_far s m t file rest line after us so_far is rest_is says store_is = record {
    lines = so_far.lines ++ line ∷ [];
    found = so_far.found ++ us;
    clean = AreLines-push so_far.lines line so_far.clean is;
    split = so_far.split ∙ ap (λ (l : List ℕ). written so_far.lines ++ l) (rest_is ∙ sym (append_assoc line (10 ∷ []) after))
        ∙ sym (append_assoc (written so_far.lines) (line ++ 10 ∷ []) after) ∙ ap (λ (l : List ℕ). l ++ after) (sym (written-push so_far.lines line));
    stated = AreStated-push states checked so_far.lines so_far.found line us so_far.stated says;
    store = store_is ∙ ap (λ (x : Store). store_of (updates x ++ us)) so_far.store ∙ joined_twice s so_far.found us;
  }

  whole_so_far : (s m : Store) (file rest : List ℕ) → (so_far : IsSoFar s m file rest) → whole_lines file ≡ so_far.lines ++ whole_lines rest
  whole_so_far s m file rest so_far = ap whole_lines so_far.split ∙ whole_written so_far.lines rest so_far.clean

  place_of : (s m : Store) (file rest : List ℕ) → (so_far : IsSoFar s m file rest) → length file - length rest ≡ length (written so_far.lines)
  place_of s m file rest so_far =
      let sizes : length file ≡ length (written so_far.lines ++ rest) = ap length so_far.split in omega (arith, sizes, length-append (written so_far.lines) rest)

  found_until : (s m : Store) (file rest : List ℕ) → IsSoFar s m file rest → AllByRecursion (IsUnchecked checked) (whole_lines rest)
      → IsRecovered states checked s m file (length file - length rest)
  found_until s m file rest so_far none = record {
    found = so_far.found;
    holds = record { records = so_far.lines; others = whole_lines rest; lines = whole_so_far s m file rest so_far; stated = so_far.stated; unchecked = none };
    clean = so_far.clean;
    store = so_far.store;
    within = omega arith;
    whole = ap (λ (l : List ℕ). take (length file - length rest) l) so_far.split
        ∙ take_at (written so_far.lines) rest (length file - length rest) (sym (place_of s m file rest so_far));
  }

  pub all_found : (s m : Store) (file rest : List ℕ) → IsSoFar s m file rest → IsLine rest → IsRecovered states checked s m file (length file - length rest)
  all_found s m file rest so_far is =
      found_until s m file rest so_far (subst (λ (ls : List (List ℕ)). AllByRecursion (IsUnchecked checked) ls) (sym (unended [] rest is)) tt)

  torn_found : (s m : Store) (file rest line after : List ℕ) (end at : ℕ) → IsSoFar s m file rest → IsLine line → rest ≡ line ++ 10 ∷ after
      → checked line ≡ false → AllByRecursion (IsUnchecked checked) (whole_lines after) → at ≡ length file - length rest → end ≡ at
      → IsRecovered states checked s m file end
  torn_found s m file rest line after end at so_far is rest_is bad none at_is end_is =
      let all : AllByRecursion (IsUnchecked checked) (whole_lines rest) =
      subst (λ (ls : List (List ℕ)). AllByRecursion (IsUnchecked checked) ls) (sym (lines_at rest line after is rest_is)) (bad, none) in
      subst (λ (e : ℕ). IsRecovered states checked s m file e) (sym (end_is ∙ at_is)) (found_until s m file rest so_far all)

  pub torn_by : (result : Result ℕ RecoveryFault) (s m : Store) (file rest line after : List ℕ) (at : ℕ) → IsSoFar s m file rest → IsLine line → rest ≡ line ++ 10 ∷ after
      → checked line ≡ false → OnOk result (AllByRecursion (IsUnchecked checked) (whole_lines after)) → IfOk result (λ end. end ≡ at) → at ≡ length file - length rest
      → IfOk result (λ end. IsRecovered states checked s m file end)
  torn_by (Ok end) s m file rest line after at so_far is rest_is bad none end_is at_is = torn_found s m file rest line after end at so_far is rest_is bad none at_is end_is
  torn_by (Err fault) s m file rest line after at so_far is rest_is bad none end_is at_is = tt

  -- ---- faults
  fault_at : (s m : Store) (file rest line after : List ℕ) (at : ℕ) → IsSoFar s m file rest → IsLine line → rest ≡ line ++ 10 ∷ after → at ≡ length file - length rest
      → IsFaultAt states checked file at line after
  fault_at s m file rest line after at so_far is rest_is at_is = record {
    records = so_far.lines;
    found = so_far.found;
    clean = so_far.clean;
    stated = so_far.stated;
    place = at_is ∙ place_of s m file rest so_far;
    is_line = is;
    split = so_far.split ∙ ap (λ (l : List ℕ). written so_far.lines ++ l) rest_is;
  }

  pub line_fault : (fault : RecoveryFault) (s m : Store) (file rest line after : List ℕ) (at : ℕ) → IsSoFar s m file rest → IsLine line → rest ≡ line ++ 10 ∷ after
      → checked line ≡ true → IsLineFault states line at (Err fault) → at ≡ length file - length rest → IsRecoveryFault states checked {T = ℕ} file (Err fault)
  line_fault NoMemory s m file rest line after at so_far is rest_is right none at_is = tt
  line_fault (NoRecord place) s m file rest line after at so_far is rest_is right none at_is =
      (line, after, fault_at s m file rest line after place so_far is rest_is (none.0 ∙ at_is), right, none.1)
  line_fault (Damaged place) s m file rest line after at so_far is rest_is right none at_is = absurd none
  line_fault Failed s m file rest line after at so_far is rest_is right none at_is = absurd none

  pub torn_fault : (result : Result ℕ RecoveryFault) (s m : Store) (file rest line after : List ℕ) (at : ℕ) → IsSoFar s m file rest → IsLine line → rest ≡ line ++ 10 ∷ after
      → checked line ≡ false → IfErr result (λ fault. (fault ≡ Damaged at) × HasChecked checked (whole_lines after)) → at ≡ length file - length rest
      → IsRecoveryFault states checked file result
  torn_fault (Ok end) s m file rest line after at so_far is rest_is wrong has at_is = tt
  torn_fault (Err fault) s m file rest line after at so_far is rest_is wrong has at_is =
      subst (λ (f : RecoveryFault). IsRecoveryFault states checked {T = ℕ} file (Err f)) (sym has.0)
      (line, after, fault_at s m file rest line after at so_far is rest_is at_is, wrong, has.1)

module _ (checked : List ℕ → Bool) where
  -- the lines before `rest` have no right checksum
  pub record IsTornSoFar (after rest : List ℕ) : Type 0 where
    pub lines : List (List ℕ)
    pub all : whole_lines after ≡ lines ++ whole_lines rest
    pub unchecked : AllByRecursion (IsUnchecked checked) lines

  pub none_torn : (after : List ℕ) → IsTornSoFar after after
  none_torn after = record { lines = []; all = refl; unchecked = tt }

  pub one_torn : (after rest line behind : List ℕ) → IsTornSoFar after rest → IsLine line → rest ≡ line ++ 10 ∷ behind → checked line ≡ false
      → IsTornSoFar after behind
  one_torn after rest line behind so_far is rest_is wrong = record {
    lines = so_far.lines ++ line ∷ [];
    all = so_far.all ∙ ap (λ (ls : List (List ℕ)). so_far.lines ++ ls) (lines_at rest line behind is rest_is) ∙ sym (append_assoc so_far.lines (line ∷ []) (whole_lines behind));
    unchecked = all_append (IsUnchecked checked) so_far.lines (line ∷ []) so_far.unchecked (wrong, tt);
  }

  pub all_torn : (after rest : List ℕ) → IsTornSoFar after rest → IsLine rest → AllByRecursion (IsUnchecked checked) (whole_lines after)
  all_torn after rest so_far is =
      let lines : whole_lines after ≡ so_far.lines = so_far.all ∙ ap (λ (ls : List (List ℕ)). so_far.lines ++ ls) (unended [] rest is) ∙ append-nil so_far.lines in
      subst (λ (ls : List (List ℕ)). AllByRecursion (IsUnchecked checked) ls) (sym lines) so_far.unchecked

  pub one_right : (after rest line behind : List ℕ) → IsTornSoFar after rest → IsLine line → rest ≡ line ++ 10 ∷ behind → checked line ≡ true
      → HasChecked checked (whole_lines after)
  one_right after rest line behind so_far is rest_is right =
      (so_far.lines, whole_lines behind, line, so_far.all ∙ ap (λ (ls : List (List ℕ)). so_far.lines ++ ls) (lines_at rest line behind is rest_is), right)
