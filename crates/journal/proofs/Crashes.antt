-- What a crash leaves of a file that is at rest, and while an entry is recorded.
use Rattle.std.proofs.Common.{◌≡◌, ◌≢◌, ◌≤◌, inl, inr, ℕ, Bool, List, [], ◌∷◌, ◌++◌, length, refl, sym, ◌∙◌, ap, subst, arith, append_assoc, length-append}
use Rattle.std.proofs.lemmas.List.{append-nil}
use Rattle.stamped_store.specs.Store.{Update}
use Rattle.journal.specs.Moments.{Moment, IsLeftBy, appended, synced}
use Rattle.journal.specs.Lines.{whole_lines, written, IsLine}
use Rattle.journal.specs.Records.{AreStated, Holds, IsAtRest, IsEntryOf}
use Rattle.journal.specs.Survivors.{IsEither}
use Rattle.journal.proofs.Cuts.{Split, split_cut, nothing_more}
use Rattle.journal.proofs.Recorded.{IsOnDisk}
use Rattle.journal.proofs.WholeLines.{whole_written, written-push, AreLines-push, part_or_all}

module _ (states : List ℕ → List Update → Type 0) (checked : List ℕ → Bool) where
  pub AreStated-push : (records : List (List ℕ)) (us : List Update) (r : List ℕ) (vs : List Update) → AreStated states records us → states r vs
      → AreStated states (records ++ r ∷ []) (us ++ vs)
  AreStated-push [] us r vs h s = (vs, [], s, refl, ap (λ (l : List Update). l ++ vs) h ∙ sym (append-nil vs))
  AreStated-push (q ∷ records) us r vs h s =
      (h.0, h.1 ++ vs, h.2, AreStated-push records h.1 r vs h.3 s, ap (λ (l : List Update). l ++ vs) h.4 ∙ append_assoc h.0 h.1 vs)

  -- the file of `m` is that of `old`, which is at rest, and then `front`: a crash leaves that of `old`, and a first part of `front`
  left_behind : (old m : Moment) (us : List Update) (front file : List ℕ) → (rest : IsAtRest states old us) → m.file ≡ old.file ++ front
      → length old.file ≤ m.durable → (left : IsLeftBy checked m file) → Split (written rest.records) left.cut front left.lost
  left_behind old m us front file rest is durable left =
      let same : written rest.records ++ front ≡ left.cut ++ left.lost = ap (λ (l : List ℕ). l ++ front) (sym rest.whole) ∙ sym is ∙ left.part in
      let sizes : length old.file ≡ length (written rest.records) = ap length rest.whole in
      let long : length (written rest.records) ≤ length left.cut = omega (arith, sizes, durable, left.kept) in
      split_cut (written rest.records) front left.cut left.lost same long

  -- where nothing follows, all is left
  pub all_left : (old m : Moment) (us : List Update) (file : List ℕ) → IsAtRest states old us → m.file ≡ old.file → length old.file ≤ m.durable
      → IsLeftBy checked m file → Holds states checked file us
  all_left old m us file rest is durable left =
      let s = left_behind old m us [] file rest (is ∙ sym (append-nil old.file)) durable left in
      let none : s.more ≡ [] = nothing_more s.more left.lost s.rest in
      let lines : whole_lines left.cut ≡ rest.records =
      ap whole_lines (s.cut ∙ ap (λ (l : List ℕ). written rest.records ++ l) none) ∙ whole_written rest.records [] rest.lines ∙ append-nil rest.records in
      record {
        records = rest.records;
        others = left.others;
        lines = left.lines ∙ ap (λ (ls : List (List ℕ)). ls ++ left.others) lines;
        stated = rest.stated;
        unchecked = left.unchecked;
      }

  -- at rest, all is left
  pub same_at_rest : (m : Moment) (us : List Update) (file : List ℕ) → IsAtRest states m us → IsLeftBy checked m file → Holds states checked file us
  same_at_rest m us file rest left = all_left m m us file rest refl (let same = rest.durable in omega arith) left

  -- while an entry is recorded, a crash leaves all of it or nothing
  pub either_within : (old m : Moment) (first us : List Update) (entry front back : List ℕ) → IsAtRest states old first → IsEntryOf states us entry
      → entry ≡ front ++ back → m.file ≡ old.file ++ front → length old.file ≤ m.durable → IsEither states checked first (first ++ us) m
  either_within old m first us entry front back rest (inl none) part file_is durable file left =
      let front_is : front ≡ [] = nothing_more front back (sym none.1 ∙ part) in
      let is : m.file ≡ old.file = file_is ∙ ap (λ (l : List ℕ). old.file ++ l) front_is ∙ append-nil old.file in
      inl (all_left old m first file rest is durable left)
  either_within old m first us entry front back rest (inr some) part file_is durable file left =
      let s = left_behind old m first front file rest file_is durable left in
      let line = some.0 in
      let parts : line ++ 10 ∷ [] ≡ s.more ++ (left.lost ++ back) =
      sym some.3 ∙ part ∙ ap (λ (l : List ℕ). l ++ back) s.rest ∙ append_assoc s.more left.lost back in
      let lines : whole_lines left.cut ≡ rest.records ++ whole_lines s.more = ap whole_lines s.cut ∙ whole_written rest.records s.more rest.lines in
      elim (part_or_all [] line s.more (left.lost ++ back) some.1 parts) [
        | inl none ↦
            let is : whole_lines left.cut ≡ rest.records = lines ∙ ap (λ (ls : List (List ℕ)). rest.records ++ ls) none ∙ append-nil rest.records in
            inl (record {
              records = rest.records;
              others = left.others;
              lines = left.lines ∙ ap (λ (ls : List (List ℕ)). ls ++ left.others) is;
              stated = rest.stated;
              unchecked = left.unchecked;
            })
        | inr all ↦
            let is : whole_lines left.cut ≡ rest.records ++ line ∷ [] = lines ∙ ap (λ (ls : List (List ℕ)). rest.records ++ ls) all in
            inr (record {
              records = rest.records ++ line ∷ [];
              others = left.others;
              lines = left.lines ∙ ap (λ (ls : List (List ℕ)). ls ++ left.others) is;
              stated = AreStated-push rest.records first line us rest.stated some.2;
              unchecked = left.unchecked;
            })
      ]

  -- the entry is on the disk
  rest_recorded : (old : Moment) (first us : List Update) (line : List ℕ) → IsAtRest states old first → IsLine line → states line us
      → IsAtRest states (synced (appended (line ++ 10 ∷ []) old)) (first ++ us)
  rest_recorded old first us line rest is says = record {
    records = rest.records ++ line ∷ [];
    lines = AreLines-push rest.records line rest.lines is;
    whole = ap (λ (l : List ℕ). l ++ (line ++ 10 ∷ [])) rest.whole ∙ sym (written-push rest.records line);
    durable = refl;
    stated = AreStated-push rest.records first line us rest.stated says;
  }

  rest_none : (m : Moment) (first us : List Update) → us ≡ [] → IsAtRest states m first → IsAtRest states m (first ++ us)
  rest_none m first us none rest =
      subst (λ (vs : List Update). IsAtRest states m vs) (sym (append-nil first) ∙ ap (λ (l : List Update). first ++ l) (sym none)) rest

  not_empty : (line : List ℕ) → line ++ 10 ∷ [] ≢ []
  not_empty line none = let sizes : length (line ++ 10 ∷ []) ≡ 0 = ap length none in omega (arith, length-append line (10 ∷ []), sizes)

  pub rest_on_disk : (old new : Moment) (first us : List Update) (entry : List ℕ) → IsAtRest states old first → IsEntryOf states us entry → IsOnDisk entry old new
      → IsAtRest states new (first ++ us) × (new.replies ≡ old.replies)
  rest_on_disk old new first us entry rest (inl none) (inl same) =
      (subst (λ (m : Moment). IsAtRest states m (first ++ us)) (sym same.1) (rest_none old first us none.0 rest), ap (λ m. m.replies) same.1)
  rest_on_disk old new first us entry rest (inl none) (inr other) = absurd (other.0 none.1)
  rest_on_disk old new first us entry rest (inr some) (inl same) = absurd (not_empty some.0 (sym some.3 ∙ same.0))
  rest_on_disk old new first us entry rest (inr some) (inr other) =
      let is : new ≡ synced (appended (some.0 ++ 10 ∷ []) old) = other.1 ∙ ap (λ (e : List ℕ). synced (appended e old)) some.3 in
      (subst (λ (m : Moment). IsAtRest states m (first ++ us)) (sym is) (rest_recorded old first us some.0 rest some.1 some.2), ap (λ m. m.replies) is)
