-- Further notes.
use Rattle.std.proofs.Common.{◌≡◌, ◌≢◌, inr, ℕ, List, [], ◌∷◌, ◌++◌, map, refl, sym, ◌∙◌, ap, subst, arith, Result, Ok, Err, OnOk}
use Rattle.std.proofs.lemmas.List.{append-nil, map-append}
use Rattle.values.specs.Names.{name_cmp-IsTotalOrder, name_cmp-IsAntisymmetric}
use Rattle.stamped_store.specs.Store.{Store, Update, store_of, updates}
use Rattle.stamped_store.proofs.Greatests.{entry_order}
use Rattle.stamped_store.proofs.GreatestsBy.{store_of-append, store_of-entries}
use Rattle.journal.specs.Lines.{IsLine}
use Rattle.journal.specs.Records.{IsEntryOf}
use Rattle.test_journal.specs.Notes.{IsNotes, note}

pub more_noted : (old new more : List ℕ) → new ≡ old ++ more → store_of (map note new) ≡ store_of (updates (store_of (map note old)) ++ map note more)
more_noted old new more is =
    ap (λ (notes : List ℕ). store_of (map note notes)) is ∙ ap store_of (map-append note old more)
    ∙ sym (store_of-append entry_order name_cmp-IsTotalOrder name_cmp-IsAntisymmetric (map note old) (map note more))

pub more_pending : (old new more : List ℕ) → new ≡ old ++ more → map note new ≡ map note old ++ map note more
more_pending old new more is = ap (map note) is ∙ map-append note old more

pub none_noted : (s : Store) → s ≡ store_of (updates s ++ [])
none_noted s = sym (ap store_of (append-nil (updates s)) ∙ store_of-entries entry_order name_cmp-IsTotalOrder name_cmp-IsAntisymmetric s)

pub none_pending : (us : List Update) → us ≡ us ++ []
none_pending us = sym (append-nil us)

mark : (b : ℕ) → b ≡ 35 → b ≢ 10
mark b is = omega arith

pub entry_of : (notes bytes entry : List ℕ) → bytes ≡ notes → IsLine bytes → entry ≡ (35 ∷ bytes) ++ 10 ∷ [] → IsEntryOf IsNotes (map note notes) entry
entry_of notes bytes entry same line is =
    subst (λ (bs : List ℕ). IsEntryOf IsNotes (map note bs) entry) same (inr (35 ∷ bytes, (mark 35 refl, line), (bytes, refl, refl), is))

pub header_of : {E : Type 0} (result : Result (Unit {0}) E) (entry : List ℕ) → OnOk result (entry ≡ (35 ∷ []) ++ 10 ∷ [])
    → OnOk result ((line : List ℕ) × IsLine line × IsNotes line [] × (entry ≡ line ++ 10 ∷ []))
header_of (Ok done) entry is = (35 ∷ [], (mark 35 refl, tt), ([], refl, refl), is)
header_of (Err failed) entry is = tt
