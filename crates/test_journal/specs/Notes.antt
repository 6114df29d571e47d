-- Defines the records of a replica of notes: a `#`, its checksum, and bytes, each of which is a note.
-- Rules of this product: none; the replica is one of the tests.
use Rattle.std.specs.Prelude.{◌≡◌, ℕ, ◌==◌, Bool, false, true, List, [], ◌∷◌, map, Some}
use Rattle.std.proofs.Common.{sym, ◌∙◌, ap}
use Rattle.stamped_store.specs.Store.{Store, Update, store_of, policy_name}
use Rattle.test_journal.specs.declared.notes.Notes.{Notes}

-- `note b` is the update that puts the note `b`: the policy named by the byte, with the byte as its body.
abbrev pub note : ℕ → Update
note b = (policy_name (b ∷ []), record { count = 1; site = []; body = Some (b ∷ []) })

-- `IsNotes line us` holds if `line` is a record of the updates `us`.
abbrev pub IsNotes : List ℕ → List Update → Type 0
IsNotes line us = (notes : List ℕ) × (line ≡ 35 ∷ notes) × (us ≡ map note notes)

-- `is_marked line` tests whether `line` begins with `#`.
abbrev pub is_marked : List ℕ → Bool
is_marked [] = false
is_marked (b ∷ notes) = b == 35

pub marked : (line : List ℕ) (us : List Update) → IsNotes line us → is_marked line ≡ true
marked line us h = ap is_marked h.1

same_tail : (xs ys : List ℕ) → 35 ∷ xs ≡ 35 ∷ ys → xs ≡ ys
same_tail xs ys e = cc

pub one_list : (line : List ℕ) (us vs : List Update) → IsNotes line us → IsNotes line vs → us ≡ vs
one_list line us vs h k = h.2 ∙ ap (map note) (same_tail h.0 k.0 (sym h.1 ∙ k.1)) ∙ sym k.2

-- `noted n` is the store of the notes that were applied.
abbrev pub noted : Notes → Store
noted n = store_of (map note n.notes.items)
