-- Defines the moments of a machine, and the files that a crash at a moment may leave.
-- Source: POSIX.1-2017, `write` with O_APPEND (it may write a first part), `fdatasync` (once it succeeds, the bytes are
-- on the disk), `ftruncate`, `rename` (the name refers to the old or the new file throughout).
-- Rules of this product: a crash leaves the bytes that were synced; what was appended since may be lost, cut off or
-- damaged, which the checksum of a line shows.
use Rattle.std.specs.Prelude.{◌≡◌, ◌≤◌, ◌⊎◌, ℕ, Bool, true, false, List, [], ◌∷◌, ◌++◌, length, min, take}
use Rattle.std.specs.List.{AllByRecursion}
use Rattle.journal.specs.Events.{Event}
use Rattle.journal.specs.Events as event
use Rattle.journal.specs.Lines.{whole_lines}

-- A `Moment` is the bytes of the file, how many of them are known to be on the disk, and the replies that may have
-- reached the client, in order.
pub record Moment : Type 0 where
  pub file : List ℕ
  pub durable : ℕ
  pub replies : List (List ℕ)

-- `appended bytes m` is `m` after `bytes` were appended.
abbrev pub appended : List ℕ → Moment → Moment
appended bytes m = record { file = m.file ++ bytes; durable = m.durable; replies = m.replies }

-- `synced m` is `m` after a sync.
abbrev pub synced : Moment → Moment
synced m = record { file = m.file; durable = length m.file; replies = m.replies }

-- `replied text m` is `m` after the reply `text` was sent.
abbrev pub replied : List ℕ → Moment → Moment
replied text m = record { file = m.file; durable = m.durable; replies = m.replies ++ text ∷ [] }

-- `loosened len m` is `m` while the file is cut after its first `len` bytes: of these alone, those on the disk are
-- known to stay.
abbrev pub loosened : ℕ → Moment → Moment
loosened len m = record { file = m.file; durable = min len m.durable; replies = m.replies }

-- `cut_after len m` is `m` after the file was cut after its first `len` bytes, and that is on the disk.
abbrev pub cut_after : ℕ → Moment → Moment
cut_after len m = record { file = take len m.file; durable = length (take len m.file); replies = m.replies }

-- `replaced bytes m` is `m` after the file was replaced by one of `bytes`, all on the disk.
abbrev pub replaced : List ℕ → Moment → Moment
replaced bytes m = record { file = bytes; durable = length bytes; replies = m.replies }

-- `Follows m e since n` holds if the event `e` may lead from the moment `m` to `n`, with the moments `since`, the last
-- of which is `n`. A failed append has appended some first part of its bytes; a failed sync has synced nothing; a
-- failed cut leaves open how much is left; a failed replacement has replaced the file or not; a failed reply may have
-- been sent.
abbrev pub Follows : Moment → Event → List Moment → Moment → Type 0
Follows m (event.append bytes true) since n = (since ≡ n ∷ []) × (n ≡ appended bytes m)
Follows m (event.append bytes false) since n =
    (since ≡ n ∷ []) × ((front back : List ℕ) × (bytes ≡ front ++ back) × (n ≡ appended front m))
Follows m (event.sync true) since n = (since ≡ n ∷ []) × (n ≡ synced m)
Follows m (event.sync false) since n = (since ≡ n ∷ []) × (n ≡ m)
Follows m (event.cut len true) since n = (since ≡ loosened len m ∷ n ∷ []) × (n ≡ cut_after len m)
Follows m (event.cut len false) since n = (since ≡ n ∷ []) × (n ≡ loosened len m)
Follows m (event.replace bytes true) since n = (since ≡ n ∷ []) × (n ≡ replaced bytes m)
Follows m (event.replace bytes false) since n = (since ≡ n ∷ []) × ((n ≡ m) ⊎ (n ≡ replaced bytes m))
Follows m (event.reply text true) since n = (since ≡ n ∷ []) × (n ≡ replied text m)
Follows m (event.reply text false) since n = (since ≡ n ∷ []) × ((n ≡ m) ⊎ (n ≡ replied text m))

-- `Passes m events since n` holds if the events may lead from the moment `m` to `n`, with the moments `since`.
abbrev pub Passes : Moment → List Event → List Moment → Moment → Type 0
Passes m [] since n = (since ≡ []) × (n ≡ m)
Passes m (e ∷ events) since n = (mid : Moment) × (here later : List Moment) × Follows m e here mid
    × Passes mid events later n × (since ≡ here ++ later)

-- `checked` tests whether a line has a right checksum.
module _ (checked : List ℕ → Bool) where
  -- `IsUnchecked line` holds if `line` has no right checksum.
  abbrev pub IsUnchecked : List ℕ → Type 0
  IsUnchecked line = checked line ≡ false

  -- `IsLeftBy m bytes` holds if a crash at the moment `m` may leave the file `bytes`: a cut of the file at or after the
  -- last synced length, and then any bytes with which no further line has a right checksum. So a write may reach the
  -- disk in part, in any order of its sectors, or with other bytes in their place; that other bytes have a right
  -- checksum is left out.
  pub record IsLeftBy (m : Moment) (bytes : List ℕ) : Type 0 where
    pub cut : List ℕ
    pub lost : List ℕ
    pub others : List (List ℕ)
    pub part : m.file ≡ cut ++ lost
    pub kept : m.durable ≤ length cut
    pub lines : whole_lines bytes ≡ whole_lines cut ++ others
    pub unchecked : AllByRecursion IsUnchecked others
