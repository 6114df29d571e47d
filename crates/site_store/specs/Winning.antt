-- Defines when a stored entry stays if another is joined onto it.
-- Source: order theory's join (least upper bound): the join of two entries is the stored one if and only if the other
-- is at most the stored one.
-- Rules of this product: if an entry is joined onto a stored one, the greater of the two wins; if they are equal, the
-- stored one.
use Rattle.std.specs.Prelude.{◌≡◌, Option, Some}
use Rattle.stamped_store.specs.declared.entry.Entry.{Entry}
use Rattle.stamped_store.specs.EntryOrder.{greater}

-- `StoredWins held entry` holds if there is a stored entry `held`, which stays when `entry` is joined onto it.
abbrev pub StoredWins : {P : Type 0} → Option (Entry P) → Entry P → Type 0
StoredWins {P} held entry = (e : Entry P) × (held ≡ Some e) × (greater e entry ≡ e)
