-- Defines entries as a stamp and a body, and their order.
-- Rules of this product: entries are ordered by count, then site, then body; sites are ordered by the bytes of their
-- names; a tombstone is the least body; texts are ordered by their bytes. `EntryAt` has the type of sites as its
-- parameter, since in version 1 of messages a site is a number, not a name (specs/Raised.antt).
use Rattle.std.specs.Prelude.{ℕ, List, Bool, Option, Some, None, if◌then◌else◌}
use Rattle.std.specs.Ordering.{nat_cmp, ordering_then, is_le}
use Rattle.std.specs.Cmp.Lexicographic.{slice_cmp}
use Rattle.std.specs.declared.cmp.Ordering.{Ordering}
use Rattle.std.specs.declared.cmp.Ordering.TheVariants.{Less, Equal, Greater}
use Rattle.stamped_store.specs.declared.entry.Entry.{Entry}
use Rattle.stamped_store.specs.declared.entry.ReadText.{ReadText}

-- An `EntryAt Site` is an entry without the parsed form of its text: a stamp, whose site has the type `Site`, and a
-- body, which is a tombstone or the bytes of a text.
pub record EntryAt (Site : Type 0) : Type 0 where
  pub count : ℕ
  pub site : Site
  pub body : Option (List ℕ)

-- A `PlainEntry` is an entry of a named site.
abbrev pub PlainEntry : Type 0
PlainEntry = EntryAt (List ℕ)

-- `body_bytes body` are the bytes of the text `body` without its parsed form, or `None` for a tombstone.
abbrev pub body_bytes : {P : Type 0} → Option (ReadText P) → Option (List ℕ)
body_bytes None = None
body_bytes (Some t) = Some t.text

-- `plain_entry e` is the entry `e` without the parsed form of its text.
abbrev pub plain_entry : {P : Type 0} → Entry P → PlainEntry
plain_entry e = record { count = e.stamp.count; site = e.stamp.site; body = body_bytes e.body }

-- `body_cmp a b` compares the bodies `a` and `b`: a tombstone is the least, and texts are ordered by their bytes.
abbrev pub body_cmp : Option (List ℕ) → Option (List ℕ) → Ordering
body_cmp None None = Equal
body_cmp None (Some b) = Less
body_cmp (Some a) None = Greater
body_cmp (Some a) (Some b) = slice_cmp nat_cmp a b

-- `entry_cmp_by sites a b` compares the entries `a` and `b` by count, then by site in the order `sites`, then by body.
abbrev pub entry_cmp_by : {Site : Type 0} → (Site → Site → Ordering) → EntryAt Site → EntryAt Site → Ordering
entry_cmp_by sites a b =
    ordering_then (ordering_then (nat_cmp a.count b.count) (sites a.site b.site)) (body_cmp a.body b.body)

-- `site_cmp a b` compares the sites `a` and `b` by the bytes of their names.
abbrev pub site_cmp : List ℕ → List ℕ → Ordering
site_cmp a b = slice_cmp nat_cmp a b

-- `entry_cmp a b` compares the entries `a` and `b` by count, then site, then body.
abbrev pub entry_cmp : PlainEntry → PlainEntry → Ordering
entry_cmp a b = entry_cmp_by site_cmp a b

-- `greater_of cmp a b` is the greater of `a` and `b` in the order `cmp`; `a` if they are equal.
abbrev pub greater_of : {V : Type 0} → (V → V → Ordering) → V → V → V
greater_of cmp a b = if is_le (cmp b a) then a else b

-- `greater_entry a b` is the greater of the entries `a` and `b`.
abbrev pub greater_entry : PlainEntry → PlainEntry → PlainEntry
greater_entry a b = greater_of entry_cmp a b

-- `read_cmp a b` compares the entries `a` and `b`, which have parsed forms, by their stamps and bodies; the parsed
-- forms do not matter.
abbrev pub read_cmp : {P : Type 0} → Entry P → Entry P → Ordering
read_cmp a b = entry_cmp (plain_entry a) (plain_entry b)

-- `greater a b` is the greater of the entries `a` and `b`, which have parsed forms; `a` if their stamps and bodies are
-- equal.
abbrev pub greater : {P : Type 0} → Entry P → Entry P → Entry P
greater a b = greater_of read_cmp a b

-- `entry_at_most a b` tests whether the entry `a` is at most `b`; the parsed forms do not matter.
abbrev pub entry_at_most : {P : Type 0} → Entry P → Entry P → Bool
entry_at_most a b = is_le (read_cmp a b)
