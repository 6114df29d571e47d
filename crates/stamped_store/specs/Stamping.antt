-- Defines which sites stamped the updates of a store.
-- Rules of this product: a site's name belongs to that site alone and is not reused. So if the store with which a site
-- starts has stamps of the site's name, the name was used before.
use Rattle.std.specs.Prelude.{ℕ, Bool, List}
use Rattle.std.specs.List.{list_any}
use Rattle.std.specs.Str.{bytes_eq}
use Rattle.stamped_store.specs.Store.{Store, Update, updates}

-- `is_stamped_at site u` tests whether the update `u`, which may be a tombstone, has a stamp of the site `site`.
abbrev pub is_stamped_at : List ℕ → Update → Bool
is_stamped_at site u = bytes_eq u.1.site site

-- `has_stamps_of site s` tests whether some update of the store `s` has a stamp of the site `site`.
abbrev pub has_stamps_of : List ℕ → Store → Bool
has_stamps_of site s = list_any (is_stamped_at site) (updates s)
