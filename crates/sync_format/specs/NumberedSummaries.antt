-- Defines summaries of version 1, whose sites are numbers.
-- Rules of this product: such a summary is {"kind":"summary","schema":label,"stamps":[{"count":n,"name":N,"site":m},
-- ..],"version":1}, with m from 1 to 65,535. It is parsed as the summary with each site's number replaced by its five
-- digits. It is never written.
use Rattle.std.specs.Prelude.{ℕ, List, map, codes}
use Rattle.std.specs.List.{AllByRecursion}
use Rattle.serde_json.specs.Data.{Data, number, unsigned, string, array, object, no_members, member}
use Rattle.serde_json.specs.View.{items_of}
use Rattle.values.specs.declared.name.Name.{Name}
use Rattle.stamped_store.specs.declared.entry.Stamp.{Stamp}
use Rattle.stamped_store.specs.Deltas.{Summary}
use Rattle.stamped_store.specs.Raised.{IsSiteNumber}
use Rattle.stamped_store.specs.SiteNames.{five_digits}
use Rattle.sync_format.specs.Summaries.{StampAt, name_json}

-- A `NumberedStamp` is a name with a stamp whose site is a number.
abbrev pub NumberedStamp : Type 0
NumberedStamp = Name × StampAt ℕ

-- `HaveNumbers ns` holds if each site of `ns` is a number from 1 to 65,535.
abbrev pub HaveNumbers : List NumberedStamp → Type 0
HaveNumbers ns = AllByRecursion (λ n. IsSiteNumber n.1.site) ns

-- `raise_stamp n` is the name and stamp `n` with the site's number replaced by its five digits.
abbrev pub raise_stamp : NumberedStamp → Name × Stamp
raise_stamp n = (n.0, record { count = n.1.count; site = five_digits n.1.site })

-- `raise_stamps ns` is the summary of `ns` with each site's number replaced by its five digits.
abbrev pub raise_stamps : List NumberedStamp → Summary
raise_stamps ns = map raise_stamp ns

-- `numbered_stamp_json n` is the JSON of the name and stamp `n` in version 1.
abbrev pub numbered_stamp_json : NumberedStamp → Data
numbered_stamp_json n = object (member (codes "count") (number (unsigned n.1.count))
    (member (codes "name") (name_json n.0)
    (member (codes "site") (number (unsigned n.1.site)) no_members)))

-- `numbered_summary_json label ns` is the JSON of the summary `ns` of version 1 under the schema with the label
-- `label`.
abbrev pub numbered_summary_json : List ℕ → List NumberedStamp → Data
numbered_summary_json label ns = object (member (codes "kind") (string (codes "summary"))
    (member (codes "schema") (string label)
    (member (codes "stamps") (array (items_of (map numbered_stamp_json ns)))
    (member (codes "version") (number (unsigned 1)) no_members))))
