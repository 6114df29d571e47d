-- An object of version 1 states the raise of what it states by number.
use Rattle.std.proofs.Common.{◌≡◌, ℕ, List, Result, Ok, Err, refl, subst}
use Rattle.std.specs.Prelude.{codes}
use Rattle.serde_json.specs.Data.{Data}
use Rattle.serde_json.specs.Find.{get}
use Rattle.json_words.specs.ReadsAs.{◌>>=◌, or_fault}
use Rattle.json_words.proofs.EachLemmas.{bind_ok}
use Rattle.values.specs.declared.name.Name.{Name}
use Rattle.stamped_store.specs.declared.entry.Stamp.{Stamp}
use Rattle.stamped_store.specs.Raised.{IsSiteNumber}
use Rattle.stamped_store.specs.SiteNames.{five_digits}
use Rattle.sync_format.specs.declared.fault.MessageFault.{MessageFault}
use Rattle.sync_format.specs.declared.fault.MessageFault.TheVariants.{BadShape}
use Rattle.sync_format.specs.declared.version.MessageVersion.TheVariants.{One}
use Rattle.sync_format.specs.Summaries.{StampAt, number_at, name_in, numbered_in, raised_in, stamped_by, stamped_in}
use Rattle.sync_format.specs.NumberedSummaries.{NumberedStamp, raise_stamp}
use Rattle.sync_format.proofs.Sound.{number_in_range}

abbrev Read : Type 0 → Type 0
Read A = Result A MessageFault

abbrev read : {A : Type 0} → A → Read A
read x = Ok x

read_is : {A : Type 0} (x y : A) → read x ≡ read y → x ≡ y
read_is x y h = cc

-- a reading, with its value mapped
abbrev pub map_read : {A B : Type 0} → (A → B) → Read A → Read B
map_read f (Ok x) = Ok (f x)
map_read f (Err e) = Err e

-- ---- its stamp
abbrev SiteStamp : Type 0
SiteStamp = Name × StampAt (List ℕ)

abbrev as_stamp : SiteStamp → Name × Stamp
as_stamp u = (u.0, record { count = u.1.count; site = u.1.site })

abbrev with_name : ℕ → List ℕ → Name → Read SiteStamp
with_name count site name = read (name, record { count = count; site = site })

abbrev with_number : ℕ → ℕ → Name → Read NumberedStamp
with_number count site name = read (name, record { count = count; site = site })

by_name : (n : Read Name) (count site : ℕ) → ((n >>= with_name count (five_digits site)) >>= λ u. read (as_stamp u)) ≡ map_read raise_stamp (n >>= with_number count site)
by_name (Ok name) count site = refl
by_name (Err f) count site = refl

by_parts : (c s : Read ℕ) (o : Read Data)
    → ((c >>= λ count. (s >>= λ site. read (five_digits site)) >>= λ site. o >>= λ found. name_in found >>= with_name count site) >>= λ u. read (as_stamp u))
    ≡ map_read raise_stamp (c >>= λ count. s >>= λ site. o >>= λ found. name_in found >>= with_number count site)
by_parts (Err f) s o = refl
by_parts (Ok count) (Err f) o = refl
by_parts (Ok count) (Ok site) (Err f) = refl
by_parts (Ok count) (Ok site) (Ok found) = by_name (name_in found) count site

pub stamped_raised : (d : Data) → stamped_in One d ≡ map_read raise_stamp (stamped_by numbered_in d)
unfolding stamped_in stamped_by raised_in
stamped_raised d = by_parts (number_at (codes "count") d) (numbered_in d) (or_fault BadShape (get (codes "name") d))

-- ---- its number
abbrev of_site : Data → ℕ → ℕ → Read NumberedStamp
of_site d count site = or_fault BadShape (get (codes "name") d) >>= λ found. name_in found >>= with_number count site

abbrev of_count : Data → ℕ → Read NumberedStamp
of_count d count = numbered_in d >>= λ site. of_site d count site

-- a number that is read is that of a site
pub stamped_number : (d : Data) (n : NumberedStamp) → stamped_by numbered_in d ≡ Ok n → IsSiteNumber n.1.site
unfolding stamped_by
stamped_number d n e =
    let c = bind_ok (number_at (codes "count") d) (λ count. of_count d count) n e in
    let s = bind_ok (numbered_in d) (λ site. of_site d c.0 site) n c.2 in
    let o = bind_ok (or_fault BadShape (get (codes "name") d)) (λ found. name_in found >>= with_number c.0 s.0) n s.2 in
    let m = bind_ok (name_in o.0) (with_number c.0 s.0) n o.2 in
    let stamp : StampAt ℕ = record { count = c.0; site = s.0 } in
    subst (λ (v : NumberedStamp). IsSiteNumber v.1.site) (read_is (m.0, stamp) n m.2) (number_in_range d s.0 s.1)
