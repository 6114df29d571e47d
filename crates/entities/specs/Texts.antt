-- Defines JSON whose strings are UTF-8. (RFC 8259, section 8.1, requires UTF-8.)
use Rattle.std.specs.Prelude.{⊤}
use Rattle.std.specs.Str.{IsUtf8}
use Rattle.serde_json.specs.Data.{Data, null, boolean, number, string, array, object}
use Rattle.serde_json.specs.Data.{Items, no_items, item, Members, no_members, member}

-- `HasUtf8 d` holds if each string in `d` is UTF-8, and each key of an object in `d` is. `HaveUtf8 ds` and
-- `MembersHaveUtf8 ms` hold if this is so for the items `ds` of an array, or the members `ms` of an object.
abbrev mutual
  pub HasUtf8 : Data → Type 0
  HasUtf8 null = ⊤
  HasUtf8 (boolean b) = ⊤
  HasUtf8 (number n) = ⊤
  HasUtf8 (string s) = IsUtf8 s
  HasUtf8 (array ds) = HaveUtf8 ds
  HasUtf8 (object ms) = MembersHaveUtf8 ms

  pub HaveUtf8 : Items → Type 0
  HaveUtf8 no_items = ⊤
  HaveUtf8 (item d ds) = HasUtf8 d × HaveUtf8 ds

  pub MembersHaveUtf8 : Members → Type 0
  MembersHaveUtf8 no_members = ⊤
  MembersHaveUtf8 (member k d ms) = IsUtf8 k × HasUtf8 d × MembersHaveUtf8 ms
