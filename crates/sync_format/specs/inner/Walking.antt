-- Defines one walk over the entries of a store and the stamps of a summary, both in ascending order of names.
use Rattle.std.specs.Prelude.{◌≡◌, ◌++◌, T, true, List}
use Rattle.std.specs.List.{AllByRecursion}
use Rattle.std.specs.Ordering.{is_le}
use Rattle.std.specs.FinMap.Entries.{is_sorted}
use Rattle.json.specs.Written.{Written}
use Rattle.values.specs.declared.name.Name.{Name}
use Rattle.values.specs.Names.{name_cmp}
use Rattle.stamped_store.specs.declared.entry.Entry.{Entry}
use Rattle.stamped_store.specs.Abstraction.{abstract_entries}
use Rattle.stamped_store.specs.Deltas.{Summary}
use Rattle.stamped_store.specs.Store.{Update}
use Rattle.stamped_store.specs.JoinMaps.{value_at}
use Rattle.sync_format.specs.Summaries.{ascend}
use Rattle.entity_uids.specs.Tokens.{AppendsAll}
use Rattle.sync_format.specs.inner.Writing.{all_missing_json}

-- `IsFrom name known left` holds if the names of `left` ascend, and `name` and each greater name has the same stamp in
-- `left` as in `known`, or none in both.
pub record IsFrom (name : Name) (known left : Summary) : Type 0 where
  pub ascending : ascend left ≡ true
  pub same : (q : Name) → is_le (name_cmp name q) ≡ true → value_at name_cmp left q ≡ value_at name_cmp known q

-- `IsAhead left known us` holds if the names of `left` ascend, those of the updates `us` ascend too, and each name of
-- `us` has the same stamp in `left` as in `known`, or none in both.
pub record IsAhead (left known : Summary) (us : List Update) : Type 0 where
  pub ascending : ascend left ≡ true
  pub sorted : T (is_sorted name_cmp us)
  pub same : AllByRecursion (λ u. value_at name_cmp left u.0 ≡ value_at name_cmp known u.0) us

-- `IsWalked name known left before after all done rest` holds if two facts hold for all updates `next` such that the
-- names of `known` ascend, and those of the entries `all` and then of `next` too. First, `after` is `before` with the
-- JSON of some entries appended (`AppendsAll`): those of `done` whose names `known` lacks or has with a smaller stamp.
-- Second, `IsAhead` holds for `left`, `known`, and `rest` and then `next`. Here `name` gives the name that a key
-- represents.
abbrev pub IsWalked : {N P : Type 0} → (N → Name) → (known left : Summary) → (before after : Written)
    → (all done rest : List (N × Entry P)) → Type 0
IsWalked name known left before after all done rest = (next : List Update)
    → IsAhead known known (abstract_entries name all ++ next)
    → AppendsAll before after (all_missing_json name known done)
    × IsAhead left known (abstract_entries name rest ++ next)
