-- Defines updates whose strings are UTF-8, as all strings in the code are. Each update that is parsed from a message
-- has only such strings, since JSON is UTF-8.
-- Source: RFC 8259, section 8.1.
use Rattle.std.specs.Prelude.{ℕ, List, Option, Some, None}
use Rattle.std.specs.List.{AllByRecursion}
use Rattle.std.specs.Str.{IsUtf8}
use Rattle.stamped_store.specs.Store.{Update}
use Rattle.sync_format.specs.Summaries.{HasTexts}

-- `IsBodyText body` holds if `body` is that of a tombstone (`None`), or a text in UTF-8.
abbrev pub IsBodyText : Option (List ℕ) → Type 0
IsBodyText None = Unit {0}
IsBodyText (Some text) = IsUtf8 text

-- `IsText u` holds if the strings of the name and of the body of `u` are UTF-8.
pub record IsText (u : Update) : Type 0 where
  pub name : HasTexts u.0
  pub body : IsBodyText u.1.body

-- `AreTexts us` holds if the strings of the name and of the body of each of `us` are UTF-8.
abbrev pub AreTexts : List Update → Type 0
AreTexts us = AllByRecursion IsText us
