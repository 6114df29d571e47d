-- Defines, for each error of a message, its code, the index of the entry or stamp that has it, and the code of its
-- inner error.
-- Source: docs/codes.md.
-- Rules of this product: the codes.
use Rattle.std.specs.Prelude.{ℕ, Option, Some, None}
use Rattle.sync_format.specs.declared.fault.MessageFault.{MessageFault}
use Rattle.sync_format.specs.declared.fault.MessageFault.TheVariants.{NoMemory, NotJson, BadShape, OtherSchema}
use Rattle.sync_format.specs.declared.fault.MessageFault.TheVariants.{Version, CountRange, BadEntry, BodyOfOtherName}

-- `code_of f` is the code of the error `f`.
abbrev pub code_of : MessageFault → ℕ
code_of NoMemory = 1
code_of NotJson = 50
code_of BadShape = 51
code_of OtherSchema = 52
code_of Version = 53
code_of (CountRange place) = 54
code_of (BadEntry place within) = 55
code_of (BodyOfOtherName place) = 56

-- `place_of f` is the index of the entry or stamp that has the error `f`, or `None` if `f` is of the message as a
-- whole.
abbrev pub place_of : MessageFault → Option ℕ
place_of NoMemory = None
place_of NotJson = None
place_of BadShape = None
place_of OtherSchema = None
place_of Version = None
place_of (CountRange place) = Some place
place_of (BadEntry place within) = Some place
place_of (BodyOfOtherName place) = Some place

-- `within_of f` is the code of the inner error of `f`, or `None` if it has none.
abbrev pub within_of : MessageFault → Option ℕ
within_of NoMemory = None
within_of NotJson = None
within_of BadShape = None
within_of OtherSchema = None
within_of Version = None
within_of (CountRange place) = None
within_of (BadEntry place within) = Some within
within_of (BodyOfOtherName place) = None
