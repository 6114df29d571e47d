-- Defines the error of a repeated name at an offset, if there is one, and the `NameAt` of a `Key`, a type of the code.
use Rattle.std.specs.Prelude.{ℕ, Option, Some, None}
use Rattle.grammar_desugaring.specs.declared.fault.DesugarFault.{DesugarFault}
use Rattle.grammar_desugaring.specs.declared.fault.DesugarFault.TheVariants.{RepeatedKey}
use Rattle.grammar_desugaring.specs.declared.repeats.Key.{Key}
use Rattle.grammar_desugaring.specs.Repeats.{NameAt}

-- `repeat_fault o` is the error at the offset `o` of a repeated name; `None` if `o` is `None`.
abbrev pub repeat_fault : Option ℕ → Option DesugarFault
repeat_fault None = None
repeat_fault (Some at) = Some (RepeatedKey at)

-- `held key` is the `NameAt` with the name and the offset of `key`.
abbrev pub held : Key → NameAt
held key = record { name = key.name; at = key.at }
