-- Defines how an error of clap is reported, and why a command is incomplete.
use Rattle.std.specs.Prelude.{List, Option, if◌then◌else◌}
use Rattle.clap.specs.Words.{Row, Text, kind_of}
use Rattle.clap.specs.declared.error.Error.{Error}
use Rattle.program_lines.specs.declared.fault.LineFault.{LineFault}
use Rattle.program_lines.specs.declared.fault.LineFault.TheVariants.{Help, Words, Site, Incomplete, NotText, NoMemory}
use Rattle.program_lines.specs.Lines.{HasInvalidSite}
use Rattle.program_lines.specs.Faults.{is_help, is_memory}

-- `line_fault_of error` is the error of the command line that reports the error `error` of clap.
abbrev pub line_fault_of : Error → LineFault
line_fault_of error = if is_help (kind_of error) then Help error
    else if is_memory (kind_of error) then NoMemory else Words error

-- `IsWhyIncomplete named f` holds if `f` is the error for the incomplete command `named`, as clap parsed it (`None`
-- without a command): `Site` if its site name is invalid, else `Incomplete`.
abbrev pub IsWhyIncomplete : Option (Text × List Row) → LineFault → Type 0
IsWhyIncomplete named (Help error) = ⊥
IsWhyIncomplete named (Words error) = ⊥
IsWhyIncomplete named Site = HasInvalidSite named
IsWhyIncomplete named Incomplete = HasInvalidSite named → ⊥
IsWhyIncomplete named NotText = ⊥
IsWhyIncomplete named NoMemory = ⊥
