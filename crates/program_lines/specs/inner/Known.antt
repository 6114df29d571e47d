-- Defines the invariant of a command that is being built.
use Rattle.std.specs.Prelude.{◌≡◌, false}
use Rattle.clap.specs.Words.{App, app_of}
use Rattle.clap.specs.declared.builder.Command.{Command}
use Rattle.clap.specs.declared.builder.Command.TheViews.{out-Command as fields_of}

-- `IsApp app c` holds if the command `c` is the one that `app` describes, and has no global option.
abbrev pub IsApp : App → Command → Type 0
IsApp app c = (app_of c ≡ app) × ((fields_of c).has_globals ≡ false)
