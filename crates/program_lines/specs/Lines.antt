-- Defines the command that some arguments form, with the value of each of its options.
-- Source: the contracts of the crate clap; docs/operating.md.
use Rattle.std.specs.Prelude.{◌≡◌, ◌≤◌, ℕ, Bool, true, false, List, Option, None, Some, option_map, codes}
use Rattle.std.specs.Str.Parse.{digits_value, without_leading_plus}
use Rattle.clap.specs.Words.{Row, Text, IsUnsignedIn, first_of, subcommand_of}
use Rattle.stamped_store.specs.SiteNames.{IsSiteName}
use Rattle.program_lines.specs.declared.line.Line.{Line}
use Rattle.program_lines.specs.declared.line.Line.TheVariants.{Check, Decide, Load, Serve, Pull, Exchange, Merge}
use Rattle.program_lines.specs.declared.line.Line.TheVariants.{Drill, Explain}
use Rattle.program_lines.specs.Apps.{site_app}

-- `word_of line` is the name of the command `line`.
abbrev pub word_of : Line → Text
word_of (Check options) = codes "check"
word_of (Decide options) = codes "decide"
word_of (Load options) = codes "load"
word_of (Serve options) = codes "serve"
word_of (Pull options) = codes "pull"
word_of (Exchange options) = codes "exchange"
word_of (Merge options) = codes "merge"
word_of (Drill options) = codes "drill"
word_of (Explain options) = codes "explain"

-- `IsGiven rows id text` holds if the option `id` has the value `text` in `rows`, the options that clap found.
abbrev pub IsGiven : List Row → Text → Text → Type 0
IsGiven rows id text = first_of id rows ≡ Some text

-- `IsGivenSite rows site` holds if the option `--site` has the value `site`, a valid site name.
abbrev pub IsGivenSite : List Row → Text → Type 0
IsGivenSite rows site = IsGiven rows (codes "site") site × IsSiteName site

-- `IsGivenInvalidSite rows` holds if the option `--site` has a value that is not a site name.
abbrev pub IsGivenInvalidSite : List Row → Type 0
IsGivenInvalidSite rows = (text : Text) × IsGiven rows (codes "site") text × (IsSiteName text → ⊥)

-- `IsNumberIn least most text number` holds if `text` is `number` in decimal digits, perhaps after a plus, and the
-- number is from `least` to `most`.
abbrev pub IsNumberIn : ℕ → ℕ → Text → ℕ → Type 0
IsNumberIn least most text number =
    IsUnsignedIn least most text × (number ≡ digits_value 10 (without_leading_plus text))

-- `IsGivenNumber rows id least most number` holds if the option `id` has the value `number`, from `least` to `most`.
abbrev pub IsGivenNumber : List Row → Text → ℕ → ℕ → ℕ → Type 0
IsGivenNumber rows id least most number =
    (text : Text) × IsGiven rows id text × IsNumberIn least most text number

-- `MayBeGivenNumber rows id least most o` holds if the option `id` has the value `o`, from `least` to `most`, or is
-- absent and `o` is `None`.
abbrev pub MayBeGivenNumber : List Row → Text → ℕ → ℕ → Option ℕ → Type 0
MayBeGivenNumber rows id least most None = first_of id rows ≡ None
MayBeGivenNumber rows id least most (Some number) = IsGivenNumber rows id least most number

-- `IsFlag rows id b` holds if `b` is whether the flag `id` was given: clap gives a flag the value `true` if it was
-- given, else `false`.
abbrev pub IsFlag : List Row → Text → Bool → Type 0
IsFlag rows id true = IsGiven rows id (codes "true")
IsFlag rows id false = IsGiven rows id (codes "true") → ⊥

-- `HasOptions rows line` holds if the options of `line` have the values that they have in `rows`, and a site's name and
-- the numbers are valid.
abbrev pub HasOptions : List Row → Line → Type 0
HasOptions rows (Check options) =
    IsGiven rows (codes "schema") options.schema.now
    × IsGiven rows (codes "policies") options.policies.now
    × IsFlag rows (codes "explain") options.explain
HasOptions rows (Decide options) =
    (first_of (codes "schema") rows ≡ option_map (λ s. s.now) options.schema)
    × IsGiven rows (codes "policies") options.policies.now
    × IsGiven rows (codes "entities") options.entities.now
    × IsGiven rows (codes "request") options.request.now
    × IsFlag rows (codes "explain") options.explain
HasOptions rows (Load options) =
    IsGiven rows (codes "schema") options.schema.now
    × IsGivenSite rows options.site
    × (first_of (codes "policies") rows ≡ option_map (λ s. s.now) options.policies)
    × (first_of (codes "entities") rows ≡ option_map (λ s. s.now) options.entities)
    × (first_of (codes "state") rows ≡ option_map (λ s. s.now) options.state)
    × IsFlag rows (codes "explain") options.explain
HasOptions rows (Serve options) =
    IsGiven rows (codes "schema") options.schema.now
    × IsGivenSite rows options.site
    × IsGiven rows (codes "listen") options.listen.now
    × (first_of (codes "state") rows ≡ option_map (λ s. s.now) options.state)
    × MayBeGivenNumber rows (codes "connections") 0 4294967295 options.connections
    × MayBeGivenNumber rows (codes "clients") 1 1024 options.clients
    × MayBeGivenNumber rows (codes "idle") 0 86400 options.idle
    × (first_of (codes "log") rows ≡ option_map (λ s. s.now) options.log)
    × IsFlag rows (codes "explain") options.explain
HasOptions rows (Pull options) =
    IsGiven rows (codes "schema") options.schema.now
    × IsGivenSite rows options.site
    × IsGiven rows (codes "from") options.from.now
    × IsGiven rows (codes "state") options.state.now
HasOptions rows (Exchange options) =
    IsGiven rows (codes "schema") options.schema.now
    × IsGiven rows (codes "between") options.between.now
    × IsGiven rows (codes "and") options.and.now
HasOptions rows (Merge options) =
    IsGiven rows (codes "schema") options.schema.now
    × IsGiven rows (codes "first") options.first.now
    × IsGiven rows (codes "second") options.second.now
    × IsFlag rows (codes "explain") options.explain
HasOptions rows (Drill options) =
    IsGiven rows (codes "schema") options.schema.now
    × IsGivenNumber rows (codes "sites") 1 64 options.sites
    × IsGiven rows (codes "script") options.script.now
HasOptions rows (Explain options) =
    IsGiven rows (codes "what") options.what.now
    × (first_of (codes "schema") rows ≡ option_map (λ s. s.now) options.schema)
    × (first_of (codes "entities") rows ≡ option_map (λ s. s.now) options.entities)
    × (first_of (codes "request") rows ≡ option_map (λ s. s.now) options.request)

-- `HasSites line` holds if `line` is not `drill`, or has a number of sites from 1 to 64.
abbrev pub HasSites : Line → Type 0
HasSites (Drill options) = (1 ≤ options.sites) × (options.sites ≤ 64)
HasSites _ = Unit {0}

-- `IsLineOf word rows line` holds if `line` is the command `word` with the options `rows`.
abbrev pub IsLineOf : Text → List Row → Line → Type 0
IsLineOf word rows line = (word_of line ≡ word) × HasOptions rows line

-- `IsNamed line named` holds if clap found the command `line`: `named` is its name with its options.
abbrev pub IsNamed : Line → Option (Text × List Row) → Type 0
IsNamed line None = ⊥
IsNamed line (Some named) = IsLineOf named.0 named.1 line

-- `IsNoLine named` holds if clap found no command that has all required options with valid values.
abbrev pub IsNoLine : Option (Text × List Row) → Type 0
IsNoLine named = (line : Line) → IsNamed line named → ⊥

-- `HasInvalidSite named` holds if clap found a command with an invalid site name.
abbrev pub HasInvalidSite : Option (Text × List Row) → Type 0
HasInvalidSite None = ⊥
HasInvalidSite (Some named) = IsGivenInvalidSite named.1

-- `IsCommandOf words line` holds if the arguments `words` are the command `line`.
abbrev pub IsCommandOf : List Text → Line → Type 0
IsCommandOf words line = IsNamed line (subcommand_of site_app words)
