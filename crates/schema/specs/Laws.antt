-- Defines the theorems that parsing agrees with the relations on JSON. These relate JSON to exactly one value or error:
-- the result of the parsing function.
use Rattle.std.specs.Prelude.{◌↔◌, ℕ, List, Bool}
use Rattle.serde_json.specs.Data.{Data}
use Rattle.schema_types.specs.TypeShape.{type_of}
use Rattle.schema_reading.specs.FileForm.{NamespaceOf, stated}
use Rattle.schema_reading.specs.Qualifying.{ResolvedSchema, qualified}
use Rattle.schema_reading.specs.Naming.{DescribesFile}
use Rattle.schema.specs.Agreement.{Gives, HasOneOutcome}
use Rattle.schema.specs.StatedTypes.{StatesType, RefusesType}
use Rattle.schema.specs.StatedFiles.{DescribesNamespaces, RefusesFile}
use Rattle.schema.specs.NamesResolved.{ResolvesFile, RefusesNames}
use Rattle.schema.specs.Schemas.{HasDeclarations}

-- ---- types

-- `TypesAreRead`: the function `type_of` gives the type that JSON describes, or the error if JSON describes none.
abbrev pub TypesAreRead : Type 0
TypesAreRead = (is_attribute : Bool) (d : Data)
    → Gives (type_of is_attribute d) (StatesType is_attribute d) (RefusesType is_attribute d)

-- `TypesHaveOneOutcome`: JSON describes exactly one type, or is rejected with exactly one error, and never both.
abbrev pub TypesHaveOneOutcome : Type 0
TypesHaveOneOutcome = (is_attribute : Bool) (d : Data)
    → HasOneOutcome (StatesType is_attribute d) (RefusesType is_attribute d)

-- ---- files

-- `FilesAreRead`: the function `stated` gives the namespaces that JSON describes, or the error if JSON describes no
-- file.
abbrev pub FilesAreRead : Type 0
FilesAreRead = (d : Data) → Gives (stated d) (DescribesNamespaces d) (RefusesFile d)

-- `FilesHaveOneOutcome`: JSON describes exactly one file, or is rejected with exactly one error, and never both.
abbrev pub FilesHaveOneOutcome : Type 0
FilesHaveOneOutcome = (d : Data) → HasOneOutcome (DescribesNamespaces d) (RefusesFile d)

-- ---- names

-- `NamesAreResolved`: the function `qualified` gives the declarations of a file with their names resolved, or the error
-- if a name means nothing.
abbrev pub NamesAreResolved : Type 0
NamesAreResolved = (ns : List NamespaceOf) → Gives (qualified ns) (ResolvesFile ns) (RefusesNames ns)

-- `NamesHaveOneOutcome`: the names of a file resolve in exactly one way, or are rejected with exactly one error, and
-- never both.
abbrev pub NamesHaveOneOutcome : Type 0
NamesHaveOneOutcome = (ns : List NamespaceOf) → HasOneOutcome (ResolvesFile ns) (RefusesNames ns)

-- `DeclarationsAreRead`: parsing bytes gives declarations if and only if the bytes describe these declarations.
abbrev pub DeclarationsAreRead : Type 0
DeclarationsAreRead = (bytes : List ℕ) (s : ResolvedSchema) → DescribesFile bytes s ↔ HasDeclarations bytes s
