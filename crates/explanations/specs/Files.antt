-- Defines the files that are explained: their names and contents.
-- Rules of this product: policies are always given; a schema, entities and a request may be.
use Rattle.std.specs.Prelude.{ℕ, List, Option, option_map}
use Rattle.explanations.specs.declared.given.NamedText.{NamedText}
use Rattle.explanations.specs.declared.given.Given.{Given}

-- A `File` is a name with a content.
pub record File : Type 0 where
  pub name : List ℕ
  pub text : List ℕ

-- `Files` are the files that are given.
pub record Files : Type 0 where
  pub schema : Option File
  pub policies : File
  pub entities : Option File
  pub request : Option File

-- `file_of source` is the file that the Rust value `source` holds.
abbrev pub file_of : NamedText → File
file_of source = record { name = source.name.now; text = source.text.now }

-- `files_of given` are the files that the Rust value `given` holds.
abbrev pub files_of : Given → Files
files_of given = record {
  schema = option_map file_of given.schema;
  policies = file_of given.policies;
  entities = option_map file_of given.entities;
  request = option_map file_of given.request;
}
