use Rattle.values.proofs.PathLemmas.{ident_from, ident_to, IsPath-from_is_path, is_path-from_IsPath}
use Rattle.values.proofs.laws.path_tests_are_exact.Goals as goal

pub returns : goal.returns
returns c = record {
  idents = λ word. (ident_from word, ident_to word);
  paths = λ text. (IsPath-from_is_path text, is_path-from_IsPath text);
}
