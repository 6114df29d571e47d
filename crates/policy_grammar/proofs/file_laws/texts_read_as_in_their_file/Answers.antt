use Rattle.policy_grammar.proofs.FileTexts.{each_read}
use Rattle.policy_grammar.proofs.file_laws.texts_read_as_in_their_file.Goals as goal

pub returns : goal.returns
returns c = each_read c.lexing_is_unique.ensures.one_list c.reading_is_unique.ensures.one_policy
