use Rattle.grammar_syntax.proofs.OneWay.{one_lexing, bad_is_not_lexed, one_bad_place}
use Rattle.grammar_syntax.proofs.SomeWay.{each_is_lexed_or_bad}
use Rattle.grammar_syntax.proofs.Spelled.{each_is_spelled}
use Rattle.grammar_syntax.proofs.laws.lexing_is_unique.Goals as goal

pub returns : goal.returns
returns c = record { one_list = one_lexing; not_both = bad_is_not_lexed; one_place = one_bad_place; some = each_is_lexed_or_bad; spelled = each_is_spelled }
