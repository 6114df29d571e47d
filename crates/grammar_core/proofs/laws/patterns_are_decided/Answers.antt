use Rattle.grammar_core.specs.LikeTest.{is_match-Decides, literal_alone, any_text}
use Rattle.grammar_core.proofs.laws.patterns_are_decided.Goals as goal

pub returns-clause-decided : goal.returns-clause-decided
returns-clause-decided c = is_match-Decides

pub returns-clause-alone : goal.returns-clause-alone
returns-clause-alone c = literal_alone

pub returns-clause-any : goal.returns-clause-any
returns-clause-any c = any_text
