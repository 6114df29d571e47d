use Rattle.typing.proofs.Conforming as example
use Rattle.typing.proofs.laws.something_conforms.Goals as goal

pub returns-clause-conforms : goal.returns-clause-conforms
returns-clause-conforms c = example.something_conforms

pub returns-clause-typed : goal.returns-clause-typed
returns-clause-typed c = example.something_is_typed

pub returns-clause-faulty : goal.returns-clause-faulty
returns-clause-faulty c = example.something_is_faulty
