use Rattle.std.proofs.Common.{sym, ◌∙◌}
use Rattle.values.specs.Names.{uid_cmp}
use Rattle.schema.proofs.FillingLemmas.{get_empty}
use Rattle.schema.proofs.NumberLemmas.{none_some}
use Rattle.schema.proofs.numbering.none_numbered.Goals as goal

pub returns-clause-numbered : goal.returns-clause-numbered
returns-clause-numbered c = λ u i e. none_some (sym (get_empty uid_cmp c.new.result c.new.ensures.empty u) ∙ e)

pub returns-clause-none : goal.returns-clause-none
returns-clause-none c = get_empty uid_cmp c.new.result c.new.ensures.empty
