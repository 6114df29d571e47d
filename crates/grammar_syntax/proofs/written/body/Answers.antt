use Rattle.std.proofs.Common.{◌∷◌, ◌++◌, [], List, ℕ, sym, ◌∙◌, ap}
use Rattle.grammar_syntax.proofs.Between.{places}
use Rattle.grammar_syntax.proofs.written.body.Goals as goal

pub range-requires-clause-start_le_end : goal.range-requires-clause-start_le_end
range-requires-clause-start_le_end c = (places _ _ c.utf8.text c.requires.spelled c.requires.string).ordered

pub range-requires-clause-start_boundary : goal.range-requires-clause-start_boundary
range-requires-clause-start_boundary c _ = (places _ _ c.utf8.text c.requires.spelled c.requires.string).first_cut

pub range-requires-clause-end_boundary : goal.range-requires-clause-end_boundary
range-requires-clause-end_boundary c = (places _ _ c.utf8.text c.requires.spelled c.requires.string).last_cut

pub returns : goal.returns
returns c = (places _ _ c.utf8.text c.requires.spelled c.requires.string).spelled ∙ ap (λ (x : List ℕ). 34 ∷ (x ++ 34 ∷ [])) (sym c.range.ensures.value)
