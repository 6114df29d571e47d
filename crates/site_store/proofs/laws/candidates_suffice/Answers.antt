use Rattle.site_store.proofs.Suffice.{candidates_suffice}
use Rattle.site_store.proofs.laws.candidates_suffice.Goals as goal

pub returns : goal.returns
returns c =
    candidates_suffice c.expressions_have_one_outcome.ensures.decided c.answers_are_lawful.ensures.left_out c.scopes_do_not_err.ensures.idle
