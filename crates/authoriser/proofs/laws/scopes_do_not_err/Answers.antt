use Rattle.authoriser.proofs.PartsTold.{scopes_do_not_err, true_scopes_leave, other_scopes_give_false}
use Rattle.authoriser.proofs.laws.scopes_do_not_err.Goals as goal

pub returns : goal.returns
returns c =
    let made = c.sets_hold_their_members.ensures.made in
    record { parts = scopes_do_not_err made; leaves = true_scopes_leave made; idle = other_scopes_give_false made }
