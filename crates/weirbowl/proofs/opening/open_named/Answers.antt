use Rattle.weirbowl.proofs.OpenedSites.{is_opened}
use Rattle.weirbowl.proofs.opening.open_named.Goals as goal

pub returns-clause-opened : goal.returns-clause-opened
returns-clause-opened c =
    is_opened c.args.schema.now c.args.name.now c.in_ok-schema.schema c.in_ok-open_under.field-0 c.in_ok-schema.ensures.read
    c.in_ok-open_under.ensures.schema c.in_ok-open_under.ensures.name c.in_ok-open_under.ensures.empty
    c.in_ok-open_under.ensures.fresh
