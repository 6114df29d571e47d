use Rattle.std.proofs.Common.{◌≡◌, ◌∙◌, sym, ap, Some}
use Rattle.std.specs.Option.{option_copied}
use Rattle.scope_index.specs.Keys.{lent}
use Rattle.scope_index.specs.Buckets.{bucket_at}
use Rattle.scope_index.proofs.Offering.{offered_under, none_under}
use Rattle.scope_index.proofs.candidates.add_bucket.Goals as goal

pub returns-in-Some : goal.returns-in-Some
returns-in-Some c =
    let held : bucket_at c.args.under.now c.args.uid.now ≡ Some c.in-Some.bucket.now =
    sym c.bucket_at.ensures ∙ ap option_copied c.in-Some.is in
    offered_under c.add_policies.result (bucket_at c.args.under.now c.args.uid.now) c.in-Some.bucket.now held
    (lent c.args.found.now.items) (lent c.add_policies.new.found.items) c.add_policies.ensures

pub returns-in-None : goal.returns-in-None
returns-in-None c =
    none_under (bucket_at c.args.under.now c.args.uid.now) (sym c.bucket_at.ensures ∙ ap option_copied c.in-None.is)
    (lent c.args.found.now.items)
