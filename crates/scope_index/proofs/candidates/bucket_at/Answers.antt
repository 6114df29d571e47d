use Rattle.std.proofs.Common.{◌∙◌, sym, ap}
use Rattle.std.specs.Option.{option_copied}
use Rattle.scope_index.specs.Buckets.{bucket_of}
use Rattle.scope_index.proofs.candidates.bucket_at.Goals as goal

pub returns-in-Some : goal.returns-in-Some
returns-in-Some c =
    c.get-in-Some.ensures.value ∙ ap (λ o. bucket_of o c.args.uid.now.id) (sym (ap option_copied c.in-Some.is) ∙ c.get.ensures.value)

pub returns-in-None : goal.returns-in-None
returns-in-None c =
    ap (λ o. bucket_of o c.args.uid.now.id) (sym (ap option_copied c.in-None.is) ∙ c.get.ensures.value)
