use Rattle.std.proofs.Common.{rules, string_bytes}
use Rattle.explanations.specs.Files.{files_of}
use Rattle.explanations.proofs.Joining.{from_nothing}
use Rattle.explanations.proofs.explaining.explain_texts.Goals as goal

pub returns : goal.returns
returns c =
    from_nothing (files_of c.args.given.now) (string_bytes c.new-out.result) (string_bytes c.explain_given.new.out) (search rules)
    c.in_ok-explain_given.ensures
