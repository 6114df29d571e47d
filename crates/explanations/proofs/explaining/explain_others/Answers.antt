use Rattle.std.proofs.Common.{option_map, string_bytes}
use Rattle.schema_decisions.specs.schema.Views.{schema_view}
use Rattle.explanations.specs.Files.{files_of}
use Rattle.explanations.proofs.Appending.{on_ok}
use Rattle.explanations.proofs.Joining.{others}
use Rattle.explanations.proofs.explaining.explain_others.Goals as goal

pub returns : goal.returns
returns c =
    on_ok c.explain_request.result c.explain_request.ensures (others (files_of c.args.given.now) (string_bytes c.args.out.now) (option_map (λ s. schema_view s.now) c.args.schema)
    (string_bytes c.explain_file.new.out) (string_bytes c.explain_entities.new.out) (string_bytes c.explain_request.new.out) c.in_ok-explain_file.ensures
    c.in_ok-explain_entities.ensures)
