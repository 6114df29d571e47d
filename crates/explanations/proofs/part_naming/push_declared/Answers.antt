use Rattle.std.proofs.Common.{◌∙◌, ◌++◌, ℕ, List, Option, Bor, option_map, string_bytes, sym, ap}
use Rattle.std.proofs.lemmas.List.{append-nil}
use Rattle.schema_types.specs.CedarViews.{cedar_view}
use Rattle.schema_types.specs.declared.cedar.CedarType.{CedarType}
use Rattle.explanations.specs.PartWords.{declared_words}
use Rattle.explanations.proofs.part_naming.push_declared.Goals as goal

abbrev words_of : Option (Bor CedarType) → List ℕ
words_of o = declared_words (option_map (λ t. cedar_view t.now) o)

pub returns-in-None : goal.returns-in-None
returns-in-None c =
    let out = string_bytes c.args.out.now in
    sym (append-nil out) ∙ ap (λ (o : Option (Bor CedarType)). out ++ words_of o) (sym c.in-None.is)
