use Rattle.std.proofs.Common.{◌≡◌, sym, ◌∙◌}
use Rattle.std.specs.Prelude.{nat_eq}
use Rattle.std.specs.List.{list_any}
use Rattle.std.specs.Cmp.Lexicographic.{pointwise}
use Rattle.extensions.specs.plain.Words.{reserved_words}
use Rattle.extensions.proofs.of_plain.Members.{texts_any}
use Rattle.values.proofs.path.is_reserved.Goals as goal

pub returns : goal.returns
returns c =
    let value : c.contains.result ≡ list_any (λ y. pointwise nat_eq y c.args.word.now) reserved_words = c.contains.ensures.value in
    let is = texts_any reserved_words c.args.word.now in
    ((λ t. is.0 (sym value ∙ t)), (λ h. value ∙ is.1 h))
