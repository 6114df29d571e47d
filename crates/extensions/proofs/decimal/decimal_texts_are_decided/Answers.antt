use Rattle.extensions.specs.DecimalText.{IsDecimalText}
use Rattle.extensions.specs.TextsDecided.{decimal_text_decided}
use Rattle.extensions.proofs.Found.{found_iff}
use Rattle.extensions.proofs.SignedTexts.{one_decimal}
use Rattle.extensions.proofs.decimal.decimal_texts_are_decided.Goals as goal

pub returns : goal.returns
returns c = λ text z. found_iff (IsDecimalText text) (λ x y s t. one_decimal text x y s.0 t.0) (decimal_text_decided text) z
