-- What a string stands for is determined.
use Rattle.std.proofs.Common.{◌≡◌, ℕ, List, [], ◌∷◌, ◌++◌, sym, ◌∙◌, ap}
use Rattle.std.proofs.lemmas.List.{append_cancel_right}
use Rattle.grammar_syntax.specs.Lexing.{quote}
use Rattle.grammar_syntax.specs.Strings.{bytes_of, literals_of, OneValue, OnePattern}
use Rattle.grammar_syntax.proofs.OneWay.{same_body}
use Rattle.grammar_syntax.proofs.Parts.{tails}

-- One text stands between the quotes.
pub one_body : (v w : List ℕ) → quote ∷ v ++ quote ∷ [] ≡ quote ∷ w ++ quote ∷ [] → v ≡ w
one_body v w e = append_cancel_right v w (34 ∷ []) (tails 34 34 (v ++ 34 ∷ []) (w ++ 34 ∷ []) e)

pub one_value : OneValue
one_value v w spelling a b =
    a.value_is ∙ (ap bytes_of (same_body a.is b.is (one_body a.body b.body (sym a.spelled ∙ b.spelled))) ∙ sym b.value_is)

pub one_pattern : OnePattern
one_pattern v w spelling a b =
    a.literals_are ∙ (ap literals_of (same_body a.is b.is (one_body a.body b.body (sym a.spelled ∙ b.spelled))) ∙ sym b.literals_are)
