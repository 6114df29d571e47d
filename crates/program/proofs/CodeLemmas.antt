-- The words on the code that a word is.
use Rattle.std.proofs.Common.{◌≡◌, ◌∙◌, ℕ, false, List, Option, None, Some, is_some, option_map, MatchOption, Bor, sym, subst}
use Rattle.explanations.specs.declared.table.CodeWords.{CodeWords}
use Rattle.explanations.specs.Codes.{is_code}
use Rattle.explanations.specs.CodeText.{texts_of, words_on}
use Rattle.program.specs.ExplainCommand.{IsSmallNumeral, IsSmallNumber, AreWordsOn, IsNoCode}

pub no_numeral : (word : List ℕ) → (IsSmallNumeral word → ⊥) → IsNoCode word
no_numeral word lacks n h = absurd (lacks h.0)

pub words_found : (word : List ℕ) (n : ℕ) (o : Option (Bor (CodeWords (Bor (List ℕ))))) → IsSmallNumber word n → option_map (λ w. texts_of w.now) o ≡ words_on n → is_some o ≡ is_code n
    → MatchOption o (IsNoCode word) (λ w. AreWordsOn word (texts_of w.now))
words_found word n None h found known = λ m g. subst (λ (k : ℕ). is_code k ≡ false) (h.1 ∙ sym g.1) (sym known)
words_found word n (Some w) h found known = (n, h, sym found)
