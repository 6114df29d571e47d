use Rattle.std.proofs.Common.{◌≡◌, ℕ, List, false, refl, sym}
use Rattle.std.proofs.lemmas.Bool.{false_from_ne_true}
use Rattle.std.proofs.lemmas.Slice.Eq.{bytes_eq-Decides}
use Rattle.std.specs.Str.{bytes_eq}
use Rattle.grammar_syntax.specs.Lexing.{kind_of_word}
use Rattle.grammar_syntax.proofs.words.word_kind.Goals as goal

differs : (s w : List ℕ) → (w ≡ s → ⊥) → bytes_eq s w ≡ false
differs s w n = false_from_ne_true (bytes_eq s w) (λ e. n (sym ((bytes_eq-Decides s w).0 e)))

-- A word that is none of the listed ones is an identifier.
pub returns-in_default : goal.returns-in_default
unfolding kind_of_word
returns-in_default c =
    let n = c.in_default in
    rw (
      differs _ _ n.not-true,
      differs _ _ n.not-false,
      differs _ _ n.not-if,
      differs _ _ n.not-then,
      differs _ _ n.not-else,
      differs _ _ n.not-in,
      differs _ _ n.not-is,
      differs _ _ n.not-like,
      differs _ _ n.not-has,
      differs _ _ n.not-text,
      differs _ _ n.not-permit,
      differs _ _ n.not-forbid,
      differs _ _ n.not-when,
      differs _ _ n.not-unless,
      differs _ _ n.not-principal,
      differs _ _ n.not-action,
      differs _ _ n.not-resource,
      differs _ _ n.not-context,
    ) refl
