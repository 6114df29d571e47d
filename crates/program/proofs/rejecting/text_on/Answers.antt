use Rattle.std.proofs.Common.{◌≡◌, ℕ, Some, inl, subst, sym, string_bytes}
use Rattle.explanations.specs.CodeText.{code_text, texts_of, words_on}
use Rattle.program.specs.ExplainOption.{IsCodeText}
use Rattle.program.proofs.ExplainedLemmas.{ok_as}
use Rattle.program.proofs.rejecting.text_on.Goals as goal

pub returns-in-Some : goal.returns-in-Some
returns-in-Some c =
    let texts = texts_of c.in-Some.words.now in
    let found = subst (λ (n : ℕ). words_on n ≡ Some texts) c.from.ensures (sym c.in-Some.ensures.found) in
    ok_as c.code_text.result (λ text. string_bytes text ≡ code_text texts) (λ text. IsCodeText c.args.code (string_bytes text))
    (λ text is. inl (texts, found, is)) c.code_text.ensures
