use Rattle.std.proofs.Common.{◌≡◌, ◌∷◌, map, take}
use Rattle.plain.specs.Words.{AreIdents}
use Rattle.grammar_syntax.specs.Lexing.{spelling_of}
use Rattle.grammar_desugaring.proofs.words.words_of.Given as goal

-- the words up to here
abbrev pub invariant-loop-word : goal.invariant-loop-word
invariant-loop-word l =
    (map (λ w. w.now) l.words.items ≡ spelling_of l.text l.path.first ∷ map (spelling_of l.text) (take l.word-index l.word-items)) × AreIdents (map (λ w. w.now) l.words.items)
