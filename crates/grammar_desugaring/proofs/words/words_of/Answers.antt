use Rattle.std.proofs.Common.{◌≡◌, ◌∙◌, ◌∷◌, map, subst}
use Rattle.std.proofs.lemmas.List.{take_all}
use Rattle.grammar_syntax.specs.Lexing.{spelling_of}
use Rattle.grammar_desugaring.proofs.Lists.{all-at}
use Rattle.grammar_desugaring.proofs.Idents.{ident-kind, words-first, words-more}
use Rattle.grammar_desugaring.proofs.words.words_of.Goals as goal

pub loop-word-init : goal.loop-word-init
loop-word-init c =
    words-first c.new-words.result.items c.push.new.self.items c.spelling.result _ c.new-words.ensures.items c.in_ok-push.ensures.items c.spelling.ensures.is
    (c.spelling.ensures.ident.0 (ident-kind _ c.requires.first.kind))

pub loop-word-preserved : goal.loop-word-preserved
loop-word-preserved c =
    let is_well_formed = rw (← c.as_slice-word-items.ensures) at c.requires.more in
    words-more c.args.text.now c.as_slice-word-items.result.now c.loop-word.word-index _ c.loop-word.words.items c.push-in-loop-word.new.self.items
    c.spelling-in-loop-word.result _ c.loop-word-test.true c.loop-word.invariant c.in_ok-push-2.ensures.items c.spelling-in-loop-word.ensures.is
    (c.spelling-in-loop-word.ensures.ident.0 (ident-kind _ (all-at _ _ c.loop-word.word-index _ is_well_formed c.loop-word-test.true).kind))

pub spelling-requires : goal.spelling-requires
spelling-requires c = c.requires.first.spelled

pub spelling-requires-in-loop-word : goal.spelling-requires-in-loop-word
spelling-requires-in-loop-word c =
    let is_well_formed = rw (← c.as_slice-word-items.ensures) at c.requires.more in
    (all-at _ _ c.loop-word.word-index _ is_well_formed c.loop-word-test.true).spelled

pub returns-clause-words : goal.returns-clause-words
returns-clause-words c =
    subst (λ ws. map (λ w. w.now) c.loop-word.words.items ≡ spelling_of c.args.text.now c.args.path.now.first ∷ map (spelling_of c.args.text.now) ws)
    (take_all _ c.as_slice-word-items.result.now c.loop-word-test.false ∙ c.as_slice-word-items.ensures) c.loop-word.invariant.0

pub returns-clause-idents : goal.returns-clause-idents
returns-clause-idents c = c.loop-word.invariant.1
