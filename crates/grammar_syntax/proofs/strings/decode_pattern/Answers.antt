use Rattle.std.proofs.Common.{◌++◌, List, ℕ, None, Some, arith, sym, ◌∙◌, ap}
use Rattle.std.proofs.lemmas.Str.{encode_ascii, IsUtf8-past_char}
use Rattle.std.proofs.lemmas.Str.Pattern.{strip_prefix_char}
use Rattle.grammar_syntax.proofs.Between.{body_in}
use Rattle.grammar_syntax.proofs.Patterns.{start_split, no_wildcard, split_more, pattern_of}
use Rattle.grammar_syntax.proofs.strings.decode_pattern.Goals as goal

pub loop-literals-init : goal.loop-literals-init
loop-literals-init c =
    let b = body_in _ _ _ c.requires.spelled.is c.requires.string c.body-rest.ensures in
    (c.body-rest.utf8, start_split _ _ _ c.new-literals.ensures.items b.is)

pub range_from-requires : goal.range_from-requires
range_from-requires c _ = c.in_ok-value.ensures.read.boundary

pub returns-in_default : goal.returns-in_default
returns-in_default c =
    let literal = c.in_ok-value.ensures in
    let rest = c.range_from.ensures.value in
    let none = strip_prefix_char 42 _ None c.in_default.ensures.cases (omega arith) in
    pattern_of _ _ _ _ _ _ _ c.body-rest.ensures literal (no_wildcard _ literal.ends (λ more e. none more (rest ∙ e))) c.in_ok-push.ensures.items c.loop-literals.invariant.1

pub loop-literals-preserved : goal.loop-literals-preserved
loop-literals-preserved c =
    let some = strip_prefix_char 42 _ (Some c.in-Some.behind) c.in-Some.ensures.cases (omega arith) in (
      IsUtf8-past_char _ _ 42 c.range_from.utf8 (some ∙ ap (λ (x : List ℕ). x ++ c.in-Some.behind.now) (sym (encode_ascii 42 (omega arith)))),
      split_more _ _ _ _ _ _ _ c.in_ok-value.ensures (sym c.range_from.ensures.value ∙ some) c.in_ok-push.ensures.items c.loop-literals.invariant.1,
    )
