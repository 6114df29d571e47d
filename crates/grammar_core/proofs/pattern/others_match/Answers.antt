use Rattle.std.proofs.Common.{ℕ, ◌+◌, ◌++◌, List, [], ◌∷◌, sym, subst, arith, drop}
use Rattle.std.specs.Str.{IsUtf8}
use Rattle.grammar_core.proofs.FirstPlaces.{Tail, Anything, tail_from_joins, joins_from_tail, weaker, lacks, behind, after_is_text, in_front, literals_left, none_left, ends_is}
use Rattle.grammar_core.proofs.pattern.others_match.Goals as goal

pub returns-in_default : goal.returns-in_default
returns-in_default c =
    let left = literals_left c.args.middle.now c.loop-literal.literal-index c.literal-item.result c.as_str.result.now c.loop-literal-test.true c.literal-item.is c.as_str.ensures in
    let more = drop (c.loop-literal.literal-index + 1) c.args.middle.now in (
      λ e. absurd (cc),
      λ m. absurd (lacks c.as_str.result.now (more ++ c.args.last.now ∷ []) c.loop-literal.rest.now c.in_default.ensures.cases
          (subst (λ (runs : List (List ℕ)). Tail Anything (runs ++ c.args.last.now ∷ []) c.loop-literal.rest.now) left
          (c.loop-literal.invariant.complete (weaker _ _ (tail_from_joins _ _ m))))),
    )

pub loop-literal-preserved : goal.loop-literal-preserved
loop-literal-preserved c =
    let left = literals_left c.args.middle.now c.loop-literal.literal-index c.literal-item.result c.as_str.result.now c.loop-literal-test.true c.literal-item.is c.as_str.ensures in
    let more = drop (c.loop-literal.literal-index + 1) c.args.middle.now in
    let cut = c.in-Some.ensures.cases in
    record {
      text = after_is_text c.as_str.result.now c.loop-literal.rest.now c.in-Some.after.now cut.0 cut.1 cut.2 cut.4 c.loop-literal.invariant.text;
      sound = λ m. c.loop-literal.invariant.sound
          (subst (λ (runs : List (List ℕ)). Tail IsUtf8 (runs ++ c.args.last.now ∷ []) c.loop-literal.rest.now) (sym left)
          (in_front c.as_str.result.now (more ++ c.args.last.now ∷ []) c.loop-literal.rest.now c.in-Some.after.now cut.0 cut.1 cut.2 (omega arith) cut.4 c.as_str.utf8 c.loop-literal.invariant.text m));
      complete = λ m. subst (Tail Anything (more ++ c.args.last.now ∷ [])) (sym cut.4)
          (behind c.as_str.result.now c.args.last.now more c.loop-literal.rest.now cut.0 cut.1 cut.2
          (subst (λ (runs : List (List ℕ)). Tail Anything (runs ++ c.args.last.now ∷ []) c.loop-literal.rest.now) left (c.loop-literal.invariant.complete m)));
    }

pub returns : goal.returns
returns c =
    let left = none_left c.args.middle.now c.loop-literal.literal-index c.loop-literal-test.false in
    let ends = ends_is c.ends_with.result c.args.last.now c.loop-literal.rest.now c.ends_with.ensures.cases c.loop-literal.invariant.text in (
      λ is. joins_from_tail _ _ (c.loop-literal.invariant.sound
          (subst (λ (runs : List (List ℕ)). Tail IsUtf8 (runs ++ c.args.last.now ∷ []) c.loop-literal.rest.now) (sym left) (ends.0 is))),
      λ m. ends.1 (subst (λ (runs : List (List ℕ)). Tail Anything (runs ++ c.args.last.now ∷ []) c.loop-literal.rest.now) left
          (c.loop-literal.invariant.complete (weaker _ _ (tail_from_joins _ _ m)))),
    )
