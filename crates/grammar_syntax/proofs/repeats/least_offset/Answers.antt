use Rattle.std.proofs.Common.{◌++◌, ◌∷◌, [], sym, subst, take, get_or, ◌∙◌, refl}
use Rattle.std.proofs.lemmas.List.{take_all}
use Rattle.grammar_syntax.specs.Repeats.{NameAt, IsRepeatedAt, ReportsLeast, abstract_names}
use Rattle.grammar_syntax.proofs.Repeating.{Seen, seen-none, seen-new, seen-again, shown-more, was_new, was_old}
use Rattle.grammar_syntax.proofs.repeats.least_offset.Goals as goal
use Rattle.grammar_syntax.proofs.repeats.least_offset.Goals.{then-not-branch, else-not-branch}

pub loop-mark-init : goal.loop-mark-init
loop-mark-init c = seen-none c.new-seen.result c.new-seen.ensures.empty

pub loop-mark-preserved : goal.loop-mark-preserved
loop-mark-preserved c =
    let mark = get_or c.args.marks.now c.loop-mark.mark-index (record { name = record { ref_ptr = (0, 0); now = [] }; at = 0 }) in
    let more = shown-more c.args.marks.now c.loop-mark.mark-index (record { name = record { ref_ptr = (0, 0); now = [] }; at = 0 }) c.loop-mark-test.true in
    let passed = abstract_names (take c.loop-mark.mark-index c.args.marks.now) in
    let m : NameAt = record { name = mark.name.now; at = mark.at } in
    let updates = c.in_ok-insert.ensures.updates in
    let added = c.in_ok-insert.ensures.added in
    subst (λ ms. Seen ms c.insert.new.self c.if-not-branch.least) (sym more) (elim c.if-not-branch.branch [
      | then-not-branch w ↦
          subst (Seen (passed ++ m ∷ []) c.insert.new.self) (sym (w.least-is ∙ w.lesser-least.ensures))
          (seen-again passed m mark.name c.loop-mark.seen c.insert.new.self c.loop-mark.least c.loop-mark.invariant refl (was_old _ _ w.if-not-branch.true added) updates)
      | else-not-branch w ↦
          subst (Seen (passed ++ m ∷ []) c.insert.new.self) (sym w.least-is)
          (seen-new passed m mark.name c.loop-mark.seen c.insert.new.self c.loop-mark.least c.loop-mark.invariant refl (was_new _ _ w.if-not-branch.false added) updates)
    ])

pub returns : goal.returns
returns c = subst (λ ms. ReportsLeast (IsRepeatedAt (abstract_names ms)) c.loop-mark.least) (take_all _ c.args.marks.now c.loop-mark-test.false) c.loop-mark.invariant.tells
