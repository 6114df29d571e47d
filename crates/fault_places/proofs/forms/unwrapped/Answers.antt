use Rattle.std.proofs.Common.{sym, ap, ◌∙◌, drop}
use Rattle.fault_places.specs.Forms.{depth, peeled}
use Rattle.fault_places.proofs.Peeling.{peeled-inner, dropped-inner, depth-other, formed}
use Rattle.fault_places.proofs.forms.unwrapped.Goals as goal

pub loop-tree-preserved : goal.loop-tree-preserved
loop-tree-preserved c =
    let x = c.loop-tree.tree.now in
    let inner = c.in-Parentheses.inner in (
      ap (λ y. peeled (depth y) y) c.deref-tree.ensures ∙ peeled-inner x inner c.in-Parentheses.is ∙ c.loop-tree.invariant.0,
      ap (λ y. drop (depth y) c.skip-tokens.result.now) c.deref-tree.ensures
          ∙ dropped-inner x inner c.loop-tree.tokens.now c.skip-tokens.result.now c.in-Parentheses.is c.skip-tokens.ensures ∙ c.loop-tree.invariant.1,
    )

pub returns : goal.returns
returns c =
    let x = c.loop-tree.tree.now in
    let none = depth-other x c.in_default.not-Parentheses in
    formed _ _ _ _ c.args.form.now.part (sym (ap (λ n. peeled n x) none) ∙ c.loop-tree.invariant.0)
    (sym (ap (λ n. drop n c.loop-tree.tokens.now) none) ∙ c.loop-tree.invariant.1)
