-- Parentheses round a form.
use Rattle.std.proofs.Common.{◌≡◌, ℕ, suc, ◌+◌, refl, ap, ◌∙◌, sym, List, drop, arith}
use Rattle.std.proofs.lemmas.List.{drop-drop}
use Rattle.grammar_syntax.specs.declared.token.Token.{Token}
use Rattle.grammar_syntax.specs.declared.tree.ExprTree.{ExprTree, out-ExprTree, roll-ExprTree, roll-out-ExprTree, map-ExprTree}
use Rattle.grammar_syntax.specs.declared.tree.ExprTree.{fold_out-ExprTree}
use Rattle.grammar_syntax.specs.declared.tree.ExprTree.TheVariants as t
use Rattle.grammar_syntax.specs.declared.tree.ExprTree.TheOpen.{ExprTree-F as tree}
use Rattle.grammar_syntax.specs.declared.tree.ExprTree.TheFolds.{fold-roll-ExprTree}
use Rattle.fault_places.specs.declared.forms.FormNode.{FormNode}
use Rattle.fault_places.specs.Forms.{Form, depth, depth_step, inside, peeled}

pub depth-Parentheses : (a : ExprTree) → depth (t.Parentheses a) ≡ suc (depth a)
depth-Parentheses a = ap depth (sym (t.rolls-Parentheses a)) ∙ fold-roll-ExprTree ℕ depth_step (tree.Parentheses a)

-- one pair less
pub peeled-inner : (x a : ExprTree) → x ≡ t.Parentheses a → peeled (depth a) a ≡ peeled (depth x) x
peeled-inner x a is =
    sym (ap (λ y. peeled (depth y) y) is ∙ ap (λ n. peeled n (t.Parentheses a)) (depth-Parentheses a)
    ∙ ap (λ y. peeled (depth a) (inside y (t.Parentheses a))) (t.outs-Parentheses a))

pub dropped-inner : (x a : ExprTree) (ts us : List Token) → x ≡ t.Parentheses a → us ≡ drop 1 ts → drop (depth a) us ≡ drop (depth x) ts
dropped-inner x a ts us is past =
    ap (drop (depth a)) past ∙ drop-drop (depth a) 1 ts
    ∙ ap (λ n. drop n ts) (let e : 1 + depth a ≡ suc (depth a) = omega arith in e ∙ sym (depth-Parentheses a) ∙ ap depth (sym is))

-- no pair
no_pair : (one : tree ExprTree) → ((a : ExprTree) → one ≡ tree.Parentheses a → ⊥) → depth_step (map-ExprTree ExprTree ℕ depth one) ≡ 0
no_pair (tree.Parentheses a) other = absurd (other a refl)
no_pair one other = refl

pub depth-other : (x : ExprTree) → ((a : ExprTree) → x ≡ t.Parentheses a → ⊥) → depth x ≡ 0
depth-other x other =
    fold_out-ExprTree ℕ depth_step x
    ∙ no_pair (out-ExprTree x) (λ a h. other a (sym (roll-out-ExprTree x) ∙ ap roll-ExprTree h ∙ t.rolls-Parentheses a))

-- forms of equal parts
abbrev made : ExprTree → FormNode → List Token → Form
made x p ts = record { tree = x; part = p; tokens = ts }

pub formed : (x y : ExprTree) (ts us : List Token) (p : FormNode) → x ≡ y → ts ≡ us
    → ◌≡◌ {A = Form} (record { tree = x; part = p; tokens = ts }) (record { tree = y; part = p; tokens = us })
formed x y ts us p e f = ap (λ z. made z p ts) e ∙ ap (made y p) f
