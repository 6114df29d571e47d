use Rattle.std.proofs.Common.{◌≡◌, ◌∙◌, ◌-◌, ap, ℕ, List, drop, take, map, length, slice_get}
use Rattle.std.specs.Option.{option_map}
use Rattle.grammar_syntax.specs.declared.token.Token.{Token}
use Rattle.grammar_syntax.specs.declared.tree.ExprTree.{ExprTree}
use Rattle.fault_places.specs.TokenCounts.{tree_count, each_count}
use Rattle.fault_places.specs.Forms.{form_of, whole, kept, row_at, piece_at}
use Rattle.fault_places.proofs.Dropping.{swapped}
use Rattle.fault_places.proofs.Opening.{chain-second}
use Rattle.fault_places.proofs.forms.chain_operand.Goals as goal

row_is_piece : (a : ExprTree) (more : List ExprTree) (ts : List Token) (i : ℕ) → row_at more (drop 1 (drop (tree_count a) ts)) i ≡ piece_at a more ts i
row_is_piece a more ts i =
    ap (λ (us : List Token). option_map (λ b. whole b us) (slice_get more i)) (swapped (each_count (map tree_count (take i more))) (drop (tree_count a) ts))

pub returns-then-index-eq1 : goal.returns-then-index-eq1
returns-then-index-eq1 c =
    let a = c.args.first.now in
    let more = c.args.more.now in
    let ts = c.args.form.now.tokens.now in
    let n = kept c.args.form.now.part (length more) in
    let before = c.saturating_sub-before.result in
    let is : before ≡ n - 1 = c.saturating_sub-before.ensures ∙ ap (λ k. k - 1) (c.kept.ensures ∙ ap (kept c.args.form.now.part) c.len.ensures) in
    chain-second (form_of c.args.form.now) a (piece_at a more ts) n c.args.index before (option_map form_of c.row_operand.result) c.if-index-eq1.true is
    (c.row_operand.ensures ∙ ap (λ (us : List Token). row_at more us before) c.tokens_after_piece.ensures ∙ row_is_piece a more ts before)
