-- The trees of a scope's parts count the tokens that derive them.
use Rattle.std.proofs.Common.{◌≡◌, ℕ, ◌+◌, length, refl, ap, arith}
use Rattle.grammar_syntax.specs.declared.token.TokenKind.{TokenKind}
use Rattle.grammar_syntax.specs.declared.token.TokenKind.TheVariants as k
use Rattle.grammar_syntax.specs.Kinds.{only}
use Rattle.grammar_parsing.specs.declared.tree.PartTree.{PartTree}
use Rattle.grammar_parsing.specs.declared.tree.PartTree.TheVariants as part
use Rattle.grammar_parsing.specs.declared.tree.ActionTree.{ActionTree}
use Rattle.grammar_parsing.specs.declared.tree.ActionTree.TheVariants as action
use Rattle.grammar_parsing.specs.Grammar as p
use Rattle.fault_places.specs.TokenCounts.{path_count, uid_count, lone_count}
use Rattle.fault_places.proofs.Dropping.{length-mapped}
use Rattle.fault_places.specs.Places.{part_count, action_count}
use Rattle.fault_places.proofs.LanguageCounts.{Fits, By, nothing_fits, both_fits, past_fits, giving_fits, or_fits, optional_fits, path_fits, uid_fits}
use Rattle.fault_places.proofs.ExpressionCounts.{Row, list_fits}

-- behind the variable's word
abbrev Behind : PartTree → ℕ → Type 0
Behind x n = 1 + n ≡ part_count x

test_fits : Fits p.type_test Behind
test_fits =
    past_fits (only k.Is) Behind
    (both_fits (By path_count) (λ x m. 1 + (1 + m) ≡ part_count x) path_fits
    (λ name n h. both_fits (λ o m. 1 + (1 + (n + m)) ≡ part_count (p.is_in name o)) (λ x m. 1 + (1 + (n + m)) ≡ part_count x)
    (optional_fits p.in_uid (λ o m. 1 + (1 + (n + m)) ≡ part_count (p.is_in name o)) (omega arith)
    (past_fits (only k.In) (λ uid m. 1 + (1 + (n + m)) ≡ part_count (part.IsIn name uid))
    (λ ts uid d. let u : length ts ≡ uid_count uid = uid_fits ts uid d in omega arith)))
    (λ o m i. nothing_fits (λ x j. 1 + (1 + (n + (m + j))) ≡ part_count x) (p.is_in name o) (omega arith))))

entity_fits : Fits p.entity_constraint Behind
entity_fits =
    or_fits Behind
    (giving_fits (λ uid m. m ≡ 1 + uid_count uid) Behind part.Equal
    (past_fits (only k.Equal) (λ uid m. m ≡ 1 + uid_count uid) (λ ts uid d. let u : length ts ≡ uid_count uid = uid_fits ts uid d in omega arith))
    (λ uid n h. omega arith))
    (or_fits Behind
    (giving_fits (λ uid m. m ≡ 1 + uid_count uid) Behind part.In
    (past_fits (only k.In) (λ uid m. m ≡ 1 + uid_count uid) (λ ts uid d. let u : length ts ≡ uid_count uid = uid_fits ts uid d in omega arith))
    (λ uid n h. omega arith))
    (or_fits Behind test_fits (nothing_fits Behind part.Any refl)))

pub part_fits : (kind : TokenKind) → Fits (p.entity_part kind) (By part_count)
part_fits kind = past_fits (only kind) (By part_count) entity_fits

abbrev BehindAction : ActionTree → ℕ → Type 0
BehindAction x n = 1 + n ≡ action_count x

list_of_fits : Fits p.uid_list (λ x n. 2 + n ≡ action_count x)
list_of_fits =
    past_fits (only k.LBracket) (λ x n. 2 + n ≡ action_count x)
    (both_fits (Row uid_count) (λ x n. 2 + (1 + n) ≡ action_count x) (list_fits p.uid uid_count uid_fits)
    (λ uids n row. past_fits (only k.RBracket) (λ x m. 2 + (1 + (n + m)) ≡ action_count x)
    (nothing_fits (λ x m. 2 + (1 + (n + (1 + m))) ≡ action_count x) (action.InList uids)
    (let e = ap lone_count (length-mapped uid_count uids) in omega arith))))

constraint_fits : Fits p.action_constraint BehindAction
constraint_fits =
    or_fits BehindAction
    (giving_fits (λ uid m. m ≡ 1 + uid_count uid) BehindAction action.Equal
    (past_fits (only k.Equal) (λ uid m. m ≡ 1 + uid_count uid) (λ ts uid d. let u : length ts ≡ uid_count uid = uid_fits ts uid d in omega arith))
    (λ uid n h. omega arith))
    (or_fits BehindAction
    (past_fits (only k.In) BehindAction
    (or_fits (λ x n. 1 + (1 + n) ≡ action_count x) (λ ts x d. let h : 2 + length ts ≡ action_count x = list_of_fits ts x d in omega arith)
    (giving_fits (By uid_count) (λ x n. 1 + (1 + n) ≡ action_count x) action.In uid_fits (λ uid n h. omega arith))))
    (nothing_fits BehindAction action.Any refl))

pub action_fits : Fits p.action_part (By action_count)
action_fits = past_fits (only k.Action) (By action_count) constraint_fits
