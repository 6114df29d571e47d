use Rattle.std.proofs.Common.{◌≡◌, ◌⊎◌, inl, inr, ◌+◌, sym, ap, ◌∙◌, drop, length, List, map, arith}
use Rattle.grammar_syntax.specs.declared.name_trees.UidTree.{UidTree}
use Rattle.grammar_parsing.specs.declared.tree.ActionTree.{ActionTree}
use Rattle.grammar_parsing.specs.declared.tree.ActionTree.TheVariants.{Equal, In, InList}
use Rattle.fault_places.specs.TokenCounts.{uid_count, each_count, lone_count}
use Rattle.fault_places.proofs.Dropping.{twice, length-mapped}
use Rattle.fault_places.specs.Places.{action_count}
use Rattle.fault_places.proofs.parts.tokens_after_action.Goals as goal

as_listed : (uids : List UidTree) → (3 + lone_count (length uids)) + each_count (map uid_count uids) ≡ action_count (InList uids)
as_listed uids = let e = ap lone_count (length-mapped uid_count uids) in omega arith

of_uid : (x : ActionTree) (uid : UidTree) → x ≡ Equal uid ⊎ x ≡ In uid → action_count x ≡ 2 + uid_count uid
of_uid x uid (inl is) = ap action_count is
of_uid x uid (inr is) = ap action_count is

pub returns-in-Equal : goal.returns-in-Equal
returns-in-Equal c =
    twice c.args.tokens.now c.skip-in-Equal.result.now c.tokens_after_uid.result.now 2 (uid_count c.in-Equal.uid) c.skip-in-Equal.ensures c.tokens_after_uid.ensures
    ∙ ap (λ k. drop k c.args.tokens.now) (sym (of_uid c.args.part.now c.in-Equal.uid c.in-Equal.is))

pub returns-in-InList : goal.returns-in-InList
returns-in-InList c =
    let uids = c.in-InList.uids in
    let n = lone_count (length uids) in
    let row = twice c.args.tokens.now c.skip-in-InList.result.now c.tokens_after_opened-row.result.now 3 n c.skip-in-InList.ensures
    (c.tokens_after_opened-row.ensures ∙ ap (λ k. drop (lone_count k) c.skip-in-InList.result.now) c.len.ensures) in
    twice c.args.tokens.now c.tokens_after_opened-row.result.now c.tokens_after_uids.result.now (3 + n) (each_count (map uid_count uids)) row
    (c.tokens_after_uids.ensures ∙ ap (λ us. drop (each_count (map uid_count us)) c.tokens_after_opened-row.result.now) c.as_slice.ensures)
    ∙ ap (λ k. drop k c.args.tokens.now) (as_listed uids)
    ∙ ap (λ p. drop (action_count p) c.args.tokens.now) (sym c.in-InList.is)
