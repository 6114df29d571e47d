use Rattle.std.proofs.Common.{◌∙◌, sym, subst, Some, None}
use Rattle.std.specs.Prelude.{string_bytes}
use Rattle.std.proofs.lemmas.Map.Text.{btree_map_updates_text}
use Rattle.policy_grammar.specs.declared.policy.Policy.{Policy}
use Rattle.policy_grammar.specs.declared.policy.Scope.{Scope}
use Rattle.scope_index.specs.Keys.{index_key}
use Rattle.scope_index.specs.Buckets.{IsSetAtKey, AreSameBuckets}
use Rattle.scope_index.proofs.Filing.{entered, undone, still_filed, on_ok, on_err, of_ok, of_err, let_in}
use Rattle.scope_index.proofs.entries.enter.Goals as goal

pub returns-else-is_err-clause-filed : goal.returns-else-is_err-clause-filed
returns-else-is_err-clause-filed c =
    let p = c.args.policy.now in
    let b = c.args.buckets.now in
    let b' = c.put-filed.new.buckets in
    let at = let_in c.args.kept.now.entries c.insert.new.self.entries c.args.own.0 c.args.id.now c.args.own.1 p c.requires.own_id c.requires.own_share
    (btree_map_updates_text (string_bytes c.args.own.0) c.args.kept.now c.insert.new.self (Some c.args.own.1) c.in_ok-insert.ensures.updates) in
    let put = of_ok c.put-filed.result _ (sym c.if-is_err.ensures.value) c.put-filed.ensures.ok in
    let by_scope = subst (λ (s : Scope). IsSetAtKey (index_key s) (string_bytes c.args.second.0) (Some c.args.second.1) b b') c.deref.ensures put in
    let turns : IsSetAtKey (index_key p.scope) c.args.id.now (Some p) b b' =
    subst (λ (x : Policy). IsSetAtKey (index_key p.scope) c.args.id.now (Some x) b b') c.requires.second_share
    (subst (λ i. IsSetAtKey (index_key p.scope) i (Some c.args.second.1) b b') c.requires.second_id by_scope) in
    entered c.args.kept.now.entries c.insert.new.self.entries b b' c.args.id.now c.requires.filed p c.requires.absent at turns

pub returns-else-is_err-clause-ok : goal.returns-else-is_err-clause-ok
returns-else-is_err-clause-ok c =
    on_ok c.put-filed.result _
    (let_in c.args.kept.now.entries c.insert.new.self.entries c.args.own.0 c.args.id.now c.args.own.1 c.args.policy.now c.requires.own_id c.requires.own_share
    (btree_map_updates_text (string_bytes c.args.own.0) c.args.kept.now c.insert.new.self (Some c.args.own.1) c.in_ok-insert.ensures.updates))

pub returns-then-is_err-clause-filed : goal.returns-then-is_err-clause-filed
returns-then-is_err-clause-filed c =
    let p = c.args.policy.now in
    let at = let_in c.args.kept.now.entries c.insert.new.self.entries c.args.own.0 c.args.id.now c.args.own.1 p c.requires.own_id c.requires.own_share
    (btree_map_updates_text (string_bytes c.args.own.0) c.args.kept.now c.insert.new.self (Some c.args.own.1) c.in_ok-insert.ensures.updates) in
    let same : AreSameBuckets c.args.buckets.now c.put-filed.new.buckets =
    of_err c.put-filed.result _ (sym c.is_err.ensures.value ∙ c.if-is_err.true) c.put-filed.ensures.err in
    still_filed c.args.kept.now.entries c.remove.new.self.entries c.args.buckets.now c.put-filed.new.buckets c.requires.filed
    (undone c.args.kept.now.entries c.insert.new.self.entries c.remove.new.self.entries c.args.id.now p c.requires.absent at
    (btree_map_updates_text c.args.id.now c.insert.new.self c.remove.new.self None c.remove.ensures.updates)) same

pub returns-then-is_err-clause-err : goal.returns-then-is_err-clause-err
returns-then-is_err-clause-err c =
    let p = c.args.policy.now in
    let at = let_in c.args.kept.now.entries c.insert.new.self.entries c.args.own.0 c.args.id.now c.args.own.1 p c.requires.own_id c.requires.own_share
    (btree_map_updates_text (string_bytes c.args.own.0) c.args.kept.now c.insert.new.self (Some c.args.own.1) c.in_ok-insert.ensures.updates) in
    on_err c.put-filed.result _
    (undone c.args.kept.now.entries c.insert.new.self.entries c.remove.new.self.entries c.args.id.now p c.requires.absent at
    (btree_map_updates_text c.args.id.now c.insert.new.self c.remove.new.self None c.remove.ensures.updates))
