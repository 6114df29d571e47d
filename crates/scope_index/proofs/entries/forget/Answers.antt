use Rattle.std.proofs.Common.{◌∙◌, sym, subst, None}
use Rattle.std.proofs.lemmas.Map.Text.{btree_map_updates_text}
use Rattle.policy_grammar.specs.declared.policy.Scope.{Scope}
use Rattle.scope_index.specs.Keys.{index_key}
use Rattle.scope_index.specs.Buckets.{IsSetAtKey}
use Rattle.scope_index.proofs.Filing.{forgotten}
use Rattle.scope_index.proofs.entries.forget.Goals as goal

pub returns-in-Some-clause-gone : goal.returns-in-Some-clause-gone
returns-in-Some-clause-gone c =
    btree_map_updates_text c.args.id.now c.args.kept.now c.remove.new.self None c.remove.ensures.updates

pub returns-in-Some-clause-filed : goal.returns-in-Some-clause-filed
returns-in-Some-clause-filed c =
    forgotten c.args.kept.now.entries c.remove.new.self.entries c.args.buckets.now c.take.new.buckets c.args.id.now c.requires
    c.in-Some.policy (sym c.remove.ensures.value ∙ c.in-Some.is)
    (btree_map_updates_text c.args.id.now c.args.kept.now c.remove.new.self None c.remove.ensures.updates)
    (subst (λ (s : Scope). IsSetAtKey (index_key s) c.args.id.now None c.args.buckets.now c.take.new.buckets) c.deref.ensures c.take.ensures)
