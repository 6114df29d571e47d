use Rattle.std.proofs.Common.{◌≡◌, ◌∙◌, ◌++◌, ap, sym, subst, map, List}
use Rattle.std.specs.Prelude.{ℕ, cond}
use Rattle.std.specs.Map.Iter.{deref_pair}
use Rattle.std.specs.Borrow.{Bor}
use Rattle.std.specs.declared.alloc.Global.{Global}
use Rattle.std.specs.declared.string.String.{String}
use Rattle.scope_index.specs.policy_grammar.declared.policy.Policy.{Policy}
use Rattle.stamped_store.specs.declared.entry.Entry.{Entry}
use Rattle.std.specs.Str.{bytes_eq}
use Rattle.scope_index.specs.Keys.{kept_at}
use Rattle.site_store.specs.Indexed.{policy_in, AreIndexed, PolicyEntries}
use Rattle.site_store.specs.inner.IndexUpdating.{noted}
use Rattle.site_store.proofs.Follows.{one_entry_more, pushed, still_rest}
use Rattle.site_store.proofs.index.index_of.Goals as goal

pub loop-id-preserved : goal.loop-id-preserved
loop-id-preserved g c =
    let x : Bor (String Global) × Bor (Entry Policy) = (c.in-Some.id, c.in-Some.entry) in
    let ys = map deref_pair c.loop-id.yielded in
    let steps = c.in-Some.ensures.steps in
    let all = ap (λ l. ys ++ l) (sym steps) ∙ c.loop-id.invariant.rest in
    record {
      rest = still_rest c.loop-id.yielded x c.next.new.self c.args.store.now.policies all;
      indexed = subst (λ (es : PolicyEntries). AreIndexed es c.add_entry.new.index) (sym (pushed c.loop-id.yielded x))
          (one_entry_more ys (deref_pair x) c.next.new.self c.args.store.now.policies c.loop-id.index c.add_entry.new.index all
          c.policies-id-items.ensures.ordered c.loop-id.invariant.indexed
          (subst (λ b. (q : List ℕ) → kept_at c.add_entry.new.index q ≡ cond (bytes_eq b q) (noted (policy_in c.in-Some.entry.now) (kept_at c.loop-id.index q)) (kept_at c.loop-id.index q))
          c.as_str.ensures.value c.in_ok-add_entry.ensures));
    }
