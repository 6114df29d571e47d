use Rattle.std.proofs.Common.{◌+◌, drop, get_or, string_bytes, subst, ℕ, List}
use Rattle.std.proofs.lemmas.Result.{err_from_is_err_and}
use Rattle.plain.specs.AllocationErrors.{OrNoMemory}
use Rattle.schema_decisions.specs.answer_lines.Refusals.{no_memory}
use Rattle.site_loading.specs.Loads.{policy_puts}
use Rattle.site_loading.proofs.LoadLemmas.{words, nows, none, next_puts}
use Rattle.site.specs.SiteViews.{schema_of, store_in}
use Rattle.site_loading.specs.Puts.{policy_put, Accepts, RefusesAt}
use Rattle.site_loading.proofs.PutLemmas.{steps, stops, accepts_same, refuses_same, same_on}
use Rattle.site_loading.proofs.policies.put_each.Goals as goal

pub returns-in_err-put_policy-clause-refused : goal.returns-in_err-put_policy-clause-refused
returns-in_err-put_policy-clause-refused c =
    let a = c.args.site.now in
    let b = c.loop-place.site in
    let i = c.loop-place.place in
    let p = err_from_is_err_and c.from_residual.result c.from_residual.ensures.1 in
    rw (p.1, p.2) (stops (schema_of a) a.name (store_in a) (store_in b) (policy_puts (words c.args.policies.now) (nows c.args.texts.now)) (policy_puts (words (drop i c.args.policies.now)) (nows (drop i c.args.texts.now))) (policy_puts (words (drop (i + 1) c.args.policies.now)) (nows (drop (i + 1) c.args.texts.now))) i (policy_put (string_bytes c.index-policies-place.result.0) (get_or c.args.texts.now i none).now) c.in_err-put_policy.field-0.0
    (next_puts c.args.policies.now c.args.texts.now i c.index-policies-place.result c.loop-place-test.true c.requires c.index-policies-place.is) c.loop-place.invariant.along
    (refuses_same a b (policy_put (string_bytes c.index-policies-place.result.0) (get_or c.args.texts.now i none).now) (store_in b) i c.in_err-put_policy.field-0.0 c.loop-place.invariant.same (subst (λ (id : List ℕ). OrNoMemory no_memory (RefusesAt (schema_of b) b.name (store_in b) i (policy_put id (get_or c.args.texts.now i none).now)) c.in_err-put_policy.field-0.0) c.as_str.ensures.value c.in_err-put_policy.ensures.refused)))

pub loop-place-preserved : goal.loop-place-preserved
loop-place-preserved c =
    let a = c.args.site.now in
    let b = c.loop-place.site in
    let d = c.put_policy.new.site in
    let i = c.loop-place.place in
    record {
      same = same_on a b d c.loop-place.invariant.same c.put_policy.ensures.same;
      along = steps (schema_of a) a.name (store_in a) (store_in b) (store_in d) (policy_puts (words c.args.policies.now) (nows c.args.texts.now)) (policy_puts (words (drop i c.args.policies.now)) (nows (drop i c.args.texts.now))) (policy_puts (words (drop (i + 1) c.args.policies.now)) (nows (drop (i + 1) c.args.texts.now))) i (policy_put (string_bytes c.index-policies-place.result.0) (get_or c.args.texts.now i none).now)
          (next_puts c.args.policies.now c.args.texts.now i c.index-policies-place.result c.loop-place-test.true c.requires c.index-policies-place.is) c.loop-place.invariant.along
          (accepts_same a b (policy_put (string_bytes c.index-policies-place.result.0) (get_or c.args.texts.now i none).now) (store_in b) (store_in d) c.loop-place.invariant.same (subst (λ (id : List ℕ). Accepts (schema_of b) b.name (store_in b) (policy_put id (get_or c.args.texts.now i none).now) (store_in d)) c.as_str.ensures.value c.in_ok-put_policy.ensures.accepted));
    }
