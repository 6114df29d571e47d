use Rattle.std.proofs.Common.{List, ℕ, subst, sym, Bor}
use Rattle.schema_decisions.specs.decision_texts.Decisions.{ArePoliciesOf}
use Rattle.policy_grammar.specs.Cuts.{AreTextsOf}
use Rattle.site.specs.SiteViews.{schema_of, store_in}
use Rattle.site_loading.proofs.LoadLemmas.{Files, words, cores, nows, as_many_there, policies_loaded, policies_refused}
use Rattle.site_loading.proofs.policies.load_policies.Goals as goal

pub put_each-requires : goal.put_each-requires
put_each-requires c =
    let bytes = c.args.bytes.now in
    let file = subst (λ (x : Files). ArePoliciesOf bytes (words x) (cores x)) (sym c.deref.ensures.value) c.in_ok-policies.ensures.read in
    let cut = subst (λ (x : List (Bor (List ℕ))). AreTextsOf bytes (nows x)) (sym c.deref-2.ensures.value) c.in_ok-texts.ensures in
    as_many_there c.files_are_cut_by_policies.ensures.as_many bytes c.deref.result.now c.deref-2.result.now file cut

pub returns-clause-loaded : goal.returns-clause-loaded
returns-clause-loaded c =
    let bytes = c.args.bytes.now in
    let file = subst (λ (x : Files). ArePoliciesOf bytes (words x) (cores x)) (sym c.deref.ensures.value) c.in_ok-policies.ensures.read in
    let cut = subst (λ (x : List (Bor (List ℕ))). AreTextsOf bytes (nows x)) (sym c.deref-2.ensures.value) c.in_ok-texts.ensures in
    policies_loaded c.files_are_cut_by_policies.ensures.as_many (schema_of c.args.site.now) c.args.site.now.name (store_in c.args.site.now) (store_in c.put_each.new.site) bytes
    c.deref.result.now c.deref-2.result.now c.put_each.result file cut c.put_each.ensures.accepted

pub returns-clause-refused : goal.returns-clause-refused
returns-clause-refused c =
    let bytes = c.args.bytes.now in
    let file = subst (λ (x : Files). ArePoliciesOf bytes (words x) (cores x)) (sym c.deref.ensures.value) c.in_ok-policies.ensures.read in
    let cut = subst (λ (x : List (Bor (List ℕ))). AreTextsOf bytes (nows x)) (sym c.deref-2.ensures.value) c.in_ok-texts.ensures in
    policies_refused c.files_are_cut_by_policies.ensures.as_many (schema_of c.args.site.now) c.args.site.now.name (store_in c.args.site.now) bytes
    c.deref.result.now c.deref-2.result.now c.put_each.result file cut c.put_each.ensures.refused
