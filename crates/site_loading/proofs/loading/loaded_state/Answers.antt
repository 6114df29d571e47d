use Rattle.std.proofs.lemmas.Result.{err_from_is_err_and}
use Rattle.site_loading.proofs.LoadLemmas.{refused_behind, state_loaded}
use Rattle.site_loading.proofs.loading.loaded_state.Goals as goal

pub returns-in_err-load_entities_if_named-clause-refused : goal.returns-in_err-load_entities_if_named-clause-refused
returns-in_err-load_entities_if_named-clause-refused c =
    let p = err_from_is_err_and c.from_residual-in_err-load_entities_if_named.result c.from_residual-in_err-load_entities_if_named.ensures.1 in
    rw (p.1, p.2) (refused_behind c.args.site c.load_policies_if_named.new.site _ _ c.in_err-load_entities_if_named.field-0.0 c.load_policies_if_named.ensures.same
    c.in_ok-load_policies_if_named.ensures.loaded c.in_err-load_entities_if_named.ensures.refused)

pub returns-clause-loaded : goal.returns-clause-loaded
returns-clause-loaded c =
    state_loaded c.args.site c.load_policies_if_named.new.site c.load_entities_if_named.new.site _ _ _ c.load_policies_if_named.ensures.same c.load_entities_if_named.ensures.same
    c.in_ok-load_policies_if_named.ensures.loaded c.in_ok-load_entities_if_named.ensures.loaded c.in_ok-state.ensures.text c.in_ok-state.ensures.reads_back
