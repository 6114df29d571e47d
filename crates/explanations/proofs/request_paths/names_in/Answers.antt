use Rattle.std.proofs.Common.{option_map}
use Rattle.serde_json.specs.View.{view}
use Rattle.explanations.proofs.Requests.{names_read}
use Rattle.explanations.proofs.request_paths.names_in.Goals as goal

pub returns-in-Ok-pair_with : goal.returns-in-Ok-pair_with
returns-in-Ok-pair_with c =
    names_read (view c.args.value.now) c.name_at-action.result c.name_at-resource.result c.both.result
    (option_map (λ v. view v.now) c.get.result) (option_map (λ v. view v.now) c.get-in-Ok.result) (option_map (λ v. view v.now) c.get-in-Ok-2.result) c.in-Ok.principal
    c.in-Ok-pair_with.principal c.in-Ok-pair_with.others
    c.get.ensures c.get-in-Ok.ensures c.get-in-Ok-2.ensures c.in-Ok.ensures c.name_at-action.ensures c.name_at-resource.ensures
    c.both.ensures.first c.both.ensures.second c.in-Ok-pair_with.ensures.kept c.in-Ok-pair_with.ensures.made

pub returns-in-Err : goal.returns-in-Err
returns-in-Err c = tt
