use Rattle.std.proofs.Common.{◌≡◌, ◌<◌, ◌+◌, ◌++◌, ◌∙◌, ℕ, List, [], ◌∷◌, get_or, length, map, take, sym, ap, subst}
use Rattle.std.proofs.lemmas.List.{map-append, take_more}
use Rattle.json.specs.Written.{Written}
use Rattle.serde_json.specs.Data.{Data}
use Rattle.entity_uids.specs.Tokens.{AppendsAll, AppendsValue}
use Rattle.entity_uids.proofs.Appending.{both_written, none_written, one_written}
use Rattle.sync_format.specs.declared.update.Update.{Update}
use Rattle.sync_format.specs.Messages.{entry_json}
use Rattle.sync_format.specs.Updates.{plain_update, plain_updates}
use Rattle.sync_format.proofs.update_writing.write_each.Goals as goal

-- one more update behind the first `i`
one_more : {P E : Type 0} {a b c : Written} (us : List (Update P E)) (i : ℕ) (u : Update P E) → i < length us → u ≡ get_or us i u
    → AppendsAll a b (map entry_json (plain_updates (take i us))) → AppendsValue b c (entry_json (plain_update u))
    → AppendsAll a c (map entry_json (plain_updates (take (i + 1) us)))
one_more {P} {E} {a} {b} {c} us i u within is before here =
    let json : Update P E → Data = λ v. entry_json (plain_update v) in
    let more : take (i + 1) us ≡ take i us ++ u ∷ [] = take_more us i u within ∙ ap (λ (v : Update P E). take i us ++ v ∷ []) (sym is) in
    let same : map entry_json (plain_updates (take (i + 1) us)) ≡ map entry_json (plain_updates (take i us)) ++ json u ∷ [] =
    ap (λ (vs : List (Update P E)). map entry_json (plain_updates vs)) more
    ∙ ap (map entry_json) (map-append plain_update (take i us) (u ∷ []))
    ∙ map-append entry_json (plain_updates (take i us)) (plain_update u ∷ []) in
    subst (AppendsAll a c) (sym same) (both_written before (one_written here))

pub loop-update-init : goal.loop-update-init
loop-update-init g c = none_written c.args.out.now

pub loop-update-preserved : goal.loop-update-preserved
loop-update-preserved g c =
    one_more c.args.updates.now c.loop-update.update-index c.update-item.result c.loop-update-test.true c.update-item.is c.loop-update.invariant c.in_ok-write_update.ensures
