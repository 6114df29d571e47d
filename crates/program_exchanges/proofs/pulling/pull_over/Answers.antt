use Rattle.std.proofs.Common.{inr, option_map}
use Rattle.std.proofs.lemmas.Result.{IfOk-weaker}
use Rattle.sync_messages.specs.schema.Views.{schema_view}
use Rattle.stamped_store.specs.Store.{abstract_store}
use Rattle.program_exchanges.specs.Requests.{IsReady}
use Rattle.program_exchanges.proofs.ToldLemmas.{err_weaker, or_else}
use Rattle.program_exchanges.proofs.pulling.pull_over.Goals as goal

pub returns-in-Ok-store_in-clause-pulled : goal.returns-in-Ok-store_in-clause-pulled
returns-in-Ok-store_in-clause-pulled g c =
    let s = schema_view c.in-Ok.schema in
    let m = abstract_store c.in-Ok-store_in.store in
    let ready : IsReady c.args.schema.now (option_map (λ b. b.now) c.args.state) s m = record { schema_is = c.in-Ok.ensures.read; state_is = c.in-Ok-store_in.ensures.holds } in
    IfOk-weaker c.pull_under.result _ _ (λ p h. (s, m, h.0, ready, h.1, h.2)) c.pull_under.ensures.pulled

pub returns-in-Ok-store_in-clause-refused : goal.returns-in-Ok-store_in-clause-refused
returns-in-Ok-store_in-clause-refused g c r told apart =
    let s = schema_view c.in-Ok.schema in
    let m = abstract_store c.in-Ok-store_in.store in
    let ready : IsReady c.args.schema.now (option_map (λ b. b.now) c.args.state) s m = record { schema_is = c.in-Ok.ensures.read; state_is = c.in-Ok-store_in.ensures.holds } in
    let h = c.pull_under.ensures.refused r told apart in
    inr (s, m, h.0, ready, h.1, h.2)

pub returns-in-Ok-store_in-clause-network : goal.returns-in-Ok-store_in-clause-network
returns-in-Ok-store_in-clause-network g c f told =
    let s = schema_view c.in-Ok.schema in
    let m = abstract_store c.in-Ok-store_in.store in
    let ready : IsReady c.args.schema.now (option_map (λ b. b.now) c.args.state) s m = record { schema_is = c.in-Ok.ensures.read; state_is = c.in-Ok-store_in.ensures.holds } in
    (s, m, ready, c.pull_under.ensures.network f told)

pub returns-in-Ok-store_in-clause-err : goal.returns-in-Ok-store_in-clause-err
returns-in-Ok-store_in-clause-err g c =
    let s = schema_view c.in-Ok.schema in
    let m = abstract_store c.in-Ok-store_in.store in
    let ready : IsReady c.args.schema.now (option_map (λ b. b.now) c.args.state) s m = record { schema_is = c.in-Ok.ensures.read; state_is = c.in-Ok-store_in.ensures.holds } in
    err_weaker c.pull_under.result (or_else (λ begun. (s, m, ready, begun))) c.pull_under.ensures.err

pub returns-in-Ok-store_in-clause-too_large : goal.returns-in-Ok-store_in-clause-too_large
returns-in-Ok-store_in-clause-too_large g c f told =
    let s = schema_view c.in-Ok.schema in
    let m = abstract_store c.in-Ok-store_in.store in
    let ready : IsReady c.args.schema.now (option_map (λ b. b.now) c.args.state) s m = record { schema_is = c.in-Ok.ensures.read; state_is = c.in-Ok-store_in.ensures.holds } in
    (s, m, ready, c.pull_under.ensures.too_large f told)
