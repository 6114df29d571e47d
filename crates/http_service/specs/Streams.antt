-- Defines the site after a stream of requests: the site after the run of their inputs.
-- Source: RFC 9112, section 9.3.
use Rattle.std.specs.Prelude.{◌≡◌, ℕ, suc, zero, List, [], ◌∷◌, ◌++◌, Ok, Err}
use Rattle.httparse.specs.Grammar.{RequestHead}
use Rattle.http_streams.specs.Request.{ReadsWhole}
use Rattle.http_replies.specs.stamped_store.Store.{store_of, updates}
use Rattle.http_replies.specs.site.SiteViews.{SiteView, schema_of, store_in, IsSameSite}
use Rattle.http_replies.specs.site.Runs.{Run, took}
use Rattle.http_replies.specs.site.Inputs.{Input}
use Rattle.http_replies.specs.site.declared.reply.Reply.{Reply}
use Rattle.http_service.specs.Routes.{Asked, route_stated}

-- `inputs_of asked` is the list of the inputs of a request that asks for `asked`: that input, or `[]`.
abbrev pub inputs_of : Asked → List Input
inputs_of (Ok i) = i ∷ []
inputs_of (Err s) = []

-- `HaveInputs n bytes rest is` holds if `bytes` are `n` requests and then `rest`, and `is` are the inputs of the
-- requests, in order.
abbrev pub HaveInputs : ℕ → List ℕ → List ℕ → List Input → Type 0
HaveInputs zero bytes rest is = (bytes ≡ rest) × (is ≡ [])
HaveInputs (suc n) bytes rest is =
    (head : RequestHead) × (body : List ℕ) × (after : List ℕ) × (more : List Input) × ReadsWhole bytes head body after
    × (is ≡ inputs_of (route_stated head.method head.target body) ++ more) × HaveInputs n after rest more

-- `LeavesRun old bytes new` holds if a run of the inputs of the first `count` requests in `bytes` leads from the site
-- `old` to `new`. The store of `new` is the join of the updates that `old` had and those that the run applied.
pub record LeavesRun (old : SiteView) (bytes : List ℕ) (new : SiteView) : Type 0 where
  pub count : ℕ
  pub rest : List ℕ
  pub inputs : List Input
  pub replies : List Reply
  pub asks : HaveInputs count bytes rest inputs
  pub run : Run (schema_of old) old.name (store_in old) inputs replies (store_in new)
  pub store : store_in new ≡ store_of (updates (store_in old) ++ took (schema_of old) inputs replies)
  pub same : IsSameSite old new
