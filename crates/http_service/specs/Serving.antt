-- Defines one call of `serve` or `serve_logged`: what it reads, what it replies, and the run of the site.
-- Source: RFC 9112, section 9.3 (replies in the order of the requests).
-- Rules of this product: each request is at most one step of the site.
use Rattle.std.specs.Prelude.{◌≡◌, ℕ, List, [], ◌∷◌, ◌++◌, Option, Result, Ok, Err}
use Rattle.http.specs.declared.status.StatusCode.{StatusCode}
use Rattle.http_streams.specs.Serving.{IsAnswered}
use Rattle.http_streams.specs.declared.serve.LoggedFault.{LoggedFault}
use Rattle.http_replies.specs.stamped_store.Store.{store_of, updates}
use Rattle.http_replies.specs.site.SiteViews.{SiteView, schema_of, store_in, IsSameSite}
use Rattle.http_replies.specs.site.Runs.{Step, Run, took}
use Rattle.http_replies.specs.site.Inputs.{Input}
use Rattle.http_replies.specs.site.declared.reply.Reply.{Reply}
use Rattle.http_service.specs.Routes.{Asked, route_stated}
use Rattle.http_replies.specs.Reports.{reported}
use Rattle.http_service.specs.RequestReplies.{RepliesTo}

-- A `Served` is a site served over a stream, with the inputs that requests gave it so far and its reply to each.
pub record Served : Type 0 where
  pub site : SiteView
  pub inputs : List Input
  pub replies : List Reply

-- `before_requests site` is the `Served` before the first request: `site`, no inputs and no replies.
abbrev pub before_requests : SiteView → Served
before_requests site = record { site = site; inputs = []; replies = [] }

-- `Continues old asked status text new` holds if a request that asks for `asked` may get the reply `status` with the
-- body `text`, and `new` is the next `Served` after `old`. For an input the site makes one step, and the input and its
-- reply are added. Without an operation the site is not called, and nothing is added.
abbrev pub Continues : Served → Asked → StatusCode → List ℕ → Served → Type 0
Continues old (Ok i) status text new =
    (r : Reply) × Step (schema_of old.site) old.site.name (store_in old.site) i r (store_in new.site)
    × IsSameSite old.site new.site × ((status, text) ≡ reported r)
    × (new.inputs ≡ old.inputs ++ i ∷ []) × (new.replies ≡ old.replies ++ r ∷ [])
Continues old (Err s) status text new =
    RepliesTo old.site (Err s) status text new.site × (new.inputs ≡ old.inputs) × (new.replies ≡ old.replies)

-- `ContinuesRequest old method target body status text new` is the same relation for a request with this method, target
-- and body.
abbrev pub ContinuesRequest : Served → List ℕ → List ℕ → List ℕ → StatusCode → List ℕ → Served → Type 0
ContinuesRequest old method target body status text new =
    Continues old (route_stated method target body) status text new

-- The parameters from `left` to `write_fails` describe the states of a reader and a writer, as in `Serving` of
-- http_streams.
module _ {R W : Type 0} (left : R → Option (List ℕ)) (read_failures : R → ℕ) (reads : R → ℕ → List ℕ → R → Type 0)
    (read_fails : R → R → Type 0) (holds : W → Option (List ℕ)) (write_failures : W → ℕ)
    (write_fails : W → W → Type 0) where
  -- `IsServed first last before after old new result` holds if in one call the site went from the state `old` to `new`,
  -- the reader from `first` to `last`, and the writer from `before` to `after`. The call handled zero or more requests;
  -- the last HTTP reply may be cut off or unsent. `inputs` are the inputs of these requests in order, `replies` the
  -- site's replies to these inputs, and the run of `inputs` with `replies` leads from `old` to `new`. If `result` is
  -- `Ok`, no bytes were left to read, or an HTTP reply ended the stream; else `result` is the call's error (`EndsAs` of
  -- http_streams).
  -- An example: the call reads `PUT /v1/policies/a` and `GET /nowhere`, and then the stream ends. The one input is the
  -- put of the first request's body under `a`, and the site's reply to it has a stamp. The call writes the HTTP reply
  -- 200 with the stamp, then the HTTP reply 404. The new store is the join of this put and the updates that the site
  -- had.
  pub record IsServed (first last : R) (before after : W) (old new : SiteView) (result : Result (Unit {0}) LoggedFault)
      : Type 0 where
    pub inputs : List Input
    pub replies : List Reply
    -- the bytes that the call read and wrote, request by request, and how it ended
    pub answered :
        IsAnswered ContinuesRequest left read_failures reads read_fails holds write_failures write_fails first last
        before after (before_requests old) (record { site = new; inputs = inputs; replies = replies }) result
    -- the run, to which the theorems on runs of one site apply
    pub run : Run (schema_of old) old.name (store_in old) inputs replies (store_in new)
    pub store : store_in new ≡ store_of (updates (store_in old) ++ took (schema_of old) inputs replies)
    pub same : IsSameSite old new
