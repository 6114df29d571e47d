-- Defines the inputs that the answered requests of many connections ask for.
-- Source: RFC 9112, section 9.3.
-- Rules of this product: they are in the order in which the requests were answered, of whatever connection.
use Rattle.std.specs.Prelude.{◌≡◌, ◌⊎◌, ℕ, Bool, List, [], ◌∷◌, ◌++◌, All}
use Rattle.connections.specs.Connections.{Answered, At, Entry}
use Rattle.connections.specs.Steps.{IsChain}
use Rattle.connections.specs.Stories.{story_at}
use Rattle.http.specs.declared.status.StatusCode.{StatusCode}
use Rattle.httparse.specs.Grammar.{RequestHead}
use Rattle.http_streams.specs.FramedLaws.{IsReplied}
use Rattle.http_streams.specs.Request.{IsRefused, ReadsWhole}
use Rattle.http_replies.specs.site.Inputs.{Input}
use Rattle.http_replies.specs.site.SiteViews.{SiteView}
use Rattle.http_service.specs.RequestReplies.{answers}
use Rattle.http_service.specs.Routes.{route_stated}
use Rattle.http_service.specs.Serving.{ContinuesRequest, Served}
use Rattle.http_service.specs.Streams.{inputs_of}
use Rattle.http_service.specs.Together.{TakesSteps}

-- `AsksFor bytes is` holds if `bytes` are one request, and `is` are its inputs; or they are rejected, and `is` is
-- empty.
abbrev pub AsksFor : List ℕ → List Input → Type 0
AsksFor bytes is =
    ((head : RequestHead) × (body : List ℕ) × ReadsWhole bytes head body []
    × (is ≡ inputs_of (route_stated head.method head.target body)))
    ⊎ ((status : StatusCode) × IsRefused bytes status × (is ≡ []))

-- `IsAsked e is` holds if `is` are the inputs of the request that is answered at the entry `e`, or none.
abbrev pub IsAsked : Entry → List Input → Type 0
IsAsked (At at (Answered request closes reply line)) is = AsksFor request is
IsAsked _ is = is ≡ []

-- `AreAsked entries is` holds if `is` are the inputs of the requests that are answered at the entries, in order.
abbrev pub AreAsked : List Entry → List Input → Type 0
AreAsked [] is = is ≡ []
AreAsked (e ∷ entries) is =
    (here more : List Input) × IsAsked e here × AreAsked entries more × (is ≡ here ++ more)

-- `ConnectionsLeaveRuns` holds if, with a log or without one, whatever entries lead a site in the midst of its run from
-- one state to another:
-- - answered: they lead the site itself, which replies to each request as it was then.
-- - asked: the inputs that the run gains are those of the answered requests.
-- - replied: each reply of each connection is a reply of the site to the request of that connection.
pub record ConnectionsLeaveRuns : Type 0 where
  pub answered : (has_log : Bool) (entries : List Entry) (old new : Served)
      → IsChain (TakesSteps has_log ContinuesRequest) entries old new
      → IsChain (TakesSteps has_log answers) entries old.site new.site
  pub asked : (has_log : Bool) (entries : List Entry) (old new : Served)
      → IsChain (TakesSteps has_log ContinuesRequest) entries old new
      → (is : List Input) × AreAsked entries is × (new.inputs ≡ old.inputs ++ is)
  pub replied : (has_log : Bool) (entries : List Entry) (old new : SiteView) (at : ℕ)
      → IsChain (TakesSteps has_log answers) entries old new
      → All (IsReplied answers) (story_at at entries).turns
