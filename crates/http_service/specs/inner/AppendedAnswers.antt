-- Defines the answer to one request, appended to what is sent, with its line for a log.
use Rattle.std.specs.Prelude.{◌≡◌, ℕ, List, ◌++◌}
use Rattle.http.specs.declared.status.StatusCode.{StatusCode}
use Rattle.http_service.specs.LogLines.{IsLogLine, IsUndone, tail_of}
use Rattle.http_service.specs.Routes.{Asked}
use Rattle.http_replies.specs.site.SiteViews.{SiteView}
use Rattle.http_service.specs.RequestReplies.{RepliesTo, answers}

-- `AppendsTo old asked status before after new` holds if `after` is `before` followed by the reply, with `status`, of
-- the site `old` to a request that asks for `asked`, and `new` is the site afterwards.
abbrev pub AppendsTo : SiteView → Asked → StatusCode → List ℕ → List ℕ → SiteView → Type 0
AppendsTo old asked status before after new =
    (reply : List ℕ) × (after ≡ before ++ reply) × RepliesTo old asked status reply new

-- `IsUndoneReply asked status before after` holds if `after` is `before` followed by a reply. A request that asks for
-- `asked` gets this reply, with `status`, if memory ran out before the site made a step (`IsUndone`). Any site may give
-- this reply, and is then unchanged.
abbrev pub IsUndoneReply : Asked → StatusCode → List ℕ → List ℕ → Type 0
IsUndoneReply asked status before after =
    (reply : List ℕ) × (after ≡ before ++ reply) × IsUndone asked status reply
    × ((old : SiteView) → RepliesTo old asked status reply old)

-- `AnswersWithTail old asked status before after line ended new` holds if `after` is `before` followed by the reply,
-- with `status`, of the site `old` to a request that asks for `asked`. `ended` is `line` followed by the end of the
-- request's line for the log, and `new` is the site afterwards.
abbrev pub AnswersWithTail : SiteView → Asked → StatusCode → List ℕ → List ℕ → List ℕ → List ℕ → SiteView → Type 0
AnswersWithTail old asked status before after line ended new =
    (reply : List ℕ) × (after ≡ before ++ reply) × RepliesTo old asked status reply new
    × (ended ≡ line ++ tail_of asked status reply)

-- `AnswersWithLine old method target body status before after line new` holds if `after` is `before` followed by the
-- reply, with `status`, of the site `old` to the request with this method, target and body. `line` is a line of the log
-- for the request, and `new` is the site afterwards.
abbrev pub AnswersWithLine : SiteView → List ℕ → List ℕ → List ℕ → StatusCode → List ℕ → List ℕ → List ℕ → SiteView
    → Type 0
AnswersWithLine old method target body status before after line new =
    (reply : List ℕ) × (after ≡ before ++ reply) × answers old method target body status reply new
    × IsLogLine method target body status reply line
