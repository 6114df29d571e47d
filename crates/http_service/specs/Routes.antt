-- Defines what a request asks for, by its method and its target.
-- Rules of this product: the paths and the methods. A path ends before the query, its segments are separated by
-- slashes, and a policy's id is one segment, percent-decoded (RFC 3986, sections 3.3, 3.4 and 2.1). Methods are
-- compared by their exact bytes (RFC 9110, section 9.1).
use Prim.Native.Char.{code}
use Rattle.std.specs.Prelude.{ℕ, Bool, true, false, not, ◌&&◌, ◌==◌, List, length, take, drop, Option, Some, None}
use Rattle.std.specs.Prelude.{Result, Ok, Err, if◌then◌else◌, codes, bytes_eq}
use Rattle.std.specs.List.{list_any, before_first}
use Rattle.percent_encoding.specs.Percent.{percent_decode}
use Rattle.http.specs.declared.status.StatusCode.{StatusCode}
use Rattle.http_replies.specs.site.Inputs.{Input, input_of, PutPolicy, DeletePolicy, PutEntity, DeleteEntity}
use Rattle.http_replies.specs.site.Inputs.{Take, Authorize, GetPolicy, State, Summary, Delta}
use Rattle.http_service.specs.declared.route.Route.{Route}
use Rattle.http_service.specs.declared.route.Route.TheVariants as route

-- `is_question_mark b` tests whether the byte `b` is a question mark.
abbrev pub is_question_mark : ℕ → Bool
is_question_mark b = b == code "?"

-- `is_slash b` tests whether the byte `b` is a slash.
abbrev pub is_slash : ℕ → Bool
is_slash b = b == code "/"

-- `path_of target` is the path of `target`: all before its first question mark.
unfoldable pub path_of : List ℕ → List ℕ
path_of target = before_first is_question_mark target

-- `policies` is the prefix of the path of a policy.
unfoldable pub policies : List ℕ
policies = codes "/v1/policies/"

-- `segment_of path` is the rest of `path` after the prefix `policies`, if `path` begins with this prefix and the rest
-- is one segment.
unfoldable pub segment_of : List ℕ → Option (List ℕ)
segment_of path =
    if bytes_eq (take (length policies) path) policies && not (list_any is_slash (drop (length policies) path))
    then Some (drop (length policies) path) else None

-- `Asked` is what a request asks for: an input of a site (`Ok`); or, if there is no such operation, the status of the
-- reply (`Err`).
abbrev pub Asked : Type 0
Asked = Result Input StatusCode

-- `asked_by r` is what the route `r` of the code represents.
abbrev pub asked_by : Route → Asked
asked_by (route.Input i) = Ok (input_of i)
asked_by (route.Status s) = Err s

-- `only wanted method i` is the input `i` if `method` is `wanted`, the only method of its path; else 405.
unfoldable pub only : List ℕ → List ℕ → Input → Asked
only wanted method i = if bytes_eq method wanted then Ok i else Err 405

-- `plain_route method path body` is what a request with `method` and `body` asks for at a `path` that does not name a
-- policy. An unknown path is 404. A body is ignored if its operation needs none.
unfoldable pub plain_route : List ℕ → List ℕ → List ℕ → Asked
plain_route method path body =
    if bytes_eq path (codes "/v1/authorize") then only (codes "POST") method (Authorize body)
    else if bytes_eq path (codes "/v1/entities") then only (codes "PUT") method (PutEntity body)
    else if bytes_eq path (codes "/v1/entities/delete") then only (codes "POST") method (DeleteEntity body)
    else if bytes_eq path (codes "/v1/state") then only (codes "GET") method State
    else if bytes_eq path (codes "/v1/summary") then only (codes "GET") method Summary
    else if bytes_eq path (codes "/v1/delta") then only (codes "POST") method (Delta body)
    else if bytes_eq path (codes "/v1/merge") then only (codes "POST") method (Take body)
    else Err 404

-- `policy_route method id body` is what a request with `method` and `body` asks for at the path of the policy `id`.
unfoldable pub policy_route : List ℕ → List ℕ → List ℕ → Asked
policy_route method id body =
    if bytes_eq method (codes "GET") then Ok (GetPolicy id)
    else if bytes_eq method (codes "PUT") then Ok (PutPolicy id body)
    else if bytes_eq method (codes "DELETE") then Ok (DeletePolicy id)
    else Err 405

-- `route_at method path body segment` is what a request with `method` and `body` asks for at `path`. `segment` is the
-- segment of `path` that names a policy, or `None` if `path` is not that of a policy.
abbrev pub route_at : List ℕ → List ℕ → List ℕ → Option (List ℕ) → Asked
route_at method path body None = plain_route method path body
route_at method path body (Some segment) = policy_route method (percent_decode segment) body

-- `route_stated method target body` is what a request with the method `method`, the target `target` and the body `body`
-- asks for.
unfoldable pub route_stated : List ℕ → List ℕ → List ℕ → Asked
route_stated method target body = route_at method (path_of target) body (segment_of (path_of target))

-- `has_id asked` tests whether `asked` has the id of a policy.
abbrev pub has_id : Asked → Bool
has_id (Ok (PutPolicy id text)) = true
has_id (Ok (GetPolicy id)) = true
has_id (Ok (DeletePolicy id)) = true
has_id _ = false
