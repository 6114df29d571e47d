-- Defines the answers of a `Counter`, the service with which this program tests streams.
use Rattle.std.specs.Prelude.{◌≡◌, ℕ, ◌+◌, ◌-◌, ◌^◌, ◌⊎◌, min, List, [], ◌∷◌}
use Rattle.test_calls.specs.declared.streams.Counter.{Counter}
use Rattle.http.specs.declared.status.StatusCode.{StatusCode}

-- `said target body` is `body`, or `target` if `body` is empty.
abbrev pub said : List ℕ → List ℕ → List ℕ
said target [] = target
said target (b ∷ body) = b ∷ body

-- `counts old method target body status reply new` holds if a counter in the state `old` may answer a request by
-- `status` and `reply`, and then has the state `new`. The request has `target` and `body`, and any `method`. Either the
-- status is 200 and `reply` is `said target body`; or the status is 503 (a failed allocation) and `reply` is any text.
-- `new` counts one more request and, for 503, one more failure, each up to `2^64 - 1`.
abbrev pub counts : Counter → List ℕ → List ℕ → List ℕ → StatusCode → List ℕ → Counter → Type 0
counts old method target body status reply new =
    (new.requests ≡ min (old.requests + 1) (2 ^ 64 - 1))
    × (((status ≡ 503) × (new.refused ≡ min (old.refused + 1) (2 ^ 64 - 1)))
    ⊎ ((status ≡ 200) × (reply ≡ said target body) × (new.refused ≡ old.refused)))

-- `asked_alike one other` holds if the counters `one` and `other` counted equally many requests. They may differ in the
-- number of 503s: no reply depends on that.
abbrev pub asked_alike : Counter → Counter → Type 0
asked_alike one other = one.requests ≡ other.requests
