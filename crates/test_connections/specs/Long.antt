-- Defines bytes that are less than the longest request.
-- Rules of this product: none; the service is one of the tests.
use Rattle.std.specs.Prelude.{◌≡◌, ◌≤◌, ◌<◌, ℕ, Bool, true, false, List, ◌++◌, length}
use Rattle.std.proofs.Common.{sym, ◌∙◌, arith}
use Rattle.connections.specs.declared.TheConstants.{MAX_REQUEST}
use Rattle.connections.specs.Framing.{IsPrefixFree, HasNoRequest}

-- `IsNone r` holds of no bytes: the service takes only what ends the connection.
abbrev pub IsNone : List ℕ → Type 0
IsNone r = ⊥

-- `IsShort bytes` holds if `bytes` are fewer than the longest request has.
abbrev pub IsShort : List ℕ → Type 0
IsShort bytes = length bytes < MAX_REQUEST

pub prefix_free : IsPrefixFree IsNone
prefix_free one other after more x y same = absurd x

pub no_request : HasNoRequest IsNone IsShort
no_request request after x less = x

pub short : (bytes : List ℕ) → IsShort bytes → length bytes ≤ MAX_REQUEST
short bytes h = omega (arith, h)

pub requests : (request : List ℕ) (closes : Bool) → closes ≡ true → closes ≡ false → IsNone request
requests request closes ends lasts = let both : true ≡ false = sym ends ∙ lasts in cc
