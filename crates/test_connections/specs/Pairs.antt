-- Defines requests of two bytes.
-- Rules of this product: none; the service is one of the tests.
use Rattle.std.specs.Prelude.{◌≡◌, ◌≤◌, ◌<◌, ℕ, List, ◌++◌, length, take}
use Rattle.std.proofs.Common.{sym, ap, ◌∙◌, length-append, arith}
use Rattle.std.proofs.Math.Seq.{take-append_seam}
use Rattle.connections.specs.declared.TheConstants.{MAX_REQUEST}
use Rattle.connections.specs.Framing.{IsPrefixFree, HasNoRequest}

-- `IsPair r` holds if `r` is two bytes.
abbrev pub IsPair : List ℕ → Type 0
IsPair r = length r ≡ 2

-- `IsLess bytes` holds if `bytes` are fewer than two.
abbrev pub IsLess : List ℕ → Type 0
IsLess bytes = length bytes < 2

pub prefix_free : IsPrefixFree IsPair
prefix_free one other after more x y same =
    sym (take-append_seam one after) ∙ ap (take (length one)) same ∙ ap (λ (n : ℕ). take n (other ++ more)) (x ∙ sym y)
    ∙ take-append_seam other more

pub no_request : HasNoRequest IsPair IsLess
no_request request after x less = absurd (omega (arith, x, less, length-append request after))

pub short : (bytes : List ℕ) → IsLess bytes → length bytes ≤ MAX_REQUEST
short bytes h = omega (arith, h)
