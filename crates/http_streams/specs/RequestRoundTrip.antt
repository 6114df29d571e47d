-- Defines when the text of a request to be sent, an `Ask`, is parsed as one request with the parts of the `Ask`.
-- Source: RFC 9112, sections 2.2, 3 and 6.
-- Rules of this product: the limits; a PUT or a POST has a body.
use Rattle.std.specs.Prelude.{◌≡◌, ℕ, ◌+◌, ◌<◌, ◌≤◌, List, [], ◌∷◌, ◌++◌, length, codes, IsTrue, IsSome}
use Rattle.httparse.specs.Grammar.{RequestHead}
use Rattle.httparse.specs.Spans.{span_bytes}
use Rattle.http_streams.specs.declared.parts.Ask.{Ask}
use Rattle.http_streams.specs.RequestText.{body_bytes, request_text}
use Rattle.http_streams.specs.Fields.{values_named}
use Rattle.http_streams.specs.Request.{Admits, IsCut, needs_length, pairs}
use Rattle.http_streams.specs.declared.cut.Parts.{Parts}
use Rattle.http_streams.specs.declared.cut.Cut.{Cut}
use Rattle.http_streams.specs.declared.cut.Cut.TheVariants as Cuts
use Rattle.http_streams.specs.declared.TheConstants.{MAX_HEAD, MAX_BODY}

-- `FitsLimits ask` holds if the head and the body of `ask` are within the limits, and `ask` has a body if its method
-- must announce a length.
pub record FitsLimits (ask : Ask) : Type 0 where
  pub head : length (request_text ask) ≤ MAX_HEAD + length (body_bytes ask.body)
  pub body : length (body_bytes ask.body) ≤ MAX_BODY
  pub announced : IsTrue (needs_length ask.method.now) → IsSome ask.body

-- `AreAsked ask p` holds if the parts `p` of the text of `ask` are the method, the target and the body of `ask`, the
-- text ends with the body, and the connection ends after this request.
pub record AreAsked (ask : Ask) (p : Parts) : Type 0 where
  pub method : span_bytes (request_text ask) p.method ≡ ask.method.now
  pub target : span_bytes (request_text ask) p.target ≡ ask.path.now
  pub body : span_bytes (request_text ask) (record { start = p.body; end = p.end }) ≡ body_bytes ask.body
  pub all : p.end ≡ length (request_text ask)
  pub last : IsTrue p.closes

-- `IsAsked ask cut` holds if `cut` is a whole request with the parts of `ask`.
abbrev pub IsAsked : Ask → Cut → Type 0
IsAsked ask (Cuts.Whole p) = AreAsked ask p
IsAsked ask (Cuts.Refused status) = ⊥
IsAsked ask (Cuts.Unfinished needed) = ⊥

-- `IsReadBack ask` holds if the text of `ask` is parsed only as one request with the parts and the host of `ask`, and
-- any proper prefix of the text only as an unfinished request.
pub record IsReadBack (ask : Ask) : Type 0 where
  pub whole : (cut : Cut) → IsCut (request_text ask) cut → IsAsked ask cut
  pub host :
      (h : RequestHead) (rest : List ℕ) → Admits (request_text ask) h rest
      → values_named (codes "host") (pairs h) ≡ ask.host.now ∷ []
  pub unfinished :
      (front back : List ℕ) (cut : Cut) → request_text ask ≡ front ++ back → 0 < length back → IsCut front cut
      → (needed : ℕ) × (cut ≡ Cuts.Unfinished needed)
