-- Defines when a stream of bytes has at most one cut into requests.
-- Source: RFC 9112, sections 2.2, 6.3 and 9.3 (a request's end is known from its own bytes).
use Rattle.std.specs.Prelude.{◌≡◌, ◌<◌, ℕ, List, [], ◌∷◌, ◌++◌, length}
use Rattle.std.specs.List.{flat_map}

-- `IsPrefixFree is_request` holds if no request is a proper prefix of another.
abbrev pub IsPrefixFree : (List ℕ → Type 0) → Type 0
IsPrefixFree is_request =
    (one other after more : List ℕ) → is_request one → is_request other → one ++ after ≡ other ++ more → one ≡ other

module _ (is_request is_unfinished : List ℕ → Type 0) where
  -- `HasNoRequest` holds if bytes that are less than a request do not begin with one.
  abbrev pub HasNoRequest : Type 0
  HasNoRequest = (request after : List ℕ) → is_request request → is_unfinished (request ++ after) → ⊥

  -- `AreRequests rs` holds if each of `rs` is a request.
  abbrev pub AreRequests : List (List ℕ) → Type 0
  AreRequests [] = Unit {0}
  AreRequests (r ∷ rs) = is_request r × AreRequests rs

  -- `IsCut stream rs rest` holds if the stream is the requests `rs` followed by `rest`, which is less than a request.
  pub record IsCut (stream : List ℕ) (rs : List (List ℕ)) (rest : List ℕ) : Type 0 where
    pub requests : AreRequests rs
    pub unfinished : is_unfinished rest
    pub is : stream ≡ flat_map (λ r. r) rs ++ rest

  -- `HasOneCut` holds if each stream has at most one cut.
  abbrev pub HasOneCut : Type 0
  HasOneCut =
      (stream : List ℕ) (rs qs : List (List ℕ)) (rest more : List ℕ) → IsCut stream rs rest → IsCut stream qs more
      → (rs ≡ qs) × (rest ≡ more)

module _ (is_unfinished : List ℕ → Type 0) where
  -- `StaysUnfinished bytes needed` holds if `bytes`, with whatever follows, are less than a request while they are
  -- fewer than `needed` in all.
  abbrev pub StaysUnfinished : List ℕ → ℕ → Type 0
  StaysUnfinished bytes needed = (more : List ℕ) → length (bytes ++ more) < needed → is_unfinished (bytes ++ more)
