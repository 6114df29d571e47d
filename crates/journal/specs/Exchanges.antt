-- Defines the requests and the replies of a round as lists of bytes.
-- Rules of this product: a round has the requests that are answered before one sync.
use Rattle.std.specs.Prelude.{ℕ, List, map}
use Rattle.journal.specs.declared.rounds.Exchange.{Exchange}

-- `requests_in round` are the requests of the round, in order.
abbrev pub requests_in : List Exchange → List (List ℕ)
requests_in round = map (λ x. x.request.items) round

-- `replies_in round` are the replies of the round, in order.
abbrev pub replies_in : List Exchange → List (List ℕ)
replies_in round = map (λ x. x.reply.items) round
