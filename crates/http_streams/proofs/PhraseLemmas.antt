-- How long the reason phrases are.
use Rattle.std.proofs.Common.{◌≡◌, ℕ, zero, suc, ◌<◌, ◌≤◌, Bool, true, ◌&&◌, [], length, nat_le, refl}
use Rattle.std.specs.Prelude.{unwrap_or}
use Rattle.std.proofs.lemmas.Bool.{leb-true}
use Rattle.std.proofs.lemmas.Bool.Decides.{Decides-below_and}
use Rattle.http.specs.StatusCode.{reason_phrase}
use Rattle.http_streams.specs.ReplyText.{phrase}

abbrev is_short : ℕ → Bool
is_short status = nat_le (length (unwrap_or (reason_phrase status) [])) 32

abbrev short_below : ℕ → Bool
short_below zero = true
short_below (suc status) = is_short status && short_below status

-- the phrase of each status is at most 32 bytes long
pub phrase_short : (status : ℕ) → status < 1000 → length (phrase status) ≤ 32
unfolding phrase
phrase_short status h =
    leb-true _ 32
    ((Decides-below_and is_short (λ k. is_short k ≡ true) short_below (λ k. (λ x. x, λ x. x)) refl (λ _. refl) 1000).0 refl status h)
