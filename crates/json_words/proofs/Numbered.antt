-- A number's text, by whether a minus stands first.
use Rattle.std.proofs.Common.{◌≡◌, ◌==◌, ℕ, List, drop, slice_index, true, false, ap, ◌∙◌, refl}
use Rattle.fast_float.specs.Text.{scan, minus}
use Rattle.serde_json.specs.Read.{number_of, number_from}

pub signed : (s t : List ℕ) → s ≡ t → (slice_index s 0 == minus) ≡ true → number_from true (scan (drop 1 s)) ≡ number_of t
unfolding number_of
signed s t same is = let read : number_from true (scan (drop 1 s)) ≡ number_of s = rw is refl in read ∙ ap number_of same

pub unsigned : (s t : List ℕ) → s ≡ t → (slice_index s 0 == minus) ≡ false → number_from false (scan s) ≡ number_of t
unfolding number_of
unsigned s t same is = let read : number_from false (scan s) ≡ number_of s = rw is refl in read ∙ ap number_of same
