use Rattle.std.proofs.Common.{ℕ, List, ◌++◌, Option, length, sym, ap, ◌∙◌, append_assoc, Bor}
use Rattle.std.specs.Prelude.{codes, decimal}
use Rattle.http_streams.specs.RequestText.{length_field}
use Rattle.http_streams.proofs.request.push_length.Goals as goal

pub returns : goal.returns
unfolding length_field
returns c =
    c.in_ok-push_number.ensures
    ∙ ap (λ (t : List ℕ). t ++ decimal (length c.in-Some.bytes.now)) c.in_ok-extend_from_slice.ensures.items
    ∙ append_assoc c.args.out.now.items (codes "\r\nContent-Length: ") (decimal (length c.in-Some.bytes.now))
    ∙ ap (λ (b : Option (Bor (List ℕ))). c.args.out.now.items ++ length_field b) (sym c.in-Some.is)
