use Rattle.std.proofs.Common.{ℕ, ◌+◌, ◌-◌, ◌^◌, min, inl, inr, sym, ap, ◌∙◌}
use Rattle.test_calls.proofs.streams.has_one_answer.Goals as goal

pub returns : goal.returns
returns c old old2 m t b st st2 x x2 new new2 same one other =
    let count = one.0.0 ∙ ap (λ (n : ℕ). min (n + 1) (2 ^ 64 - 1)) same ∙ sym other.0.0 in
    elim one.0.1 [
      | inl short ↦ absurd (one.1 short.0)
      | inr said ↦ elim other.0.1 [
        | inl short ↦ absurd (other.1 short.0)
        | inr says ↦ (said.0 ∙ sym says.0, said.1 ∙ sym says.1, count)
      ]
    ]
