use Rattle.std.proofs.Common.{rules, inl, inr, ◌≡◌, true, false}
use Rattle.std.specs.Ordering.{is_eq}
use Rattle.values.specs.Uids.{equal-is}
use Rattle.values.specs.Names.{uid_cmp, uid_cmp-IsTotalOrder, uid_cmp-IsAntisymmetric}
use Rattle.evaluator.proofs.operators.is_within.Goals as goal

pub returns-then-is_eq : goal.returns-then-is_eq
returns-then-is_eq c =
    let same = equal-is uid_cmp-IsTotalOrder uid_cmp-IsAntisymmetric c.args.a.now c.args.b.now in
    let tied : is_eq (uid_cmp c.args.a.now c.args.b.now) ≡ true = search rules in
    (λ _. inl (same.0 tied), λ _. c.if-is_eq.true)

pub returns-else-is_eq : goal.returns-else-is_eq
returns-else-is_eq c =
    let same = equal-is uid_cmp-IsTotalOrder uid_cmp-IsAntisymmetric c.args.a.now c.args.b.now in
    let apart : is_eq (uid_cmp c.args.a.now c.args.b.now) ≡ false = search rules in
    (λ t. inr (c.is_among.ensures.0 t), λ s. elim s [ inl e ↦ absurd (let t = same.1 e in cc (t, apart)) | inr m ↦ c.is_among.ensures.1 m ])
