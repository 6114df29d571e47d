use Rattle.std.proofs.Common.{◌≡◌, ◌∙◌, sym}
use Rattle.std.proofs.lemmas.Result.{IfOk-weaker}
use Rattle.ancestor_search.specs.Deciding.{same_uid}
use Rattle.ancestor_search.proofs.Cycles.{uid_ties}
use Rattle.ancestor_closure.proofs.relatives.shared.Goals as goal

pub returns-then-eq : goal.returns-then-eq
returns-then-eq c =
    let x = c.deref.result.now in
    let y = c.args.uid.now in
    let same : x ≡ y = same_uid x y (sym (uid_ties x y) ∙ sym c.eq.ensures ∙ c.if-eq.true) in
    IfOk-weaker c.share.result (λ s. s ≡ c.in-Some.known.now.uid) (λ s. s ≡ y) (λ s e. e ∙ sym c.deref.ensures ∙ same) c.share.ensures
