use Rattle.std.proofs.Common.{◌≡◌, [], length, true, sym, ◌∙◌, ap, refl, arith}
use Rattle.std.proofs.lemmas.Bool.Decides.{nat_tests}
use Rattle.extensions.specs.plain.Words.{IsIdent}
use Rattle.values.proofs.Scanning.{is_cut, first_not_ident, only_ident, no_colons, behind_colons, none_of_length}
use Rattle.values.proofs.Scanning.{colons_from_test, no_colons_from_test}
use Rattle.values.proofs.path.is_path.Goals as goal

pub is_ident-requires : goal.is_ident-requires
is_ident-requires c = (is_cut _ _ _ _ c.word_len.ensures.is c.split_at.ensures.front c.split_at.ensures.back).bytes

pub returns-then-not-is_ident : goal.returns-then-not-is_ident
returns-then-not-is_ident c =
    let cut = is_cut _ _ _ _ c.word_len.ensures.is c.split_at.ensures.front c.split_at.ensures.back in
    let not_ident : IsIdent c.split_at.result.0.now → ⊥ = λ i. let t : c.is_ident.result ≡ true = c.is_ident.ensures.1 i in absurd (cc) in
    ((λ t. absurd (cc)), (λ p. absurd (first_not_ident _ _ _ cut not_ident (c.loop-tail.invariant.0 p))))

pub returns-then-is_empty : goal.returns-then-is_empty
returns-then-is_empty c =
    let cut = is_cut _ _ _ _ c.word_len.ensures.is c.split_at.ensures.front c.split_at.ensures.back in
    let ident : IsIdent c.split_at.result.0.now = c.is_ident.ensures.0 c.if-not-is_ident.false in
    let none : c.split_at.result.1.now ≡ [] = none_of_length _ (sym c.is_empty.ensures ∙ c.if-is_empty.true) in
    ((λ t. c.loop-tail.invariant.1 (only_ident _ _ _ cut none ident)), (λ p. refl))

pub loop-tail-preserved : goal.loop-tail-preserved
loop-tail-preserved c =
    let cut = is_cut _ _ _ _ c.word_len.ensures.is c.split_at.ensures.front c.split_at.ensures.back in
    let ident : IsIdent c.split_at.result.0.now = c.is_ident.ensures.0 c.if-not-is_ident.false in
    let found = c.in-Some.ensures.cases in
    let on = behind_colons _ _ _ c.in-Some.more.now cut ident (colons_from_test _ _ found.0 found.1) in
    ((λ p. on.0 (c.loop-tail.invariant.0 p)), (λ p. c.loop-tail.invariant.1 (on.1 p)))

pub returns-in-None : goal.returns-in-None
returns-in-None c =
    let cut = is_cut _ _ _ _ c.word_len.ensures.is c.split_at.ensures.front c.split_at.ensures.back in
    let some : c.split_at.result.1.now ≡ [] → ⊥ = λ e. let z : length c.split_at.result.1.now ≡ 0 = ap length e in grind (arith, nat_tests) in
    ((λ t. absurd (cc)), (λ p. absurd (no_colons _ _ _ cut some (no_colons_from_test _ c.in-None.ensures.cases) (c.loop-tail.invariant.0 p))))
