use Rattle.std.proofs.Common.{◌∙◌, [], ◌∷◌, ◌++◌, take, refl, sym, ap, subst, inl, inr}
use Rattle.std.specs.Prelude.{Contains}
use Rattle.std.proofs.lemmas.List.{take_more, take_all}
use Rattle.std.proofs.lemmas.List.Elements.{Contains-push_cases}
use Rattle.ancestor_search.specs.Hierarchy.{referenced}
use Rattle.ancestor_search.specs.Deciding.{Contains-none}
use Rattle.ancestor_search.proofs.Members.{referenced-push}
use Rattle.ancestor_closure.specs.Lists.{HasEntry}
use Rattle.ancestor_closure.proofs.changing.reserve_all.Goals as goal

pub loop-uid-init : goal.loop-uid-init
loop-uid-init c = record { lists = λ q. refl; children = λ q. refl; stay = λ q h. h; there = λ x h. Contains-none x h }

pub returns-in_err-reserve-clause-lists : goal.returns-in_err-reserve-clause-lists
returns-in_err-reserve-clause-lists c = λ q. c.reserve.ensures.lists q ∙ c.loop-uid.invariant.lists q

pub returns-in_err-reserve-clause-children : goal.returns-in_err-reserve-clause-children
returns-in_err-reserve-clause-children c = λ q. c.reserve.ensures.children q ∙ c.loop-uid.invariant.children q

pub returns-in_err-reserve-clause-stay : goal.returns-in_err-reserve-clause-stay
returns-in_err-reserve-clause-stay c = λ q h. c.reserve.ensures.stay q (c.loop-uid.invariant.stay q h)

pub loop-uid-preserved : goal.loop-uid-preserved
loop-uid-preserved c =
    let p = c.uid-item.result in
    let ps = take c.loop-uid.uid-index c.args.uids.now in
    let more = ap referenced (take_more c.args.uids.now c.loop-uid.uid-index p c.loop-uid-test.true ∙ ap (λ z. ps ++ z ∷ []) (sym c.uid-item.is)) ∙ referenced-push ps p in
    record {
      lists = λ q. c.reserve.ensures.lists q ∙ c.loop-uid.invariant.lists q;
      children = λ q. c.reserve.ensures.children q ∙ c.loop-uid.invariant.children q;
      stay = λ q h. c.reserve.ensures.stay q (c.loop-uid.invariant.stay q h);
      there = λ x h. elim (Contains-push_cases (referenced ps) p.now x (subst (λ l. Contains l x) more h)) [
        | inl t ↦ c.reserve.ensures.stay x (c.loop-uid.invariant.there x t)
        | inr same ↦ subst (λ z. HasEntry c.reserve.new.relatives z) same c.in_ok-reserve.ensures.there
      ];
    }

pub returns-clause-there : goal.returns-clause-there
returns-clause-there c = λ x h. c.loop-uid.invariant.there x (subst (λ l. Contains l x) (ap referenced (sym (take_all _ c.args.uids.now c.loop-uid-test.false))) h)
