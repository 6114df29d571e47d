use Rattle.std.proofs.Common.{◌≡◌, ◌∙◌, ◌<◌, ◌+◌, ◌++◌, ◌∷◌, [], ℕ, List, length, map, take, get_or, sym, ap}
use Rattle.std.specs.Borrow.{Bor}
use Rattle.std.proofs.lemmas.List.{take_more, map-append}
use Rattle.values.specs.declared.entity_uid.EntityUid.{EntityUid}
use Rattle.authoriser.proofs.deciding.copy_uids.Goals as goal

next_copied : (us : List (Bor EntityUid)) (i : ℕ) (u : Bor EntityUid) (old new : List EntityUid) (copy : EntityUid) → i < length us → u ≡ get_or us i u → old ≡ map (λ x. x.now) (take i us) → copy ≡ u.now → new ≡ old ++ copy ∷ [] → new ≡ map (λ x. x.now) (take (i + 1) us)
next_copied us i u old new copy lt here so_far same is =
    is ∙ ap (λ xs. xs ++ copy ∷ []) so_far ∙ ap (λ x. map (λ y. y.now) (take i us) ++ x ∷ []) same
    ∙ sym (map-append (λ (y : Bor EntityUid). y.now) (take i us) (u ∷ []))
    ∙ ap (map (λ (y : Bor EntityUid). y.now)) (sym (take_more us i u lt ∙ ap (λ x. take i us ++ x ∷ []) (sym here)))

pub loop-uid-preserved : goal.loop-uid-preserved
loop-uid-preserved c = next_copied c.args.uids.now c.loop-uid.uid-index c.uid-item.result c.loop-uid.copies.items c.push.new.self.items c.in_ok-copy.field-0 c.loop-uid-test.true c.uid-item.is c.loop-uid.invariant c.in_ok-copy.ensures c.in_ok-push.ensures.items
