-- What is found among all ancestors of an entity is what a test of who is above whom tells.
use Rattle.std.specs.Prelude.{◌≡◌, ◌⊎◌, ◌↔◌, ◌||◌, ◌<◌, ◌+◌, ℕ, List, ◌∷◌, length, Bool, true, false, Result, Ok, Err, IsTrue, Contains, refl}
use Rattle.std.proofs.Common.{inl, inr, ap, sym, ◌∙◌, drop, get_or}
use Rattle.std.proofs.lemmas.List.{drop_more}
use Rattle.values.specs.declared.entity_uid.EntityUid.{EntityUid}
use Rattle.values.specs.Values.{PlainValue}
use Rattle.std.proofs.lemmas.Bool.Decides.{same_from_decides}
use Rattle.ancestor_search.specs.Hierarchy.{AreAllAncestorsOf, IsIn}
use Rattle.ancestor_search.specs.Decided.{Decides}
use Rattle.evaluator.specs.declared.fault.EvalFault.{EvalFault}
use Rattle.evaluator.specs.Outcomes.{entity_uid_in}
use Rattle.evaluator.specs.Operators.{Entities}
use Rattle.evaluator.specs.inner.Computing.{DecidedEntities, decided_entities, demanded, and_then, is_in, in_members}
use Rattle.evaluator.proofs.Telling.{is_in_iff}

pub within_is : (W : Entities) (ancestor_test : EntityUid → EntityUid → Bool) → Decides W.parents ancestor_test →
    (a b : EntityUid) (ancestors : List EntityUid) → AreAllAncestorsOf W.parents a ancestors →
    (found : Bool) → (IsTrue found ↔ ((a ≡ b) ⊎ Contains ancestors b)) → found ≡ is_in (decided_entities W.stored ancestor_test) a b
within_is W ancestor_test d a b ancestors all found tells = same_from_decides {P = IsIn W.parents a b} found (is_in (decided_entities W.stored ancestor_test) a b) (
  (λ t. elim (tells.0 t) [ inl e ↦ inl e | inr m ↦ inr ((all b).0 m) ]),
  (λ i. tells.1 (elim i [ inl e ↦ inl e | inr path ↦ inr ((all b).1 path) ])),
)
    (is_in_iff W ancestor_test d a b)

pub newly_found : (before after here : Bool) → before ≡ false → after ≡ here → after ≡ (before || here)
newly_found true after here none is = absurd (cc)
newly_found false after here none is = is

pub found_before : (before after here : Bool) → before ≡ true → after ≡ before → after ≡ (before || here)
found_before true after here some is = is
found_before false after here some is = absurd (cc)

or_joined : (a b c : Bool) → (a || (b || c)) ≡ ((a || b) || c)
or_joined true b c = refl
or_joined false b c = refl

rest_judged : (before after here : Bool) (rest : Result Bool EvalFault) → after ≡ (before || here) →
    and_then (and_then rest (λ r. Ok (here || r))) (λ r. Ok (before || r)) ≡ and_then rest (λ r. Ok (after || r))
rest_judged before after here (Ok r) is = ap (λ b. Ok b) (or_joined before here r ∙ ap (λ b. b || r) (sym is))
rest_judged before after here (Err e) is = refl

-- one member more is judged
pub member_judged : (E : DecidedEntities) (a : EntityUid) (vs : List PlainValue) (i : ℕ) (v : PlainValue) (b : EntityUid) (before after : Bool) →
    i < length vs → v ≡ get_or vs i v → demanded (entity_uid_in v) ≡ Ok b → after ≡ (before || is_in E a b) →
    in_members E a vs ≡ and_then (in_members E a (drop i vs)) (λ r. Ok (before || r)) →
    in_members E a vs ≡ and_then (in_members E a (drop (i + 1) vs)) (λ r. Ok (after || r))
member_judged E a vs i v b before after lt is entity same so_far =
    so_far
    ∙ ap (λ ws. and_then (in_members E a ws) (λ r. Ok (before || r))) (drop_more vs i v lt ∙ ap (λ w. w ∷ drop (i + 1) vs) (sym is))
    ∙ ap (λ d. and_then (and_then d (λ u. and_then (in_members E a (drop (i + 1) vs)) (λ r. Ok (is_in E a u || r)))) (λ r. Ok (before || r))) entity
    ∙ rest_judged before after (is_in E a b) (in_members E a (drop (i + 1) vs)) same
