-- Each text has exactly one reading under a schema.
use Rattle.std.proofs.Common.{◌≡◌, ◌∙◌, ◌⊎◌, ℕ, suc, List, [], ◌∷◌, inl, inr, refl, sym, ap}
use Rattle.std.specs.Prelude.{All}
use Rattle.std.proofs.lemmas.List.Elements.{All-nil, All-cons, All-head, All-tail}
use Rattle.serde_json.specs.Data.{Data}
use Rattle.values.specs.declared.request.Request.{Request}
use Rattle.decision_texts.specs.policy_grammar.declared.policy.Policy.{Policy}
use Rattle.entity_hierarchy.specs.schema.Schemas.{StatedSchema, IsSchemaOf}
use Rattle.entity_hierarchy.specs.entities.declared.fault.EntityFault.{EntityFault}
use Rattle.entity_hierarchy.specs.entities.Requests.{ParsesRequest, RequestRefused}
use Rattle.entity_hierarchy.specs.entities.Laws as requests
use Rattle.validator.specs.typing.declared.fault.TypeFault.{TypeFault}
use Rattle.validator.specs.Passing.{Passes, IsCheckRefused}
use Rattle.validator.specs.Outcomes as checks
use Rattle.decision_texts.specs.answer_lines.declared.refusal.Refusal.{Refusal}
use Rattle.decision_texts.proofs.OutcomeLemmas.{IsDefinite}
use Rattle.schema_decisions.specs.CheckRefusals.{check_refusal}
use Rattle.schema_decisions.specs.Refusals.{entity_refusal}
use Rattle.schema_decisions.specs.Policies.{FirstUnpassed, unpassed_here, unpassed_later}
use Rattle.schema_decisions.specs.UnderSchema.{IsRequestFault, reading_under}

-- theorems about what a schema states
pub record Laws : Type 0 where
  pub checked : checks.PoliciesHaveOneOutcome
  pub apart : checks.PassingIsNotRefused
  pub request : requests.RequestOrRefusal
  pub one_request : requests.OneRequest
  pub no_request : requests.NotBoth
  pub request_refusals : requests.OneRefusal

module _ (laws : Laws) (s : StatedSchema) where
  -- ---- policies that pass

  abbrev AllOrFirst : ℕ → List Policy → Type 0
  AllOrFirst place ps = All (Passes s) ps ⊎ ((refusal : Refusal) × FirstUnpassed s place ps refusal)

  later : (place : ℕ) (p : Policy) (ps : List Policy) → Passes s p → AllOrFirst (suc place) ps → AllOrFirst place (p ∷ ps)
  later place p ps passes (inl all) = inl (All-cons (Passes s) p ps passes all)
  later place p ps passes (inr first) = inr (first.0, unpassed_later passes first.1)

  by_check : (place : ℕ) (p : Policy) (ps : List Policy) (o : checks.CheckResult) → checks.IsCheckResult s p o → AllOrFirst (suc place) ps
      → AllOrFirst place (p ∷ ps)
  by_check place p ps (checks.passes b) is rest = later place p ps is.passes rest
  by_check place p ps (checks.refused f) is rest = inr (check_refusal place f, unpassed_here (record { fault = f; is_fault = is; is = refl }))

  all_or_first : (place : ℕ) (ps : List Policy) → AllOrFirst place ps
  all_or_first place [] = inl (All-nil (Passes s))
  all_or_first place (p ∷ ps) = by_check place p ps (laws.checked s p).0 (laws.checked s p).1 (all_or_first (suc place) ps)

  same_fault : (f g : TypeFault) → checks.refused f ≡ checks.refused g → f ≡ g
  same_fault f g h = cc

  one_check : (p : Policy) (f g : TypeFault) → IsCheckRefused s p f → IsCheckRefused s p g → f ≡ g
  one_check p f g x y = same_fault f g ((laws.checked s p).2 (checks.refused f) x ∙ sym ((laws.checked s p).2 (checks.refused g) y))

  not_first : (place : ℕ) (ps : List Policy) (refusal : Refusal) → All (Passes s) ps → FirstUnpassed s place ps refusal → ⊥
  not_first place [] refusal all first = elim first [ ]
  not_first place (p ∷ ps) refusal all (unpassed_here is_fault) = laws.apart s p is_fault.fault (All-head (Passes s) p ps all) is_fault.is_fault
  not_first place (p ∷ ps) refusal all (unpassed_later passes first) = not_first (suc place) ps refusal (All-tail (Passes s) p ps all) first

  one_first : (place : ℕ) (ps : List Policy) (refusal other : Refusal) → FirstUnpassed s place ps refusal → FirstUnpassed s place ps other
      → refusal ≡ other
  one_first place [] refusal other a b = elim a [ ]
  one_first place (p ∷ ps) refusal other (unpassed_here a) (unpassed_here b) =
      a.is ∙ ap (check_refusal place) (one_check p a.fault b.fault a.is_fault b.is_fault) ∙ sym b.is
  one_first place (p ∷ ps) refusal other (unpassed_here a) (unpassed_later passes b) = absurd (laws.apart s p a.fault passes a.is_fault)
  one_first place (p ∷ ps) refusal other (unpassed_later passes a) (unpassed_here b) = absurd (laws.apart s p b.fault passes b.is_fault)
  one_first place (p ∷ ps) refusal other (unpassed_later passes a) (unpassed_later passing b) = one_first (suc place) ps refusal other a b

  -- ---- the request

  abbrev RequestOrFault : Data → Type 0
  RequestOrFault d = ((q : Request) × ParsesRequest s d q) ⊎ ((refusal : Refusal) × IsRequestFault s d refusal)

  with_refusal : (d : Data) → ((q : Request) × ParsesRequest s d q) ⊎ ((f : EntityFault) × RequestRefused s d f) → RequestOrFault d
  with_refusal d (inl asked) = inl asked
  with_refusal d (inr none) = inr (entity_refusal none.0, record { fault = none.0; is_fault = none.1; is = refl })

  one_fault : (d : Data) (refusal other : Refusal) → IsRequestFault s d refusal → IsRequestFault s d other → refusal ≡ other
  one_fault d refusal other a b = a.is ∙ ap entity_refusal (laws.request_refusals s d a.fault b.fault a.is_fault b.is_fault) ∙ sym b.is

  -- ---- the reading

  pub definite : (bytes : List ℕ) → IsSchemaOf bytes s → IsDefinite (reading_under s)
  definite bytes states = record {
    judged = all_or_first 0;
    one_rejection = one_first 0;
    not_rejected = not_first 0;
    asked = λ d. with_refusal d (laws.request s d);
    one_request = laws.one_request s;
    one_fault = one_fault;
    no_fault = λ d q refusal a b. laws.no_request s d q b.fault a b.is_fault;
    declared = s.actions;
    lists = λ u parents is. (states.answers.actions u).1 (states.answers.member_of u parents is).0;
  }
