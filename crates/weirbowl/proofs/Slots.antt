-- What is said of a slot, from what is said of the site that was taken out of it.
use Rattle.std.proofs.Common.{rules, ◌≡◌, ◌<◌, ℕ, List, length, zero, suc, refl, sym, ap, subst, inl, inr, arith}
use Rattle.std.specs.Prelude.{Option, Some, None, is_some, false}
use Rattle.http.specs.declared.status.StatusCode.{StatusCode}
use Rattle.http_replies.specs.site.Inputs.{Input}
use Rattle.weirbowl.specs.Copies.{copied}
use Rattle.weirbowl.specs.Embedding.{IsCalled}
use Rattle.weirbowl.specs.Opening.{IsOpened, IsOpenError, code_of}
use Rattle.weirbowl.specs.SlotCalls.{Calls, Opens}
use Rattle.weirbowl.specs.declared.call_result.CallResult.{CallResult}
use Rattle.weirbowl.specs.declared.embedded.EmbeddedSite.{EmbeddedSite}
use Rattle.weirbowl.specs.declared.opening.OpenError.{OpenError}
use Rattle.weirbowl.specs.declared.opening.OpenError.TheVariants.{SiteName, Schema}
use Rattle.schema_decisions.specs.answer_lines.declared.refusal.Refusal.{Refusal}
use Rattle.schema_decisions.specs.answer_lines.Refusals.{no_memory}
use Rattle.schema_decisions.specs.schema_types.Codes.{code_of as schema_code}
use Rattle.schema_decisions.specs.schema_types.declared.fault.SchemaFault.{SchemaFault}
use Rattle.schema_decisions.specs.schema_types.declared.fault.SchemaFault.TheVariants as fault

no_site : {A : Type 0} (o : Option A) → is_some o ≡ false → o ≡ None
no_site (Some x) e = search (rules, e)
no_site None e = refl

pub called : (was : Option EmbeddedSite) (old e : EmbeddedSite) (i : Input) (status : StatusCode) (r : CallResult)
    (before after : List ℕ) (is : Option EmbeddedSite) → was ≡ Some old → is ≡ Some e → IsCalled old i status e
    → r ≡ record { status = status; length = length e.body.items } → after ≡ copied e.body.items before
    → Calls was i r before after is
called was old e i status r before after is there new calls result copy =
    subst (λ (o : Option EmbeddedSite). Calls o i r before after is) (sym there) (e, status, new, calls, result, copy)

pub opened : (was : Option EmbeddedSite) (schema name : List ℕ) (e : EmbeddedSite) (is : Option EmbeddedSite)
    → is_some was ≡ false → is ≡ Some e → IsOpened schema name e → Opens was schema name 0 is
opened was schema name e is closed new opens =
    subst (λ (o : Option EmbeddedSite). Opens o schema name 0 is) (sym (no_site was closed)) (inl (refl, (e, new, opens)))

-- the number of an error is not 0, which says that a site is open

schema_number : (f : SchemaFault) → 0 < schema_code f
schema_number fault.NoMemory = omega arith
schema_number fault.NotJson = omega arith
schema_number fault.BadShape = omega arith
schema_number fault.UnknownName = omega arith
schema_number fault.TypeCycle = omega arith
schema_number fault.ActionCycle = omega arith
schema_number fault.TypeTooLarge = omega arith

refusal_number : (schema name : List ℕ) (r : Refusal) (k : ℕ) → r.code ≡ k → IsOpenError schema name (Schema r) → 0 < r.code
refusal_number schema name r (suc k) e due = omega (arith, e)
refusal_number schema name r zero e due =
    let refused = (due (λ same. omega (arith, e, ap (λ (x : Refusal). x.code) same))).1 in
    omega (arith, schema_number refused.fault, ap (λ (x : Refusal). x.code) refused.is, e)

number : (schema name : List ℕ) (f : OpenError) → IsOpenError schema name f → 0 < code_of f
number schema name SiteName due = omega arith
number schema name (Schema r) due = refusal_number schema name r r.code refl due

pub not_opened : (was : Option EmbeddedSite) (schema name : List ℕ) (f : OpenError) (k : ℕ) → is_some was ≡ false
    → IsOpenError schema name f → k ≡ code_of f → Opens was schema name k was
not_opened was schema name f k closed due is =
    subst (λ (o : Option EmbeddedSite). Opens o schema name k o) (sym (no_site was closed))
    (inr (subst (λ (n : ℕ). 0 < n) (sym is) (number schema name f due), refl, (f, due, is)))

-- out of memory for the box
pub lacks : (was : Option EmbeddedSite) (schema name : List ℕ) → is_some was ≡ false → Opens was schema name 1 was
lacks was schema name closed =
    not_opened was schema name (Schema no_memory) 1 closed (λ other. absurd (other refl)) refl
