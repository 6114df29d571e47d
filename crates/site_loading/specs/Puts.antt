-- Defines puts of policies and entities into a site, one after another, up to the first that is rejected.
-- Rules of this product: each put is accepted or rejected as a single put to the store that the earlier puts left.
use Rattle.std.specs.Prelude.{◌≡◌, ◌⊎◌, ℕ, suc, List, [], ◌∷◌, Some, Ok, Err}
use Rattle.serde_json.specs.Data.{Data}
use Rattle.schema_decisions.specs.schema.Schemas.{StatedSchema}
use Rattle.site.specs.stamped_store.declared.entry.Stamp.{Stamp}
use Rattle.site.specs.stamped_store.Store.{Store}
use Rattle.schema_decisions.specs.answer_lines.declared.place.Place.TheVariants.{Index}
use Rattle.schema_decisions.specs.answer_lines.declared.refusal.Refusal.{Refusal}
use Rattle.schema_decisions.specs.answer_lines.Refusals.{no_memory}
use Rattle.site.specs.declared.fault.SiteFault.{SiteFault}
use Rattle.site.specs.declared.fault.SiteFault.TheVariants.{NoMemory}
use Rattle.site.specs.declared.outcome.Put.{Put}
use Rattle.site.specs.Faults.{code_of, within_of}
use Rattle.site.specs.Readings.{parsed}
use Rattle.site.specs.Steps.{PutsPolicy, PutsEntity}

-- An `Operation` is a put: `policy_put id text` puts the text of a policy under its id, and `entity_put json` the
-- entity that `json` describes.
pub data Operation : Type 0 where
  policy_put : List ℕ → List ℕ → Operation
  entity_put : Data → Operation

-- `put_refusal index f` is the report on the error `f` of the put at the index `index` of its file; `NoMemory` has no
-- place.
abbrev pub put_refusal : ℕ → SiteFault → Refusal
put_refusal index NoMemory = no_memory
put_refusal index f = record { code = code_of f; place = Some (Index index); within = within_of f }

-- for a site of the schema `schema`, named `n`
module _ (schema : StatedSchema) (n : List ℕ) where
  -- `Accepts s operation t` holds if the site with the store `s` accepts `operation`, and then has the store `t`.
  abbrev pub Accepts : Store → Operation → Store → Type 0
  Accepts s (policy_put id text) t = (put : Put) × PutsPolicy schema n s id text (Ok put) t
  Accepts s (entity_put json) t = (stamp : Stamp) × PutsEntity (parsed schema) n s (Some json) (Ok stamp) t

  -- `Refuses s operation f` holds if the site with the store `s` rejects `operation` with the error `f`.
  abbrev pub Refuses : Store → Operation → SiteFault → Type 0
  Refuses s (policy_put id text) f = PutsPolicy schema n s id text (Err f) s
  Refuses s (entity_put json) f = PutsEntity (parsed schema) n s (Some json) (Err f) s

  -- `RefusesAt s place operation refusal` holds if the site with the store `s` rejects `operation`, at the index
  -- `place` of its file, and `refusal` reports the error.
  abbrev pub RefusesAt : Store → ℕ → Operation → Refusal → Type 0
  RefusesAt s place operation refusal = (f : SiteFault) × Refuses s operation f × (refusal ≡ put_refusal place f)

  -- `AcceptsAll s operations t` holds if the site with the store `s` accepts all of `operations`, one after another,
  -- and then has the store `t`.
  abbrev pub AcceptsAll : Store → List Operation → Store → Type 0
  AcceptsAll s [] t = t ≡ s
  AcceptsAll s (operation ∷ operations) t = (m : Store) × Accepts s operation m × AcceptsAll m operations t

  -- `RefusesFirst s place operations refusal` holds if `refusal` reports the error of the first of `operations` that
  -- the site, from the store `s`, rejects, after it accepted those before. The first of `operations` has the index
  -- `place` in its file.
  abbrev pub RefusesFirst : Store → ℕ → List Operation → Refusal → Type 0
  RefusesFirst s place [] refusal = ⊥
  RefusesFirst s place (operation ∷ operations) refusal = RefusesAt s place operation refusal
      ⊎ ((m : Store) × Accepts s operation m × RefusesFirst m (suc place) operations refusal)
