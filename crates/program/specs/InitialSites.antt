-- Defines the initial site of a run.
-- Source: docs/operating.md.
-- Rules of this product: the schema is checked first; then a message (a state or a delta) is rejected as a whole, or
-- the site applies all of its updates. With `--explain`, what is rejected in the schema is explained or, if nothing is,
-- the error of the message, with the name of its file.
use Rattle.std.specs.Prelude.{◌≡◌, ◌⊎◌, ℕ, Bool, List, [], Option, None, Some}
use Rattle.program_drills.specs.policy_grammar.declared.policy.Policy.{Policy}
use Rattle.site_loading.specs.schema.Schemas.{StatedSchema, IsSchemaOf}
use Rattle.program_drills.specs.entity_data.declared.entity.Entity.{Entity}
use Rattle.program_lines.specs.stamped_store.Store.{Store, store_of}
use Rattle.program_exchanges.specs.sync_format.declared.fault.MessageFault.{MessageFault}
use Rattle.program_exchanges.specs.sync_format.declared.update.Update.{Update as SentUpdate}
use Rattle.program_exchanges.specs.sync_format.Updates.{plain_updates}
use Rattle.program_drills.specs.answer_lines.declared.refusal.Refusal.{Refusal}
use Rattle.program_drills.specs.schema_decisions.Checks.{IsSchemaRefused}
use Rattle.site_loading.specs.site.Faults.{code_of, within_of}
use Rattle.program_drills.specs.http_replies.Replies.{fault_place}
use Rattle.site_loading.specs.site.SiteViews.{SiteView, schema_of, store_in}
use Rattle.site_loading.specs.site.declared.fault.SiteFault.{SiteFault}
use Rattle.site_loading.specs.site.declared.fault.SiteFault.TheVariants.{Message}
use Rattle.program_drills.specs.sync_messages.Messages.{IsMessageOf, IsMessageFaultOf}
use Rattle.program.specs.Courses.{Course}
use Rattle.program.specs.ExplainOption.{schema_files, IsRefusalText, IsErrorThenText}

-- `site_refusal f` is the error `f` of a site as it is reported.
abbrev pub site_refusal : SiteFault → Refusal
site_refusal f = record { code = code_of f; place = fault_place f; within = within_of f }

-- `BeginsWith s o m` holds if `m` is the store of the updates of `o`, a message of the schema `s`, or the empty store
-- if `o` is absent.
abbrev pub BeginsWith : StatedSchema → Option (List ℕ) → Store → Type 0
BeginsWith s None m = m ≡ store_of []
BeginsWith s (Some bytes) m = (us : List (SentUpdate Policy Entity)) × IsMessageOf s bytes us
    × (m ≡ store_of (plain_updates us))

-- `IsInitialSite schema name state site` holds if `site` has the schema that the bytes `schema` describe, the name
-- `name`, and the store of the updates of the message `state`, or the empty store if `state` is absent.
pub record IsInitialSite (schema : List ℕ) (name : List ℕ) (state : Option (List ℕ)) (site : SiteView) : Type 0 where
  pub schema_is : IsSchemaOf schema (schema_of site)
  pub name_is : site.name ≡ name
  pub begins : BeginsWith (schema_of site) state (store_in site)

-- `IsStateRefused s o r` holds if the state `o` is present, and `r` is its first error as a message of the schema `s`.
abbrev pub IsStateRefused : StatedSchema → Option (List ℕ) → Refusal → Type 0
IsStateRefused s None r = ⊥
IsStateRefused s (Some bytes) r =
    (f : MessageFault) × IsMessageFaultOf s bytes f × (r ≡ site_refusal (Message f))

-- `IsInitialSiteRefused schema state r` holds if `r` is the error of `schema` or, if that has none, the error of
-- `state` as a message under this schema.
abbrev pub IsInitialSiteRefused : List ℕ → Option (List ℕ) → Refusal → Type 0
IsInitialSiteRefused schema state r = IsSchemaRefused schema r
    ⊎ ((s : StatedSchema) × IsSchemaOf schema s × IsStateRefused s state r)

-- `IsNotCreated wanted schema_file state_file schema state`: the error of `schema` or the error of `state` (the
-- contents of `schema_file` and `state_file`), or out of memory, is reported. If `wanted`, what is rejected in the
-- schema is then explained or, if nothing is, the error of the state, or out of memory by its code.
abbrev pub IsNotCreated : {L G N : Type 0} → Bool → List ℕ → Option (List ℕ) → List ℕ → Option (List ℕ) → Course L G N
IsNotCreated wanted schema_file state_file schema state = IsErrorThenText wanted
    (IsRefusalText (schema_files schema_file schema) state_file) (IsInitialSiteRefused schema state)
