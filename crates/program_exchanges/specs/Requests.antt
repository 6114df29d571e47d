-- Defines the requests of a pull and of an exchange: for a summary, for the entries that a store lacks, and for a
-- merge.
-- Source: RFC 9112, section 3; RFC 9110, sections 7.2, 7.6.1 and 8.6.
-- Rules of this product: the summary of a store is posted to /v1/delta; an absent state is an empty store.
use Rattle.std.specs.Prelude.{◌≡◌, ℕ, List, [], ◌++◌, Option, Some, None, length, codes, decimal}
use Rattle.schema_decisions.specs.policy_grammar.declared.policy.Policy.{Policy}
use Rattle.sync_messages.specs.schema.Schemas.{StatedSchema, IsSchemaOf}
use Rattle.schema_decisions.specs.entity_data.declared.entity.Entity.{Entity}
use Rattle.stamped_store.specs.Store.{Store, store_of}
use Rattle.stamped_store.specs.Deltas.{summary_of}
use Rattle.sync_messages.specs.sync_format.declared.update.Update.{Update as SentUpdate}
use Rattle.sync_messages.specs.sync_format.Updates.{plain_updates}
use Rattle.sync_messages.specs.sync_format.Summaries.{summary_text}
use Rattle.sync_messages.specs.Messages.{IsMessageOf}
use Rattle.program_exchanges.specs.declared.asking.ExchangeCall.{ExchangeCall}
use Rattle.program_exchanges.specs.declared.asking.ExchangeCall.TheVariants as call

-- `Holds s o m` holds if `m` is the store of the updates of `o`, a message of the schema `s`, or the empty store if `o`
-- is absent.
abbrev pub Holds : StatedSchema → Option (List ℕ) → Store → Type 0
Holds s None m = m ≡ store_of []
Holds s (Some bytes) m = (us : List (SentUpdate Policy Entity)) × IsMessageOf s bytes us
    × (m ≡ store_of (plain_updates us))

-- `delta_request host summary` is the request that posts `summary` to `host`, to get a delta.
unfoldable pub delta_request : List ℕ → List ℕ → List ℕ
delta_request host summary =
    codes "POST /v1/delta HTTP/1.1\r\nHost: " ++ host ++ codes "\r\nContent-Length: " ++ decimal (length summary)
    ++ codes "\r\nConnection: close\r\n\r\n" ++ summary

-- `summary_request host` is the request that asks `host` for its summary.
unfoldable pub summary_request : List ℕ → List ℕ
summary_request host =
    codes "GET /v1/summary HTTP/1.1\r\nHost: " ++ host ++ codes "\r\nConnection: close\r\n\r\n"

-- `merge_request host message` is the request that posts `message` to `host`, to be merged.
unfoldable pub merge_request : List ℕ → List ℕ → List ℕ
merge_request host message =
    codes "POST /v1/merge HTTP/1.1\r\nHost: " ++ host ++ codes "\r\nContent-Length: " ++ decimal (length message)
    ++ codes "\r\nConnection: close\r\n\r\n" ++ message

-- `call_method call` is the method of the request of `call`.
abbrev pub call_method : ExchangeCall → List ℕ
call_method call.Summary = codes "GET"
call_method call.Delta = codes "POST"
call_method call.Merge = codes "POST"

-- `call_path call` is the path of the request of `call`.
abbrev pub call_path : ExchangeCall → List ℕ
call_path call.Summary = codes "/v1/summary"
call_path call.Delta = codes "/v1/delta"
call_path call.Merge = codes "/v1/merge"

-- `call_body call body` is the body that the request of `call` sends: `body`, or `None` if `call` asks for a summary.
abbrev pub call_body : {A : Type 0} → ExchangeCall → A → Option A
call_body call.Summary body = None
call_body call.Delta body = Some body
call_body call.Merge body = Some body

-- `call_size call body` is the number of bytes that `call` sends of `body`.
abbrev pub call_size : ExchangeCall → List ℕ → ℕ
call_size call.Summary body = 0
call_size call.Delta body = length body
call_size call.Merge body = length body

-- `call_request call host body` is the request of `call` at `host`, with `body` unless `call` asks for a summary.
abbrev pub call_request : ExchangeCall → List ℕ → List ℕ → List ℕ
call_request call.Summary host body = summary_request host
call_request call.Delta host body = delta_request host body
call_request call.Merge host body = merge_request host body

-- `request_for host s m` is the request that asks `host` for the entries that the store `m` of the schema `s` lacks.
abbrev pub request_for : List ℕ → StatedSchema → Store → List ℕ
request_for host s m = delta_request host (summary_text s.label (summary_of m))

-- `summary_size s m` is the length of the summary of the store `m`, the body of the request `request_for host s m`.
abbrev pub summary_size : StatedSchema → Store → ℕ
summary_size s m = length (summary_text s.label (summary_of m))

-- `IsReady schema state s m` holds if the text `schema` describes the schema `s`, and `m` is the store of `state`.
pub record IsReady (schema : List ℕ) (state : Option (List ℕ)) (s : StatedSchema) (m : Store) : Type 0 where
  pub schema_is : IsSchemaOf schema s
  pub state_is : Holds s state m
