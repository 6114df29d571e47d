-- Defines which requests are changes, and the end of a log's line for a change that was made.
-- Source: docs/formats.md, the log.
-- Rules of this product: the last member of that line, `stamp`, is the body of the reply, which has the change's stamp.
use Rattle.std.specs.Prelude.{ℕ, List, ◌++◌, codes, Ok}
use Rattle.http_service.specs.LogLines.{status_text}
use Rattle.http_service.specs.Routes.{Asked}
use Rattle.http_replies.specs.site.Inputs.{PutPolicy, DeletePolicy, PutEntity, DeleteEntity}

-- `IsChange asked` holds if a request that asks for `asked` puts or deletes a policy or an entity.
abbrev pub IsChange : Asked → Type 0
IsChange (Ok (PutPolicy id text)) = Unit {0}
IsChange (Ok (DeletePolicy id)) = Unit {0}
IsChange (Ok (PutEntity body)) = Unit {0}
IsChange (Ok (DeleteEntity body)) = Unit {0}
IsChange _ = ⊥

-- `stamped_end reply` is the end of the line of a change that was made, where `reply` is the body of its reply, as in
-- ,"status":200,"stamp":{"count":2,"site":"1"}}
abbrev pub stamped_end : List ℕ → List ℕ
stamped_end reply = status_text 200 ++ codes ",\"stamp\":" ++ reply ++ codes "}\n"
