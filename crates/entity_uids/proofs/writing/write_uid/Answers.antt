use Rattle.std.proofs.Common.{ap₂, subst, List, ℕ}
use Rattle.entity_uids.specs.Tokens.{AppendsTokens, tokens_of}
use Rattle.entity_uids.specs.Uids.{uid_json}
use Rattle.values.specs.declared.entity_uid.EntityUid.{EntityUid}
use Rattle.entity_uids.proofs.Adding.{start, then}
use Rattle.entity_uids.proofs.writing.write_uid.Goals as goal

abbrev uid : List ℕ → List ℕ → EntityUid
uid type_name id = record { type_name = type_name; id = id }

pub returns : goal.returns
returns c =
    subst (λ (u : EntityUid). AppendsTokens c.args.out.now c.end_object.new.self (tokens_of (uid_json u))) (ap₂ uid c.as_str-2.ensures c.as_str.ensures)
    (then (then (then (then (then (then (start c.args.out.now)
    c.in_ok-begin_object.ensures) c.in_ok-key.ensures) c.in_ok-string.ensures) c.in_ok-key-2.ensures) c.in_ok-string-2.ensures) c.in_ok-end_object.ensures)
