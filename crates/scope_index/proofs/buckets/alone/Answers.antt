use Rattle.std.proofs.Common.{◌∙◌, ap, Some}
use Rattle.std.specs.Prelude.{cond, string_bytes}
use Rattle.std.specs.Str.{bytes_eq}
use Rattle.std.proofs.lemmas.Map.Text.{btree_map_updates_text}
use Rattle.scope_index.specs.Keys.{kept_at}
use Rattle.scope_index.proofs.buckets.alone.Goals as goal

pub returns : goal.returns
returns c = λ q.
    btree_map_updates_text (string_bytes c.args.id) c.new-bucket.result c.insert.new.self (Some c.args.policy) c.in_ok-insert.ensures.updates q
    ∙ ap (λ es. cond (bytes_eq (string_bytes c.args.id) q) (Some c.args.policy) (kept_at es q)) c.new-bucket.ensures.empty
