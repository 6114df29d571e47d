use Rattle.std.proofs.Common.{◌∙◌, ap, Some}
use Rattle.std.specs.Prelude.{cond, ◌&&◌, string_bytes}
use Rattle.std.specs.BTreeMap.{is_at}
use Rattle.std.specs.Map.{lookup}
use Rattle.std.specs.Str.{bytes_eq}
use Rattle.values.specs.Names.{text_cmp}
use Rattle.scope_index.specs.Buckets.{policy_in_bucket, is_same_text}
use Rattle.scope_index.proofs.buckets.only.Goals as goal

pub returns : goal.returns
returns c = λ e q.
    c.in_ok-put_named.ensures.ok e q
    ∙ ap (λ es. cond (is_same_text c.args.entity.now e && bytes_eq (string_bytes c.args.id) q) (Some c.args.policy)
    (policy_in_bucket (lookup (is_at (text_cmp e)) es) q)) c.new-named.ensures.empty
