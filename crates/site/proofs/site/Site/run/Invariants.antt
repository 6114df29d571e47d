use Rattle.std.proofs.Common.{◌≡◌, ◌≤◌, map, take, length, vec_capacity}
use Rattle.site.specs.SiteViews.{schema_of, store_in, IsSameSite}
use Rattle.site.specs.Inputs.{input_of}
use Rattle.site.specs.Runs.{Run}
use Rattle.site.proofs.site.Site.run.Given as goal

-- the inputs so far have their replies, and there is room for the others
abbrev pub invariant-loop-input : goal.invariant-loop-input
invariant-loop-input l = record {
  room : length l.inputs ≤ vec_capacity l.replies;
  count : length l.replies.items ≡ l.input-index;
  same : IsSameSite l.fn.self l.self;
  run : Run (schema_of l.fn.self) l.fn.self.name (store_in l.fn.self) (map input_of (take l.input-index l.inputs))
      l.replies.items (store_in l.self);
}
