use Rattle.std.proofs.Common.{◌≤◌, ◌<◌, ◌⊎◌, length}
use Rattle.std.specs.Prelude.{IsTrue, IsFalse}
use Rattle.connections.specs.Connections.{unsent}
use Rattle.connections.specs.declared.TheConstants.{MAX_UNSENT}
use Rattle.connections.proofs.RoundLemmas.{SoFar}
use Rattle.connections.proofs.table.answer_all.Given as goal

abbrev pub invariant-loop-at : goal.invariant-loop-at
invariant-loop-at g l =
    record {
      so : SoFar g.S.Service.answers g.S.Service.lines g.S.Service.commits g.S.Service.commit_fails g.S.Service.is_unfinished l.from
          l.fn.slots l.fn.service l.at l.any l.slots l.service;
      within : (l.at ≤ l.from) ⊎ (l.at ≤ length l.slots);
      full : IsTrue l.full → MAX_UNSENT < unsent l.slots;
      not_full : IsFalse l.full → unsent l.slots ≤ MAX_UNSENT;
    }
