use Rattle.std.proofs.Common.{refl}
use Rattle.type_checker.specs.Views.{typing_environment}
use Rattle.fault_places.proofs.FoundBlame.{typed_there, faulty_there, still_none}
use Rattle.fault_places.proofs.blaming.blame_at.Goals as goal

pub returns-in-Ok-Typed : goal.returns-in-Ok-Typed
returns-in-Ok-Typed c =
    typed_there (typing_environment c.args.env) c.args.whole.now c.new-known.result.items c.judge.new.known.items c.new-types.result.items
    c.judge.new.types.items c.new-known.ensures.items c.in-Ok-Typed.field-0-0 (rw c.in-Ok-Typed.field-0-is at c.in-Ok-Typed.ensures)

pub descend-requires-clause-known : goal.descend-requires-clause-known
descend-requires-clause-known c =
    let judged = rw c.in-Ok-Faulty.field-0-is at c.in-Ok-Faulty.ensures in
    still_none (typing_environment c.args.env) c.args.whole.now c.new-known.result.items c.judge.new.known.items c.new-types.result.items
    c.judge.new.types.items c.new-known.ensures.items judged.0

pub returns : goal.returns
returns c =
    let judged = rw c.in-Ok-Faulty.field-0-is at c.in-Ok-Faulty.ensures in (
      refl,
      faulty_there (typing_environment c.args.env) c.args.whole.now c.new-known.result.items c.judge.new.known.items c.new-types.result.items
          c.judge.new.types.items c.new-known.ensures.items c.in-Ok-Faulty.fault judged.0 judged.1,
      c.in-Ok.ensures,
    )
