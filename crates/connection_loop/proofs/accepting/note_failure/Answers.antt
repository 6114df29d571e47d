use Rattle.std.proofs.Common.{◌≡◌, [], ◌∷◌, arith, refl}
use Rattle.connection_loop.specs.Acts.{Warned}
use Rattle.connection_loop.specs.Happenings.{Call}
use Rattle.connection_loop.proofs.SlotLemmas.{first_warning}
use Rattle.connection_loop.proofs.accepting.note_failure.Goals as goal

pub returns-then-first : goal.returns-then-first
returns-then-first g c =
    let first : c.args.course.now.pause ≡ 0 = omega (arith, c.if-first.true) in
    (Call (Warned c.warn.result) ∷ [], c.begin_pause.ensures, first_warning c.args.course.now.pause c.warn.result first, (c.warn.new.self, c.warn.ensures, refl))
