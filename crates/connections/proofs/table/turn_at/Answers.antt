use Rattle.std.proofs.Common.{◌≡◌, ◌<◌, ◌⊎◌, ℕ, length, get_or, inl, inr, subst, sym}
use Rattle.std.proofs.lemmas.List.{set-get_or}
use Rattle.std.proofs.lemmas.Option.{slice_get-get_or}
use Rattle.std.specs.Prelude.{slice_set}
use Rattle.connections.specs.Connections.{Answered, ChangesAt, Connection, Lacked, MayAnswer}
use Rattle.connections.specs.Framing.{StaysUnfinished}
use Rattle.connections.proofs.TableLemmas.{written}
use Rattle.connections.proofs.table.turn_at.Goals as goal

pub turn-requires : goal.turn-requires
turn-requires g c =
    let table = c.args.slots.now in
    let d = c.index-slots-at.result in
    c.requires.needs c.args.at (get_or table c.args.at d) (slice_get-get_or table c.args.at d c.requires.here)

pub returns-clause-answered : goal.returns-clause-answered
returns-clause-answered g c done =
    let turn = c.turn.ensures.answered done in (
      turn.request,
      turn.closes,
      turn.reply,
      turn.line,
      written c.args.at (Answered turn.request turn.closes turn.reply turn.line) c.args.slots.now c.index-slots-at.result c.turn.new.self c.requires.here turn.changed c.requires.room,
      turn.answered,
    )

pub returns-clause-idle : goal.returns-clause-idle
returns-clause-idle g c done =
    let table = c.args.slots.now in
    let at = c.args.at in
    let d = c.index-slots-at.result in
    let a : Connection = get_or table at d in
    let idle = c.turn.ensures.idle done in
    let change : ((slice_set table at c.turn.new.self ≡ table) × (MayAnswer a → length a.input < a.needed))
    ⊎ ((needed : ℕ) × ChangesAt at (Lacked needed) table (slice_set table at c.turn.new.self)
    × StaysUnfinished g.S.Service.is_unfinished a.input needed) =
    elim idle.0.change [
      | inl same ↦ inl (subst (λ (t : Connection). slice_set table at t ≡ table) (sym same.0) (set-get_or table at d), same.1)
      | inr less ↦ inr (c.turn.new.self.needed, written at (Lacked c.turn.new.self.needed) table d c.turn.new.self c.requires.here less.0 tt, less.1)
    ] in
    ((a, (slice_get-get_or table at d c.requires.here, idle.0.none, change)), idle.1)
