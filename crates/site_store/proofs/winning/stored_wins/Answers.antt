use Rattle.std.proofs.Common.{◌≡◌, ◌∙◌, ap, sym, true}
use Rattle.std.specs.Prelude.{if◌then◌else◌}
use Rattle.std.specs.Option.{option_copied}
use Rattle.std.specs.Ordering.{is_le}
use Rattle.stamped_store.specs.EntryOrder.{read_cmp}
use Rattle.site_store.proofs.Giving.{at_most_held, nothing_stays}
use Rattle.site_store.proofs.winning.stored_wins.Goals as goal

pub returns-in-Some : goal.returns-in-Some
returns-in-Some g c =
    let held = c.in-Some.held.now in
    let entry = c.args.entry.now in
    let asked : c.is_le.result ≡ is_le (read_cmp entry held) = c.is_le.ensures ∙ ap is_le c.cmp.ensures in (
      λ yes.
          let least : is_le (read_cmp entry held) ≡ true = sym asked ∙ yes in
          (held, ap option_copied c.in-Some.is, ap (λ b. if b then held else entry) least),
      λ stays. asked ∙ at_most_held _ held entry (ap option_copied c.in-Some.is) stays,
    )

pub returns-in-None : goal.returns-in-None
returns-in-None g c =
    (λ no. absurd (cc (no)), λ stays. absurd (nothing_stays _ c.args.entry.now (ap option_copied c.in-None.is) stays))
