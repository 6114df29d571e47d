-- A stored entry stays if and only if the other entry is at most that.
use Rattle.std.proofs.Common.{◌≡◌, ◌∙◌, Option, Some, None, true, false, refl, ap, sym, subst}
use Rattle.std.specs.Prelude.{if◌then◌else◌}
use Rattle.std.specs.Ordering.{is_le}
use Rattle.std.specs.Cmp.{tied_itself}
use Rattle.stamped_store.specs.declared.entry.Entry.{Entry}
use Rattle.stamped_store.specs.EntryOrder.{read_cmp, greater}
use Rattle.stamped_store.specs.EntryJoins.{read_cmp_total}
use Rattle.site_store.specs.Winning.{StoredWins}

module _ {P : Type 0} where
  at_most : (e entry : Entry P) → greater e entry ≡ e → is_le (read_cmp entry e) ≡ true
  at_most e entry same =
      elim (is_le (read_cmp entry e)) as (λ t. is_le (read_cmp entry e) ≡ t → (if t then e else entry) ≡ e → t ≡ true) [
        | true ↦ λ is s. refl
        | false ↦ λ is s. sym is ∙ ap (λ x. is_le (read_cmp x e)) s ∙ ap is_le (tied_itself read_cmp_total e)
      ] refl same

  pub at_most_held : (o : Option (Entry P)) (held entry : Entry P) → o ≡ Some held → StoredWins o entry
      → is_le (read_cmp entry held) ≡ true
  at_most_held o held entry is (e, there, same) =
      let one : e ≡ held = cc (is, there) in
      subst (λ x. is_le (read_cmp entry x) ≡ true) one (at_most e entry same)

  pub nothing_stays : (o : Option (Entry P)) (entry : Entry P) → o ≡ None → StoredWins o entry → ⊥
  nothing_stays o entry none (e, there, same) = cc (none, there)
