use Rattle.std.proofs.Common.{subst, sym, arith, ◌∙◌, ◌≡◌, ◌∷◌, [], ℕ, refl, List}
use Rattle.stamped_store.specs.SiteNames.{KeepsName, padded}
use Rattle.stamped_store.proofs.SiteNames.{spelled, five, spelled_are_names, five_digits_spelled}
use Rattle.stamped_store.proofs.site_name.SiteName.from_number.Goals as goal

kept : (n a b c d e : ℕ) → (a ∷ b ∷ c ∷ d ∷ e ∷ []) ≡ spelled n → KeepsName (padded (a ∷ b ∷ c ∷ d ∷ e ∷ [])) 5
kept n a b c d e is =
    subst (λ (name : List ℕ). KeepsName (padded name) 5) (sym is) (record { named = spelled_are_names n; counted = refl; whole = refl })

pub invariant_of-result : goal.invariant_of-result
invariant_of-result c = kept c.args.number _ _ _ _ _
    (five c.last_digit.ensures c.last_digit-2.ensures c.last_digit-3.ensures c.last_digit-4.ensures c.last_digit-5.ensures)

pub returns : goal.returns
returns c = five c.last_digit.ensures c.last_digit-2.ensures c.last_digit-3.ensures c.last_digit-4.ensures c.last_digit-5.ensures
    ∙ sym (five_digits_spelled c.args.number (omega (arith, c.ranges.number.fits)))
