-- Writing out a type in full.
use Rattle.std.proofs.Common.{◌≡◌, ◌∙◌, true, false, Option, Some, None, sym, subst}
use Rattle.schema_types.specs.Qualified.{Qualified}
use Rattle.schema_types.specs.Cedar.{Cedar, IsTooLarge}
use Rattle.schema_types.specs.Expansions.{Declarations, IsExpansion}
use Rattle.schema_types.specs.TypeTables.{Extent, TypeTable, IsTable}
use Rattle.schema_types.specs.inner.Table.{size_in, written_in, fits, HasSize}
use Rattle.schema_types.specs.Outcome.{IsWhole, IsLarge}
use Rattle.schema_types.proofs.Tables.{sound, none_some}
use Rattle.schema_types.proofs.Sizes.{within, too_large, not_large, one_false}

abbrev some : {A : Type 0} → A → Option A
some x = Some x

some_same : {A : Type 0} (x y : A) → some x ≡ some y → x ≡ y
some_same x y e = cc

pub has_one : {B : Type 0} (known : TypeTable) (r : Qualified) → HasSize known r → None ≡ size_in known r → B
has_one known r h e = absurd (none_some (e ∙ h.is))

module _ (commons : Declarations) (known : TypeTable) (h : IsTable commons known) (r : Qualified) (s : Extent) (sized : some s ≡ size_in known r) where
  pub is_large : fits s ≡ false → IsLarge commons r
  is_large e = let f = sound commons known h r s (sym sized) in record { type = f.type; is_written = f.is_written; large = too_large s f.type f.size_is (one_false _ _ e) }

  pub is_whole : fits s ≡ true → (t : Cedar) → some t ≡ written_in known r → IsWhole commons r t
  is_whole e t wrote =
      let f = sound commons known h r s (sym sized) in
      let same : f.type ≡ t = sym (some_same t f.type (wrote ∙ f.at_hand (within s e))) in
      record { is_written = subst (λ (x : Cedar). IsExpansion commons r x) same f.is_written; small = subst (λ (x : Cedar). IsTooLarge x → ⊥) same (not_large s f.type f.size_is (within s e)) }

  pub is_there : {B : Type 0} → fits s ≡ true → None ≡ written_in known r → B
  is_there e wrote = let f = sound commons known h r s (sym sized) in absurd (none_some (wrote ∙ f.at_hand (within s e)))
