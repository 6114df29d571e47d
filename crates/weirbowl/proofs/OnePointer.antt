-- A struct with one pointer in it, apart and together: its machine value, and what it owns there.
use base.Logic.{never, fst∗}
use denote.Laws.{shows}
use denote.Memory.{lone}
use denote.Param.Laws.{Laws}
use denote.RattleType.{RattleType, Valss}
use denote.RawPtr.{Ptr, RawPtr, block_ptr, null_ptr, in_a_block}
use denote.Steps.{nothing, peeks}
use denote.Struct.Owning.{shape}
use denote.Struct.Struct.{within}
use mir.Raw.{raw as bare}
use mir.Val.{Val, vptr, vstruct, vcons, vnil}
use seplogic.Ra.Ura.{Ura}
use types.Kit.{Item, Goal, Seq, Step, step, ‵, ◌$◌, drop, fsplit, fjoin, fpack, feq_i}
use types.Logic.{Logic, sem}
use Rattle.std.proofs.Common.{rules, ◌≡◌, ℕ, List, [], ◌∷◌, refl, ap, ◌∙◌}
use Rattle.std.specs.Prelude.{Option, Some, None, is_some, true}
use Rattle.weirbowl.specs.contracts.embedded.EmbeddedSite as site
use Rattle.weirbowl.specs.Ownership.{may_free, owned_at}
use Rattle.weirbowl.specs.contracts.pointer.SitePointer as kept
use Rattle.weirbowl.specs.contracts.raw_box.RawBox as apart
use Rattle.weirbowl.proofs.raw_box.RawBox.TheLaws.{lowers}

-- the machine value of such a struct, and of the pointer alone
abbrev pub struct_of : ℕ → ℕ → Val
struct_of b o = vstruct (vcons (vptr b o) vnil)

abbrev pointer_of : ℕ → ℕ → List Val
pointer_of b o = vptr b o ∷ []

abbrev pub Site : RattleType
Site = site.the_row

abbrev pub SitePointer : RattleType
SitePointer = kept.the_row

abbrev pub RawBox : RattleType → RattleType
RawBox R = apart.the_row R

module _ {M : Type 1} {𝓤 : Ura M} {𝓛 : Logic 𝓤} {K : Type 0} {Γ : List (Item 𝓤)} {G : Goal 𝓤 𝓛.H} where
  -- A box that was taken apart: its pointer leads into a block, and what is owned there comes to the head.
  pub opens_raw : (R : RattleType) → Laws R → K → (d : (RawBox R).Denot) (vs : List Val)
      → ((b o : ℕ) → d.address ≡ block_ptr b o → vs ≡ struct_of b o ∷ []
      → Seq K 𝓛 (‵ (owned_at R (block_ptr b o) d.value) ∷ Γ) G)
      → Seq K 𝓛 (‵ ((RawBox R).own_val d vs) ∷ Γ) G
  opens_raw R laws t d vs next =
      let low = lowers R laws in
      let value_at : Ptr → List Val = λ p. low.lowered (record d { address = p }) ∷ [] in
      peeks t (RawBox R) _ (shows 𝓛 (RawBox R)) d vs (λ is.
      fsplit t $ drop t $
      in_a_block t d.address (λ p. owned_at R p d.value) (fst∗ 𝓤 (never 𝓤) (sem 𝓛 (may_free (bare (lone R.mir)) null_ptr)))
      (λ b o leads. next b o leads (low.val_is d vs is ∙ ap value_at leads)))

  -- The way back.
  pub closes_raw : (R : RattleType) → K → (b o : ℕ) (x : R.Denot)
      → Step K 𝓛 (‵ ((RawBox R).own_val (record { address = block_ptr b o; value = x }) (struct_of b o ∷ [])) ∷ Γ) G
      (‵ (owned_at R (block_ptr b o) x) ∷ Γ) G
  closes_raw R t b o x = step (λ rest.
      nothing t $ feq_i t (List Val) (pointer_of b o) (pointer_of b o) refl $ fjoin t $
      feq_i t (List Val) (struct_of b o ∷ []) (struct_of b o ∷ []) refl $ fjoin t $
      fpack t (Valss (RawPtr ∷ [])) (within (shape (apart.the_type R)) (block_ptr b o, tt) (struct_of b o ∷ [])) (pointer_of b o, tt) $
      fjoin t $ rest)

  -- The same for the pointer that C keeps, at a site.
  pub closes_kept : K → (b o : ℕ) (x : Site.Denot)
      → Step K 𝓛 (‵ (SitePointer.own_val (record { address = block_ptr b o; site = Some x }) (struct_of b o ∷ [])) ∷ Γ) G
      (‵ (owned_at Site (block_ptr b o) x) ∷ Γ) G
  closes_kept t b o x = step (λ rest.
      nothing t $ feq_i t (List Val) (pointer_of b o) (pointer_of b o) refl $ fjoin t $
      feq_i t (List Val) (struct_of b o ∷ []) (struct_of b o ∷ []) refl $ fjoin t $
      fpack t (Valss (RawPtr ∷ [])) (within (shape kept.the_type) (block_ptr b o, tt) (struct_of b o ∷ [])) (pointer_of b o, tt) $
      fjoin t $ rest)

-- The value of an Option that has one.
pub value_there : {A : Type 0} (o : Option A) → is_some o ≡ true → (x : A) × (o ≡ Some x)
value_there (Some x) e = (x, refl)
value_there None e = search (rules, e)
