-- Defines how a `Shared` contains its value, so that a recursive type may contain itself in a `Shared`. The toolchain
-- demands these definitions by their names and types, and compares them with the struct. A `Former` describes a type
-- built from the types of its *children*, as `List X` is built from `X`.
use mathlib.Core.Path.{refl}
use mathlib.Core.Former.{Former, this, const, pair, via}
use base.Stored.{gnil}
use base.Fml.{ftrue}
use denote.Memory.{part_of}
use denote.RattleType.{RattleType}
use denote.RawPtr.{Ptr}
use denote.Sharing.{nothing}
use denote.HoleLaws.{Alike}
use denote.HolePlaces.{Recodes, struct_places, laid, one_value}
use denote.Hole.Fix.{over}
use denote.Model.Placed.{view_places}
use denote.Param.Weighed.{Weighed}
use Rattle.std.specs.declared.alloc.Global.{Global}
use Rattle.std.specs.declared.rc.Rc.{Rc}
use Rattle.std.specs.contracts.alloc.Global as heap
use Rattle.std.specs.contracts.rc.Rc as counted
use Rattle.std.specs.contracts.impls.GlobalAllocator.TheImpl.{ghosts}
use Rattle.plain.specs.declared.shared.Shared.TheInside.{Inside}
use Rattle.plain.specs.declared.shared.Shared.TheView.{view, invariant}
use Rattle.plain.specs.contracts.shared.Shared as seen
use Rattle.plain.specs.contracts.shared.Shared.TheInside as inner

-- `the_former child` states that contracts see a `Shared` of `child` as `child`: as the value inside.
-- `the_weighed weight` gives a `Shared` the weight of that value.
abbrev pub the_former : Former {0} → Former {0}
the_former child = child

abbrev pub the_weighed : {child : Former {0}} → Weighed child → Weighed (the_former child)
the_weighed weight = weight

-- `layout` states that the struct consists of an address and the value inside.
abbrev layout : Former {0}
layout = via (pair (const Ptr) this) Inside
    (λ X s. (s.owner.ptr, s.owner.value))
    (λ X p. record { owner = record { ptr = p.0; value = p.1 } }) (λ X s. refl) (λ X p. refl)

-- `refilled b y` is the pointer `b` with the value `y` in place of its own.
abbrev refilled : {X Y : Type 0} → Rc X Global → Y → Rc Y Global
refilled b y = record { ptr = b.ptr; value = y }

-- `rc_row T` is the logic's description of an `Rc` of `T`; `rc_alike` proves of `Rc` what `the_places` below proves of
-- `Shared`.
abbrev rc_row : RattleType → RattleType
rc_row T = counted.the_row T heap.the_row ghosts

-- In this module `change` maps the values of the type `T` to values of `U`.
module _ (T U : RattleType) (change : T.Denot → U.Denot) where
  rc_alike : Alike T U change → Alike (rc_row T) (rc_row U) (λ b. refilled b (change b.value))
  unfolding part_of
  rc_alike same = record {
    mir_same = λ i. (rc_row (one_value T (same.mir_same i) (λ _. ftrue) (λ _ _. nothing) gnil)).mir;
    own_same = λ b i. (rc_row
        (one_value T (same.mir_same i) (same.own_same b.value i) (same.shr_same b.value i) gnil)).own_val
        (refilled b tt);
    shr_same = λ b i. (rc_row
        (one_value T (same.mir_same i) (same.own_same b.value i) (same.shr_same b.value i) gnil)).shr_at
        (refilled b tt);
  }

  -- `the_places same`: if `T` and `U` have the same layout, and each value of `T` owns and lends what its image under
  -- `change` does, then the same holds for `Shared` of `T` and of `U`.
  pub the_places : Alike T U change
      → Alike (seen.the_row T) (seen.the_row U) ((the_former this).map T.Denot U.Denot change)
  the_places same = view_places layout this view (λ X Y f s. refl) (λ X s. refl) T.Denot U.Denot change
      (seen.the_row T).coded (seen.the_row U).coded
      (invariant T.Denot) (invariant U.Denot) (λ s p q. refl) (λ s p q. refl) (λ s e. tt) (λ s e. tt)
      (over (inner.the_row T)) (over (inner.the_row U))
      (struct_places (inner.the_type T) (inner.the_type U) ((λ b. refilled b (change b.value)), tt) _ (λ s. refl) refl
      (laid _ _ _ (rc_alike same), tt))

  -- `the_codes_placed recodes`: if each value of `T` has the same code, for ghost data, as its image under `change`,
  -- then each `Shared` of `T` has the same code as its image.
  pub the_codes_placed : Recodes T U change
      → Recodes (seen.the_row T) (seen.the_row U) ((the_former this).map T.Denot U.Denot change)
  the_codes_placed recodes value = recodes value
