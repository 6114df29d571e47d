-- `from_box`, by its statements: std's `into_raw` is called with the box, and the pointer that it returns is stored.
use base.Fml.{ftrue, flft}
use base.Fraction.{full_share}
use base.Logic.{SProp, emp, never, id⊢, fst∗}
use contract.BorrowLft.{◌⊑◌, ⊑_refl}
use contract.Monad.{fact, fact_i}
use contract.Running.{tables}
use denote.Exit.{no}
use denote.Param.{param, layout, bounded}
use denote.Param.NoDrop.{glues}
use denote.RattleType.{owns}
use denote.RawPtr.{Ptr, RawPtr, block_ptr, null_ptr, ptr_val, in_a_block}
use denote.Signature.{types_at, plain}
use denote.Steps.{nothing, only}
use denote.Triple.Call.{calls_at}
use denote.Triple.Clauses.{Lasts, lasts}
use denote.Triple.Spec.{triple_of}
use denote.Triple.Table.{framed}
use denote.Triple.Walked.{says, Stays, stay_dropped, walk_of, ends_at}
use mir.MapTy.{inst_fn}
use mir.Raw.{raw as bare}
use mir.Syntax.{a_type, dcons, dnil}
use mir.Val.{Val}
use prog.Wp.{WpFn}
use types.ByLocal.{alloc_all, pass_all, free_all, look_at, get, sets, lands_as}
use types.Kit.{‵, raw, prop, ◌⊛◌, some, later, ◌$◌, ◌∵◌, !, qed, move, drop, split, split3, join, fsplit, fjoin, pick, regoal, suffices, use0, use1, await, feq_l, done}
use types.Logic.{sem}
use types.Part.{agg}
use types.Run.{of_opd, no_more, and_then, returns, enter}
use Rattle.std.proofs.BoxSteps.Form as box
use Rattle.std.proofs.BoxSteps.Steps.{box_out, box_in}
use Rattle.std.proofs.Common.{List, [], ◌∷◌, ◌++◌, refl, ap, ◌∙◌}
use Rattle.std.proofs.alloc.Calls.{Goes-blank}
use Rattle.std.proofs.boxed.Box.into_raw.Met.{met}
use Rattle.std.proofs.impls.GlobalAllocator.TheImpl.Met.{passed}
use Rattle.std.proofs.raw_atomic.Walks.{proved_at}
use Rattle.std.specs.contracts.alloc.Global as global
use Rattle.std.specs.contracts.boxed.Box as std_box
use Rattle.std.specs.contracts.boxed.Box.into_raw as into_raw
use Rattle.std.specs.contracts.impls.GlobalAllocator.TheImpl.{ghosts, dict}
use Rattle.weirbowl.specs.Ownership.{may_free, owned_at}
use Rattle.weirbowl.specs.contracts.raw_box.RawBox.from_box.{ended, clauses}
use Rattle.weirbowl.specs.contracts.raw_box.RawBox.from_box.Key.{name as #from_box}
use Rattle.weirbowl.proofs.Destruct++none.drop.Code.{code as none}
use Rattle.weirbowl.proofs.Heap.{heap, heap_laws, heap_drop, box_in_heap}
use Rattle.weirbowl.proofs.OnePointer.{struct_of, closes_raw}
use Rattle.weirbowl.proofs.raw_box.RawBox.from_box.Code as code
use Rattle.weirbowl.proofs.raw_box.RawBox.from_box.Statement.{statement}

pub from_box_spec : {M : Type 1} → statement M
unfolding none
from_box_spec {M} 𝓤 𝓛 𝓜 𝓡 wired T laws drops glue =
    let 𝓣 = tables 𝓤 𝓛.H 𝓜 𝓡 𝓡.env in
    let B = box_in_heap T laws in
    let given = bounded (a_type ∷ []) (T, tt) (dcons drops dnil) in
    let fn = inst_fn given code.function in
    let c = clauses T drops 𝓛 𝓜.mem 𝓡.returns in
    let a_box = plain (λ _. std_box.the_row (param 0 T) global.the_row ghosts) in
    let left : Stays (ended T drops).signature.params (ended T drops).kept = (stay_dropped a_box no, tt) in
    proved_at 𝓛 (ended T drops) left c 𝓜 𝓡 (Goes-blank 𝓛 1 a_box no (λ κs x w. tt), tt)
    (#from_box given) fn (code.unfolded 𝓤 𝓛.H 𝓜 𝓡 wired (T, tt) drops) (λ bound are.
    let κs = bound.0.0 in
    let boxed = bound.0.3.0 in
    let alive = ‵ (flft κs.0 bound.0.1.0) in
    let runs : List Val → SProp 𝓤 = λ vs. WpFn 𝓤 𝓛.H 𝓣.C 𝓣.Λ fn vs ((walk_of 𝓛 (ended T drops) left c).post bound) in
    qed 𝓛 (((alive ⊛ ‵ ftrue) ⊛ ‵ (owns (types_at (ended T drops).signature.params κs) bound.0.3 bound.0.4))
    ∷ (raw (fact 𝓤 (κs.0 ⊑ T.lives)) ⊛ ‵ ftrue) ∷ []) ∵
    split ! $ move ! (1 ∷ []) $ fsplit ! $
    -- the box as one machine value
    box_out B ! boxed bound.0.4.0 (λ b o h leads stored fits.
    box_in B ! boxed b o boxed.value leads refl $
    let value : Val = box.word B h b o in
    let typed = box.box_typed B h b o fits in
    -- what `into_raw` requires and ensures at this box
    let asks = into_raw.signature T heap ghosts dict heap_drop drops in
    let ends = into_raw.ended T heap ghosts dict heap_drop drops in
    let k = triple_of 𝓛 asks (into_raw.spec T heap ghosts dict heap_drop drops 𝓛 𝓜.mem 𝓡.returns) in
    let at : k.Ghost = (((κs.0, ([], tt)), (bound.0.1.0, (full_share, tt)), tt, (boxed, tt), (value ∷ [], tt)), tt) in
    let both_alive = alive ⊛ ‵ (flft [] full_share) ⊛ ‵ ftrue in
    let allocates = passed 𝓡.env (code.calls-std_heap::GlobalAllocator::allocate 𝓡.env wired)
    (code.calls-std_heap::GlobalAllocator::deallocate 𝓡.env wired) (code.calls-std_heap::GlobalAllocator::grow 𝓡.env wired)
    (code.calls-std_heap::GlobalAllocator::shrink 𝓡.env wired) M 𝓤 𝓛 𝓜 𝓡 in
    let drops_heap = glues "weirbowl::Destruct++none::drop" 𝓡.env (code.calls-weirbowl::Destruct++none::drop 𝓡.env wired)
    heap heap_laws M 𝓤 𝓛 𝓜 𝓡 in
    let is_met = met 𝓤 𝓛 𝓜 𝓡 (code.calls-std_alloc::boxed::Box::into_raw 𝓡.env wired)
    T heap laws heap_laws ghosts dict heap_drop drops allocates drops_heap glue in
    -- the box among the arguments
    fjoin ! $
    -- the lifetimes: that of the box, and the empty one of the handle of the allocator
    move ! (1 ∷ []) $ split ! $ move ! (1 ∷ []) $ use0 𝓛 (‵ (flft [] full_share)) (𝓛.lfts.lft-nil full_share) $ join ! $
    move ! (1 ∷ 0 ∷ []) $ join ! $ join ! $
    -- that both outlive what they should
    move ! (1 ∷ []) $ split ! $ move ! (1 ∷ []) $
    use0 𝓛 (raw (fact 𝓤 ([] ⊑ heap.lives))) (fact_i 𝓤 ([] ⊑ heap.lives) (emp 𝓤) (⊑_refl [])) $ join ! $
    move ! (1 ∷ 0 ∷ []) $ join ! $
    move ! (1 ∷ 0 ∷ []) $ join ! $ use1 𝓛 (raw (k.pre at)) (id⊢ 𝓤 _) $
    regoal ! (λ vs. prop (runs vs)) (ap (λ vs. vs ++ []) stored) refl $
    enter ! _ _ _ _ _ $ alloc_all ! (λ l. pass_all ! refl (typed, tt) $
    -- let address = Box::into_raw(boxed);
    sets ! (of_opd ! (get ! refl)) refl typed $
    calls_at ! (framed 𝓤 𝓛.H 𝓜 𝓣) k is_met at (and_then ! (get ! refl) (no_more !)) (λ got.
    use1 𝓛 (later (some (λ (p : Ptr). (both_alive ⊛ ‵ (RawPtr.own_val p (got ∷ [])))
    ⊛ some (λ (ws : Lasts ends at.0.0 at.0.3). ‵ (lasts ends at.0.0 at.0.3 ws) ⊛ ‵ (owned_at (param 0 T) p boxed.value))))) (id⊢ 𝓤 _) $
    await ! tt $ pick ! (λ p. split ! $ move ! (1 ∷ []) $ pick ! (λ _. split ! $ drop ! $
    in_a_block ! p (λ p. owned_at (param 0 T) p boxed.value) (fst∗ 𝓤 (never 𝓤) (sem 𝓛 (may_free (bare (layout T)) null_ptr))) (λ b' o' leads'.
    move ! (1 ∷ []) $ split ! $ move ! (1 ∷ []) $ feq_l ! (λ is_pointer.
    lands_as ! (ap only (is_pointer ∙ ap (λ (p : Ptr). ptr_val p ∷ []) leads')) refl (tt, tt) $
    -- RawBox { address }
    sets ! (agg ! (and_then ! (get ! refl) (no_more !))) refl (tt, (tt, tt)) $
    move ! (1 ∷ []) $ closes_raw (param 0 T) ! b' o' boxed.value $
    returns ! (look_at ! 0 refl) $ free_all ! refl $
    -- of the lifetimes only the box's is the function's
    move ! (1 ∷ []) $ split3 ! $ move ! (1 ∷ []) $ drop ! $ join ! $ move ! (1 ∷ 0 ∷ []) $
    suffices ! _ (ends_at 𝓛 (ended T drops) left c bound (struct_of b' o') (record { address = block_ptr b' o'; value = boxed.value })
    (tt, tt) (tt, tt)) $
    says ! refl $
    nothing ! $ nothing ! $ fjoin ! $ join ! $ move ! (1 ∷ 0 ∷ []) $ join ! $ done !))))))))
