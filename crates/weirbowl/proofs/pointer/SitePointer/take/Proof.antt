-- `take`, by its statements: the address is read, and std's `from_raw` is called with it. What the pointer owned goes
-- into the box; the pointer itself stays as it was written, and owns nothing.
use base.Fml.{ftrue, flft}
use base.Fraction.{full_share}
use base.Logic.{emp, never, id⊢, fst∗}
use contract.BorrowLft.{◌⊑◌, ⊑_refl}
use contract.Monad.{fact, fact_i}
use contract.Running.{tables}
use denote.Exit.{yes}
use denote.Laws.{shows}
use denote.Memory.{cell_at, lone}
use denote.Param.NoDrop.{glues}
use denote.RawPtr.{Ptr, block_ptr, null_ptr, in_a_block}
use denote.Ref.{MutRef, mut_vals, mut_Tells}
use denote.Signature.{plain}
use denote.Steps.{nothing, opens, closes, heard, peeks, only}
use denote.Triple.Call.{calls_at_last}
use denote.Triple.Clauses.{Lasts, lasts}
use denote.Triple.Spec.{triple_of}
use denote.Triple.Table.{framed}
use denote.Triple.Walked.{says, Stays, stay_ref, stay_dropped, Goes-ref, Goes-dropped, walk_of, ends_at}
use lib.Dec.{T}
use mir.Raw.{raw as bare}
use mir.Syntax.{named}
use mir.Val.{Val, vptr, has_ty, WT}
use types.ByLocal.{alloc_all, pass_all, free_all, look_at, get, through, sets, lands_last, env}
use types.Kit.{at_ret, ‵, raw, ◌⊛◌, some, later, ◌$◌, ◌∵◌, !, qed, done, move, keep, use0, use1, drop, split, split3, join, fsplit, fsplit3, fjoin, feq_i, pick, await, rewrite, suffices, frame, group}
use types.Logic.{sem}
use types.Part.{whole, sub, look_in}
use types.Run.{enter, of_opd, load, stop, fld, no_more, and_then, first, blocks, exec, returns}
use Rattle.std.proofs.BoxSteps.Form as box
use Rattle.std.proofs.BoxSteps.Steps.{box_out, box_in}
use Rattle.std.proofs.Common.{◌≡◌, List, [], ◌∷◌, refl, sym, ap, ◌∙◌, subst}
use Rattle.std.proofs.VecSteps.Shapes.{after}
use Rattle.std.proofs.alloc.Global.TheLaws as global_laws
use Rattle.std.proofs.boxed.Box.from_raw.Met.{met}
use Rattle.std.proofs.impls.GlobalAllocator.TheImpl.Met.{passed}
use Rattle.std.proofs.raw_atomic.Walks.{proved}
use Rattle.std.specs.Prelude.{Some, None, is_some, true}
use Rattle.std.specs.contracts.alloc.Global as global
use Rattle.std.specs.contracts.boxed.Box.from_raw as from_raw
use Rattle.std.specs.contracts.impls.GlobalAllocator.TheImpl.{ghosts, dict}
use Rattle.weirbowl.specs.Ownership.{may_free, owned_at, site_at}
use Rattle.weirbowl.specs.contracts.pointer.SitePointer.take as f
use Rattle.weirbowl.proofs.Destruct++none.drop.Code.{code as none}
use Rattle.weirbowl.proofs.Heap.{as_argument, heap, heap_laws, heap_drop, box_in_heap, site_laws}
use Rattle.weirbowl.proofs.OnePointer.{Site, SitePointer, value_there}
use Rattle.weirbowl.proofs.pointer.SitePointer.TheLaws.{lowers}
use Rattle.weirbowl.proofs.pointer.SitePointer.take.Code as code
use Rattle.weirbowl.proofs.pointer.SitePointer.take.Statement.{statement}

-- the pointer is still the function's at the end, the handle of the allocator is used up
abbrev left : Stays f.ended.signature.params f.ended.kept
left = (stay_ref (0 ∷ []) tt (plain (λ _. SitePointer)), (stay_dropped (plain (λ _. global.the_row)) yes, tt))

pub take_spec : {M : Type 1} → statement M
unfolding none
take_spec {M} 𝓤 𝓛 𝓜 𝓡 wired =
    let 𝓣 = tables 𝓤 𝓛.H 𝓜 𝓡 𝓡.env in
    let c = f.clauses 𝓛 𝓜.mem 𝓡.returns in
    let X = as_argument Site in
    let B = box_in_heap X site_laws in
    proved 𝓛 f.ended left c 𝓜 𝓡
    (Goes-ref 𝓛 1 0 tt (plain (λ _. SitePointer)), (Goes-dropped 𝓛 1 (plain (λ _. global.the_row)) yes (λ κs x w. refl), tt))
    f.Key.name code.function (code.unfolded 𝓤 𝓛.H 𝓜 𝓡 wired)
    (λ κs. (mut_vals, ((λ a. global_laws.lowers.lowered a ∷ []), tt)))
    (λ κs. (mut_Tells (named 0) κs.0 SitePointer, (global_laws.lowers.val_is, tt))) (λ κs qs bounds a g are.
    let pointer = a.0.now in
    let b = a.0.ref_ptr.0 in
    let o = a.0.ref_ptr.1 in
    let alloc = a.1.0 in
    let handle = global_laws.lowers.lowered alloc in
    let bound : (walk_of 𝓛 f.ended left c).Ghost = ((κs, qs, bounds, a, (mut_vals a.0, (handle ∷ [], tt))), g) in
    let self = (MutRef (named 0) κs.0 SitePointer).own_val a.0 (mut_vals a.0) in
    qed 𝓛 (((‵ (flft κs.0 qs.0) ⊛ ‵ ftrue) ⊛ ‵ self ⊛ ‵ (global.the_row.own_val alloc (handle ∷ [])) ⊛ ‵ ftrue)
    ∷ raw (fact 𝓤 (is_some pointer.site ≡ true)) ∷ []) ∵
    -- there is a site
    move ! (1 ∷ []) $ heard ! _ (λ is_there.
    let there = value_there pointer.site is_there in
    let was = there.0 in
    -- the token of the lifetime, the handle, `self`
    split ! $ split ! $ move ! (2 ∷ []) $ split3 ! $ keep ! (0 ∷ 3 ∷ 1 ∷ []) $
    enter ! _ _ _ _ _ $ alloc_all ! (λ l. pass_all ! refl ((tt, tt), ((tt, ((tt, tt), tt)), tt)) $
    -- behind `self` lies a pointer into a block
    fsplit3 ! $ move ! (1 ∷ 2 ∷ 3 ∷ []) $ opens ! tt SitePointer b o (λ us.
    move ! (1 ∷ []) $ peeks ! SitePointer _ (shows 𝓛 SitePointer) pointer us (λ is. fsplit ! $ move ! (1 ∷ []) $
    rewrite ! 0 (λ (s : _). ‵ (site_at pointer.address s)) there.1 refl $
    in_a_block ! pointer.address (λ p. owned_at Site p was) (fst∗ 𝓤 (never 𝓤) (sem 𝓛 (may_free (bare (lone Site.mir)) null_ptr))) (λ b' o' leads.
    let cell = λ (vs : List Val). ‵ (cell_at full_share SitePointer.mir vs b o) in
    let stored = lowers.val_is pointer us is ∙ ap (λ (p : Ptr). lowers.lowered (record pointer { address = p }) ∷ []) leads in
    rewrite ! 2 cell stored refl $
    -- what `from_raw` requires and ensures at this address
    let asks = from_raw.signature X heap ghosts dict heap_drop in
    let ends = from_raw.ended X heap ghosts dict heap_drop in
    let k = triple_of 𝓛 asks (from_raw.spec X heap ghosts dict heap_drop 𝓛 𝓜.mem 𝓡.returns) in
    let at : k.Ghost = (
      (
        ([], ([], tt)),
        (full_share, (full_share, tt)),
        tt,
        (alloc, (block_ptr b' o', tt)),
        (handle ∷ [], (vptr b' o' ∷ [], tt)),
      ),
      was,
    ) in
    let allocates = passed 𝓡.env (code.calls-std_heap::GlobalAllocator::allocate 𝓡.env wired)
    (code.calls-std_heap::GlobalAllocator::deallocate 𝓡.env wired) (code.calls-std_heap::GlobalAllocator::grow 𝓡.env wired)
    (code.calls-std_heap::GlobalAllocator::shrink 𝓡.env wired) M 𝓤 𝓛 𝓜 𝓡 in
    let drops_heap = glues "weirbowl::Destruct++none::drop" 𝓡.env (code.calls-weirbowl::Destruct++none::drop 𝓡.env wired)
    heap heap_laws M 𝓤 𝓛 𝓜 𝓡 in
    let is_met = met 𝓤 𝓛 𝓜 𝓡 (code.calls-std_alloc::boxed::Box::from_raw 𝓡.env wired)
    X heap site_laws heap_laws ghosts dict heap_drop allocates drops_heap in
    -- let address = self.address;
    sets ! (of_opd ! (load ! (through ! refl (fld ! refl (stop !))) (look_in ! 2 (sub ! 0 refl (whole !))))) refl (tt, tt) $
    first ! $ blocks ! $
    -- address as *mut EmbeddedSite
    sets ! (of_opd ! (get ! refl)) refl (tt, tt) $
    -- to the site: that the empty lifetime is outlived, the arguments, the tokens of the empty lifetime
    use0 𝓛 (raw (fact 𝓤 ([] ⊑ heap.lives))) (fact_i 𝓤 ([] ⊑ heap.lives) (emp 𝓤) (⊑_refl [])) $ join ! $
    use0 𝓛 (raw (fact 𝓤 ([] ⊑ X.lives))) (fact_i 𝓤 ([] ⊑ X.lives) (emp 𝓤) (⊑_refl [])) $ join ! $
    move ! (7 ∷ []) $ nothing ! $
    feq_i ! (List Val) (vptr b' o' ∷ []) (vptr b' o' ∷ []) refl $ fjoin ! $ move ! (1 ∷ 0 ∷ []) $ fjoin ! $
    nothing ! $
    use0 𝓛 (‵ (flft [] full_share)) (𝓛.lfts.lft-nil full_share) $ join ! $
    use0 𝓛 (‵ (flft [] full_share)) (𝓛.lfts.lft-nil full_share) $ join ! $
    join ! $ join ! $ use1 𝓛 (raw (k.pre at)) (id⊢ 𝓤 _) $
    calls_at_last ! (framed 𝓤 𝓛.H 𝓜 𝓣) k is_met at (and_then ! (get ! refl) (and_then ! (get ! refl) (no_more !))) (λ got.
    let tokens = ‵ (flft [] full_share) ⊛ ‵ (flft [] full_share) ⊛ ‵ ftrue in
    use1 𝓛 (later (some (λ (r : (box.B B).Denot). (tokens ⊛ ‵ ((box.B B).own_val r (got ∷ [])))
    ⊛ some (λ (ws : Lasts ends at.0.0 at.0.3). ‵ (lasts ends at.0.0 at.0.3 ws)
    ⊛ (raw (fact 𝓤 (r.value ≡ was)) ⊛ raw (fact 𝓤 (r.alloc ≡ alloc))))))) (id⊢ 𝓤 _) $
    await ! tt $ pick ! (λ r. split ! $ move ! (1 ∷ []) $ pick ! (λ _.
    split3 ! $ drop ! $ heard ! (r.value ≡ was) (λ same. drop ! $ split ! $ drop ! $
    -- the box as one machine value, of the box's type
    box_out B ! r (got ∷ []) (λ b'' o'' h leads'' is_value fits.
    box_in B ! r b'' o'' r.value leads'' refl $
    rewrite ! 0 (λ (vs : List Val). ‵ ((box.B B).own_val r vs)) (sym is_value) refl $
    let typed : T (has_ty (box.box_ty B) got) × WT got =
    subst (λ (v : Val). T (has_ty (box.box_ty B) v) × WT v) (sym (ap only is_value)) (box.box_typed B h b'' o'' fits) in
    lands_last ! refl typed $
    exec ! 𝓣.C 𝓣.Λ (env code.Mir.locals l) (after 2 code.function.body) (at_ret _ ((walk_of 𝓛 f.ended left c).post bound)) $
    sets ! (of_opd ! (get ! refl)) refl typed $
    -- `self` is closed again, with no site
    let emptied = record pointer { site = None } in
    rewrite ! 2 cell (sym stored) refl $
    nothing ! $ move ! (2 ∷ 0 ∷ []) $ fjoin ! $
    move ! (2 ∷ 0 ∷ 3 ∷ 4 ∷ 5 ∷ []) $ closes ! tt SitePointer emptied us b o $
    returns ! (look_at ! 0 refl) $ free_all ! refl $
    move ! (4 ∷ []) $
    suffices ! _ (ends_at 𝓛 f.ended left c bound got r (emptied, (tt, tt)) (tt, (tt, tt))) $
    says ! (there.1 ∙ ap Some (sym same), refl) $
    group ! 3 $
    nothing ! $ nothing ! $ join ! $ move ! (1 ∷ 0 ∷ []) $ join ! $
    nothing ! $ move ! (2 ∷ 0 ∷ []) $ join ! $ frame ! $ frame ! $ done !)))))))))))
