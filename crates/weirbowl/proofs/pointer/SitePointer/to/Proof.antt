-- `to`, by its statements: the pointer is read out of the one struct, cast, and stored in the other. What it owns is
-- handed on, and nothing of it is read.
use base.Fml.{ftrue}
use base.Logic.{SProp, emp}
use contract.Running.{tables}
use denote.Exit.{yes}
use denote.RattleType.{owns}
use denote.RawPtr.{block_ptr}
use denote.Signature.{types_at, plain}
use denote.Steps.{nothing}
use denote.Triple.Walked.{says, Stays, stay_dropped, walk_of, ends_at, Goes-dropped}
use mir.Val.{Val}
use prog.Wp.{WpFn}
use types.ByLocal.{alloc_all, pass_all, free_all, look_at, get, get_in, sets}
use types.Kit.{‵, raw, prop, ◌⊛◌, ◌$◌, ◌∵◌, !, qed, move, drop, join, split, fsplit, fjoin, regoal, suffices, done}
use types.Part.{whole, sub, agg}
use types.Run.{stop, fld, no_more, and_then, of_opd, returns, enter}
use Rattle.std.proofs.Common.{List, [], ◌∷◌, ◌++◌, refl, ap}
use Rattle.std.proofs.raw_atomic.Walks.{proved_at}
use Rattle.std.specs.Prelude.{Some}
use Rattle.weirbowl.proofs.embedded.EmbeddedSite.TheLaws as site
use Rattle.weirbowl.specs.contracts.pointer.SitePointer.to as f
use Rattle.weirbowl.proofs.OnePointer.{Site, RawBox, struct_of, opens_raw, closes_kept}
use Rattle.weirbowl.proofs.pointer.SitePointer.to.Code as code
use Rattle.weirbowl.proofs.pointer.SitePointer.to.Statement.{statement}

-- the argument is used up
abbrev left : Stays f.ended.signature.params f.ended.kept
left = (stay_dropped (plain (λ _. RawBox Site)) yes, tt)

pub to_spec : {M : Type 1} → statement M
to_spec 𝓤 𝓛 𝓜 𝓡 wired =
    let c = f.clauses 𝓛 𝓜.mem 𝓡.returns in
    let 𝓣 = tables 𝓤 𝓛.H 𝓜 𝓡 𝓡.env in
    proved_at 𝓛 f.ended left c 𝓜 𝓡 (Goes-dropped 𝓛 0 (plain (λ _. RawBox Site)) yes (λ κs x w. refl), tt)
    f.Key.name code.function (code.unfolded 𝓤 𝓛.H 𝓜 𝓡 wired) (λ bound are.
    let raw_box = bound.0.3.0 in
    let runs : List Val → SProp 𝓤 = λ vs. WpFn 𝓤 𝓛.H 𝓣.C 𝓣.Λ code.function vs ((walk_of 𝓛 f.ended left c).post bound) in
    qed 𝓛 ((‵ ftrue ⊛ ‵ (owns (types_at f.signature.params bound.0.0) bound.0.3 bound.0.4)) ∷ raw (emp 𝓤) ∷ []) ∵
    -- of the entry: no token, the struct, no clause
    split ! $ drop ! $ fsplit ! $
    opens_raw Site site.the_row_laws ! raw_box bound.0.4.0 (λ b o leads stored.
    move ! (1 ∷ []) $ drop ! $ move ! (1 ∷ []) $ drop ! $
    regoal ! (λ vs. prop (runs vs)) (ap (λ vs. vs ++ []) stored) refl $
    enter ! _ _ _ _ _ $ alloc_all ! (λ l. pass_all ! refl ((tt, (tt, tt)), tt) $
    -- let RawBox { address } = raw;
    sets ! (of_opd ! (get_in ! (fld ! refl (stop !)) (sub ! 0 refl (whole !)))) refl (tt, tt) $
    -- address as *mut u8
    sets ! (of_opd ! (get ! refl)) refl (tt, tt) $
    -- SitePointer { .. }
    sets ! (agg ! (and_then ! (get ! refl) (no_more !))) refl (tt, (tt, tt)) $
    returns ! (look_at ! 0 refl) $ free_all ! refl $
    closes_kept ! b o raw_box.value $
    suffices ! _ (ends_at 𝓛 f.ended left c bound (struct_of b o) (record { address = block_ptr b o; site = Some raw_box.value })
    (tt, tt) (tt, tt)) $
    says ! refl $
    nothing ! $ nothing ! $ fjoin ! $ join ! $ nothing ! $ join ! $ done !)))
