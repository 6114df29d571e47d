-- The global allocator, and the type of a site, as the arguments of std's generic functions over boxes.
use denote.Exit.{no}
use denote.Param.{arg, layout}
use denote.Param.Laws.{Laws, arg_laws}
use denote.RattleType.{RattleType}
use mathlib.Core.List.{[], ◌∷◌}
use mathlib.Core.Path.{refl}
use mir.Raw.{raw as bare}
use mir.Syntax.{Dict, impl, tcons, tnil, dnil}
use Rattle.std.proofs.alloc.Global.TheLaws as global_laws
use Rattle.std.proofs.BoxSteps.Form.{Bx}
use Rattle.std.specs.contracts.alloc.Global as global
use Rattle.weirbowl.proofs.embedded.EmbeddedSite.TheLaws as site
use Rattle.weirbowl.specs.contracts.embedded.EmbeddedSite as site_row
use Rattle.std.specs.contracts.impls.GlobalAllocator.TheImpl.{ghosts, dict}

abbrev pub as_argument : RattleType → RattleType
as_argument R = arg (bare (layout R)) no R

abbrev pub heap : RattleType
heap = as_argument global.the_row

abbrev pub heap_laws : Laws heap
heap_laws = arg_laws (bare (layout global.the_row)) no global.the_row global_laws.the_row_laws refl

-- its drop, which does nothing
abbrev pub heap_drop : Dict
heap_drop = impl ("weirbowl::Destruct++none::drop" ∷ []) (tcons (layout heap) tnil) dnil

-- a box of values of X there
abbrev pub box_in_heap : (X : RattleType) → Laws X → Bx
box_in_heap X laws = record {
  row = X;
  laws = laws;
  al = record { row = heap; laws = heap_laws; g = ghosts; d = dict; drops = heap_drop };
}

-- the laws of a site's type as an argument
abbrev pub site_laws : Laws (as_argument site_row.the_row)
site_laws = arg_laws (bare (layout site_row.the_row)) no site_row.the_row site.the_row_laws refl
